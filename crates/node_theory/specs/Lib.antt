pub mod State
pub mod Shelf
pub mod Making
pub mod Settling
pub mod Handling
