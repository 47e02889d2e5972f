pub mod Bytes
pub mod Ideal
pub mod Keys
pub mod Written
pub mod Rehearsal
