pub mod Keccak
pub mod Tables
pub mod Sponge
pub mod Feeding
pub mod Holding
pub mod Pieces
pub mod Examples
