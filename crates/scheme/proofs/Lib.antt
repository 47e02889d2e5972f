pub mod Bytes
mod Committee
mod Digest
mod Ideal
mod Lines
pub mod Members
mod Written
