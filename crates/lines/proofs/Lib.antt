mod Keeping
mod Both
mod Digits
mod Cuts
mod Taking
mod Decoding
pub mod Pairs
