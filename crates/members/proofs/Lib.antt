mod Digits
pub mod Sets
