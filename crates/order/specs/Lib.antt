pub mod Chains
pub mod Marks
