mod Lists
mod Authors
pub mod Kept
