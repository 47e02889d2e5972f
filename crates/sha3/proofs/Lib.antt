mod Bytes
mod Feeding
mod Hashers
mod Pieces
mod Squeezing
