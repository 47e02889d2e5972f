pub mod Words
pub mod Left
pub mod Numbers
pub mod Hex
pub mod Buffers
pub mod Chunks
pub mod Reading
