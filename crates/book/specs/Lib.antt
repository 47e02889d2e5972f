pub mod Content
pub mod Views
pub mod Lent
pub mod Memory
pub mod Meeting
pub mod Books
