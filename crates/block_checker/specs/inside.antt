pub mod Least
pub mod Marks
pub mod Reading
