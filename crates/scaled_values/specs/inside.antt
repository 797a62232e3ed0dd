pub mod Range
pub mod Stored
pub mod Made
