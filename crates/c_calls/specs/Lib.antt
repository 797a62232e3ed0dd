pub mod Sizes
pub mod Codes
pub mod lists
pub mod doubles
