pub mod Steps
pub mod Kept
pub mod Held
pub mod Gathered
