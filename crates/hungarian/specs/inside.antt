pub mod Plans
pub mod Trees
pub mod Stored
