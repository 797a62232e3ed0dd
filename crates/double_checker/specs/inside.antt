pub mod Sizes
pub mod Parts
pub mod Pairs
pub mod Plans
pub mod Outcome
pub mod Halls
