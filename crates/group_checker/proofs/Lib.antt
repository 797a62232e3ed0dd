pub mod Changes
pub mod Cycles
pub mod Kept
pub mod Parts
pub mod Reading
pub mod Sums
pub mod Trees
