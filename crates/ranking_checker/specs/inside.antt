pub mod Adding
pub mod Bases
pub mod Core
pub mod Parts
pub mod Trees
