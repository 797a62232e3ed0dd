pub mod ListedCosts
pub mod Given
pub mod Source
pub mod Exact
pub mod Own
pub mod Blocks
