pub mod Blocks
pub mod DoubleBlocks
