mod Refusals
mod DoubleBlocks
