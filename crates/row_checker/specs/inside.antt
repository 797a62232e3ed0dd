pub mod Paths
pub mod Weights
