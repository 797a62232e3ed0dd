pub mod Bottleneck
pub mod inside
