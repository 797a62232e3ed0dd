pub mod Answers
pub mod Bottleneck
