pub mod Answering
pub mod Cheaper
