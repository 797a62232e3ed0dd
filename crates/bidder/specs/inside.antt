pub mod Limits
pub mod Near
