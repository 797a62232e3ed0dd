pub mod Scaled
pub mod Limits
pub mod Held
pub mod inside
