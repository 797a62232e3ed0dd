pub mod Groups
pub mod inside
