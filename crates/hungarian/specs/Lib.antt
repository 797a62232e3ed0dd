pub mod Outcomes
pub mod inside
