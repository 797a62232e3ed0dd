pub mod Far
pub mod Verdicts
pub mod HallVerdicts
pub mod inside
