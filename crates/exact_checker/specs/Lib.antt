pub mod Faults
pub mod Under
pub mod Verdicts
pub mod HallVerdicts
pub mod inside
