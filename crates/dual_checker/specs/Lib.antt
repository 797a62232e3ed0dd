pub mod Counts
pub mod Faults
pub mod Verdicts
pub mod HallMarks
pub mod HallVerdicts
pub mod Confirmed
pub mod inside
