pub mod Firsts
pub mod Places
mod Given
pub mod Givings
pub mod Tallies
pub mod Worths
pub mod Differences
pub mod Fronts
pub mod HallMarking
pub mod HallFirsts
pub mod HallDifferences
pub mod HallFaults
pub mod RoundedSums
