pub mod Scans
pub mod Once
pub mod Sound
pub mod Entries
pub mod Accepted
pub mod Skips
pub mod Nears
pub mod Lanes
