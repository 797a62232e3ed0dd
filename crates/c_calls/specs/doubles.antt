pub mod Input
pub mod Faults
pub mod Answers
pub mod Ends
pub mod Checks
