pub mod Input
pub mod Faults
pub mod Shapes
pub mod Ends
pub mod Answers
pub mod Checks
