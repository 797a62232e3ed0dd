pub mod Input
pub mod Lists
pub mod Sums
pub mod Answers
pub mod Ends
pub mod Checks
pub mod Outputs
pub mod Ones
