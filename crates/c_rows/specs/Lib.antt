pub mod Answers
pub mod Codes
pub mod Costs
pub mod Input
pub mod Lists
pub mod Reports
