pub mod Texts
pub mod Solving
pub mod Costs
pub mod Reports
