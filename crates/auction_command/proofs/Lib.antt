pub mod Costs
pub mod Ends
pub mod Findings
pub mod Verdicts
pub mod Settled
pub mod Starts
