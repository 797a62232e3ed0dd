pub mod Parts
pub mod Units
pub mod Pairs
pub mod Costs
pub mod Given
pub mod Ends
