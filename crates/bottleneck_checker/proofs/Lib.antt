pub mod Bottlenecks
pub mod Below
pub mod WorstCosts
