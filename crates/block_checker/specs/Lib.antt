pub mod Sums
pub mod Pairs
pub mod Closed
pub mod inside
