pub mod Sums
pub mod Earliest
pub mod Marked
