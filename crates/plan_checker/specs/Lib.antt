pub mod Next
pub mod Only
pub mod Ranks
pub mod inside
