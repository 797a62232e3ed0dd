pub mod Ranking
pub mod inside
