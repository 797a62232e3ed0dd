pub mod Covered
pub mod Later
pub mod PairSums
pub mod Parts
pub mod RankLaws
pub mod Reading
