pub mod Earliest
pub mod PairSums
pub mod RowSums
pub mod Better
pub mod Unowned
pub mod Differences
mod HallDifferences
mod HallPairs
pub mod Ranks
pub mod OwnMarks
mod Marks
