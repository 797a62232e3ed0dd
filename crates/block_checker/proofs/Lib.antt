pub mod LeastSums
pub mod OwnMarks
pub mod ListedSums
pub mod BoundedRows
pub mod GivenPairs
pub mod Written
