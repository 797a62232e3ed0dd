pub mod AddLaws
pub mod CoreLaws
pub mod PairLaws
pub mod PartLaws
pub mod TotalLaws
pub mod TreeLaws
