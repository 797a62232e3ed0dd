pub mod Ranges
pub mod FullRows
pub mod BenefitRange
pub mod EpsList
pub mod RowFacts
