pub mod Answers
pub mod Next
pub mod NextAnswers
pub mod Unique
pub mod Ranked
pub mod RankedAnswers
pub mod Groups
pub mod GroupAnswers
