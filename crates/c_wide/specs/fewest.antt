pub mod Changes
pub mod Combined
pub mod Tight
pub mod Priced
pub mod Answers
pub mod Ends
