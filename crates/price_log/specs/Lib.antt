pub mod History
pub mod Changes
