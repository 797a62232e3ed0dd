pub mod Marks
pub mod Growing
pub mod Climbing
pub mod Marking
pub mod Refuting
pub mod Searching
pub mod Determined
