pub mod Kept
pub mod Streams
pub mod Numbers
pub mod Grammar
pub mod Gathered
pub mod Taking
pub mod Runs
