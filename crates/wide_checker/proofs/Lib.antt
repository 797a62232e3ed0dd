pub mod Words
pub mod Limits
pub mod WideOwns
mod WideDuality
