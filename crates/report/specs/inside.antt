-- Definitions that no public contract names, by which the program is proved.
pub mod Numerals
pub mod WordsLeft
pub mod Reading
pub mod Steps
pub mod SeenLines
pub mod SeenDrafts
pub mod SeenSteps
pub mod Holding
