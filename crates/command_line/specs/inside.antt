-- Definitions for contracts and lemmas inside the crate, which no public contract names.
pub mod Words
