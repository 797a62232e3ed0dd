-- Definitions that no public contract names, by which the program is proved.
pub mod Books
pub mod Similar
pub mod Places
