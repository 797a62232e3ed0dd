-- Definitions that no public contract names, by which the program is proved.
pub mod Boxed
pub mod Hand
pub mod Lists
pub mod Passing
pub mod Working
