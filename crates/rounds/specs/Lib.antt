pub mod Offers
pub mod Plain
pub mod Rounds
pub mod Outcomes
pub mod inside
