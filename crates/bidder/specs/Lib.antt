pub mod BestTwo
pub mod Offers
pub mod inside
