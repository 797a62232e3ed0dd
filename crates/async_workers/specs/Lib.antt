pub mod Views
pub mod PlaceRule
pub mod Desk
pub mod Lending
pub mod Session
pub mod Turns
pub mod Solving
pub mod inside
