pub mod Tokens
pub mod Wanted
pub mod Numbers
pub mod Texts
pub mod FaultText
pub mod inside
