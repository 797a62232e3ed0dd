pub mod Units
pub mod DoubleRows
pub mod Prices
pub mod Margins
