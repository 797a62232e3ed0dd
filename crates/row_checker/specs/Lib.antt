pub mod Leaves
pub mod Rows
pub mod Trees
pub mod inside
