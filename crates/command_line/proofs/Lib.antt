pub mod GivenLines
pub mod CommandLines
pub mod Choices
pub mod Subcommands
pub mod Rows
pub mod Numbers
