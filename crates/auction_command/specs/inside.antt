-- Definitions for contracts and lemmas inside the program, which no public contract names.
pub mod Solve
pub mod Program
