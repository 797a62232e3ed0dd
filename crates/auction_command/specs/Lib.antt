pub mod Solve
pub mod Findings
pub mod Verify
pub mod Program
pub mod inside
