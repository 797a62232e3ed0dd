mod Answering
pub mod Fitting
mod MendedPlans
