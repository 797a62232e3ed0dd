pub mod WideNumbers
pub mod WideLimits
pub mod WideSources
pub mod WideOptimum
pub mod WideVerdicts
pub mod inside
