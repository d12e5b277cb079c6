-- The laws.
pub mod Limits
pub mod Costs
pub mod Grown
pub mod Offsets
