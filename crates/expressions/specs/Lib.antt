-- What reading an expression means.
-- the definition
pub mod Reader
pub mod Trees
pub mod Expressions
pub mod Records
-- what is told
pub mod Told
-- the laws
pub mod Examples
pub mod Laws
pub mod Levels
pub mod Alike
pub mod Fuel
pub mod Limits
pub mod Paths
