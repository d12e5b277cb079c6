-- The exported call.
-- the definition
pub mod Exported
-- the laws
pub mod Conditions
