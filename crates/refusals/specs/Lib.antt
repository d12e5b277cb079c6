-- The refusals of a call, but for those of its tokens.
-- the laws
pub mod Refusals
