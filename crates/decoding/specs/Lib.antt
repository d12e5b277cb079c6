-- The tokens of a call.
-- what is told
pub mod Tokens
