-- The call.
-- what is asked and told
pub mod Call
