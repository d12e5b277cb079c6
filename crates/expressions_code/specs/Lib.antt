-- The functions that read terms and expressions.
-- what is asked and told
pub mod Numbers
pub mod Terms
pub mod Reading
-- the laws
pub mod Roots
pub mod Answers
pub mod Left
