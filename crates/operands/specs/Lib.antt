-- The program.
-- what is told
pub mod Passing
