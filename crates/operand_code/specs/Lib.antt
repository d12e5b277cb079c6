-- The functions that read an operand.
-- what is asked and told
pub mod Operands
pub mod Lookahead
pub mod Bases
pub mod Lists
pub mod Memory
pub mod Absolutes
pub mod Reading
pub mod Told
