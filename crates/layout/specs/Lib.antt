-- The bytes of docs/FORMAT.md: the entry's promise and what follows from it; how the lent bytes are written.
-- what is told
pub mod Promise
pub mod Nodes
pub mod Diagnostics
pub mod Record
pub mod Head
pub mod Cases
-- the laws
pub mod Answers
pub mod Stored
