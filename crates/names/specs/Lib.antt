-- What the leaves mean.
-- the definition
pub mod Choice
pub mod Kinds
pub mod Tokens
pub mod Places
pub mod Letters
pub mod Registers
pub mod Sizes
pub mod Numbers
pub mod Literals
-- the definition: numbers of the cases, and what is told
pub mod Cases
-- the laws
pub mod Laws
pub mod Lowered
pub mod Reserved
