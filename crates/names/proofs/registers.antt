-- What the proofs of registers.rt share.
pub mod Pairs
pub mod Specials
