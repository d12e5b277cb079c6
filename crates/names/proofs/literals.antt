-- What the proofs of literals.rt share.
pub mod Quotes
