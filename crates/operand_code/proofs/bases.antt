-- What the proofs of bases.rt share.
pub mod Tails
pub mod Opened
