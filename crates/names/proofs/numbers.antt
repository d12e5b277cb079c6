-- What the proofs of numbers.rt share.
pub mod Figures
