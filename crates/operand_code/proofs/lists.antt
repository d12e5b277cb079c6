-- What the proofs of lists.rt share.
pub mod Ranges
pub mod Turns
