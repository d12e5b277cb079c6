-- What the proofs of batches.rt share.
pub mod Turns
