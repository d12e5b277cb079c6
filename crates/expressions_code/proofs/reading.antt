-- What the proofs of reading.rt share.
pub mod Kept
