-- What the proofs of reading.rt share.
pub mod Cleared
pub mod Marked
