-- What the proofs of indexes.rt share.
pub mod Returns
