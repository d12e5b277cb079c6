-- What the proofs of leaves.rt share.
pub mod Returns
