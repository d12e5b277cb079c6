-- What the proofs of record.rt share.
pub mod Parts
