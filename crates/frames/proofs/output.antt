-- What the proofs of output.rt share.
pub mod Filling
