-- What the proofs of expressed.rt share.
pub mod Trees
