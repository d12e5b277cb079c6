-- What the proofs of operands.rt share.
pub mod Returns
pub mod Behind
