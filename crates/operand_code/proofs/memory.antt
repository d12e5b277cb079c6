-- What the proofs of memory.rt share.
pub mod Inners
