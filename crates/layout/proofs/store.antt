-- What the proofs of store.rt share.
pub mod Chunks
pub mod Encoding
