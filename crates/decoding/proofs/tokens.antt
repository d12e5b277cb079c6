-- What the proofs of tokens.rt share.
pub mod Checks
pub mod Decoding
