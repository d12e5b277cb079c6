-- What the proofs of hex.rt share.
pub mod Digits
pub mod Decoding
