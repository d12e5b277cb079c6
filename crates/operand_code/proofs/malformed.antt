-- What the proofs of malformed.rt share.
pub mod Failures
