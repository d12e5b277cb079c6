-- What the proofs of refusals.rt share.
pub mod Checks
