-- What the proofs of call.rt share.
pub mod Refusals
pub mod Outcomes
