-- What the proofs of call.rt share.
pub mod Puts
