-- What the proofs of lookahead.rt share.
pub mod Names
pub mod Starts
