-- What the proofs of letters.rt share.
pub mod Spelling
