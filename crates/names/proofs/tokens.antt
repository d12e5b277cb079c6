-- What the proofs of tokens.rt share.
pub mod Lists
