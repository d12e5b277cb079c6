-- What the proofs of reply.rt share.
pub mod Putting
pub mod Replies
