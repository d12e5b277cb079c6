-- What the proofs of terms.rt share.
pub mod Returns
pub mod Closings
pub mod Climbs
pub mod Turns
