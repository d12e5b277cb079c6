-- What the proofs of several modules share; what those of one share stands in its folder.
pub mod Rooms
pub mod Holdings
pub mod Next
