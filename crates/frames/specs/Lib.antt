-- What the program answers.
-- the definition
pub mod Hex
pub mod Frame
pub mod Reply
pub mod Lines
-- what is asked and told
pub mod Machine
pub mod Batches
pub mod Program
pub mod Inner
-- the laws
pub mod Lent
pub mod Outcome
pub mod Lengths
pub mod Bounds
pub mod Cutting
pub mod Sample
