-- What the proofs of a module share stands in the folder of that module.
-- The laws.
pub mod Cutting
