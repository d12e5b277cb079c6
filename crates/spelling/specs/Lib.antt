-- How operands are spelled.
-- the definition: the grammar
pub mod Signs
pub mod Expressions
pub mod Spelling
-- the laws: what is shown of the grammar
pub mod Conditions
pub mod Answers
pub mod Manual
-- the laws: from a spelling to its reading
-- the laws: from a reading to its spelling
pub mod Silence
