-- What the reader struct gives.
-- the definition, and its laws
pub mod Cursor
