-- Records of numbers in stores.
-- the definition
pub mod Spans
pub mod DiagnosticKinds
pub mod Shapes
pub mod Problems
pub mod Diagnostics
pub mod NodeKinds
pub mod Nodes
-- what is asked and told
pub mod Counters
pub mod Rooms
pub mod Stores
-- the laws
pub mod Written
pub mod Chunks
