-- Two settings that are read alike: marks that agree wherever a token stands, and limits at which an expression is read alike. Marks.antt and Limits.antt use it.
-- Assumes nothing.
use Prim.Native.Nat.{ℕ}
use Rattle.operand.specs.Entry.{Input, call}

-- ---- of a whole call

-- the same input with another mark and limit
abbrev pub with_setting : Input → ℕ → ℕ → Input
with_setting a mark limit = call a.layout a.line a.tokens a.start mark limit a.nodes a.diagnostics a.used
