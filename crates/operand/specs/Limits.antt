-- The nesting limit, of which document 02 says: "A reading that raises no NestingTooDeep at one limit has the same answer at every higher one."
-- Assumes nothing.
use Rattle.std.specs.Prelude.{◌≡◌, List, ℕ, ◌≤◌, ◌<◌, get_or}
use Rattle.records.specs.DiagnosticKinds
use Rattle.operand.specs.declared.layouts.Layout.{Layout}
use Rattle.operand.specs.Entry.{Input, highest_limit}
use Rattle.operand.specs.Conditions.{record_at}
use Rattle.operand.specs.Settings.{with_setting}

-- ---- of a whole call

-- the same input with another limit
abbrev pub limited : Input → ℕ → Input
limited a n = with_setting a a.mark n

-- both limits are lawful, and the second is not the lower one
pub record Higher (a : Input) (n : ℕ) : Type 0 where
  pub lowest : 1 ≤ a.limit
  pub higher : a.limit ≤ n
  pub highest : n ≤ highest_limit

-- ---- as a caller sees it: by the kinds of the records

-- no record of these is of kind 6
abbrev pub NoneTooDeep : Layout → List ℕ → ℕ → Type 0
NoneTooDeep w D added = (i : ℕ) → i < added → get_or (record_at w D i) 0 0 ≡ DiagnosticKinds.nesting_too_deep → ⊥
