-- The highest of the operators' levels.
-- Assumes nothing.
use Rattle.std.specs.Prelude.{Bool, true, false, ℕ, ◌≤◌, eqb}
use Rattle.std.proofs.Common.{arith}
use Rattle.names.specs.Choice.{pick, either}
use Rattle.names.specs.Kinds
use Rattle.expressions.specs.Expressions.{precedence}

pub precedence_most : (k : ℕ) → precedence k ≤ 4
unfolding precedence
precedence_most k =
    go (either (eqb k Kinds.shift_left) (eqb k Kinds.shift_right))
    (either (eqb k Kinds.ampersand) (either (eqb k Kinds.bang) (either (eqb k Kinds.pipe) (eqb k Kinds.caret))))
    (either (eqb k Kinds.star) (either (eqb k Kinds.slash) (eqb k Kinds.backslash))) (either (eqb k Kinds.plus) (eqb k Kinds.minus))
  where
    go : (a b c d : Bool) → pick a 4 (pick b 3 (pick c 2 (pick d 1 0))) ≤ 4
    go true b c d = omega arith
    go false true c d = omega arith
    go false false true d = omega arith
    go false false false true = omega arith
    go false false false false = omega arith
