-- The levels and the numbers of the operators.
-- Assumes nothing.
use Rattle.std.specs.Prelude.{ℕ, eqb, leb}
use Rattle.names.specs.Choice.{pick, either}
use Rattle.names.specs.Kinds
use Rattle.expressions.specs.Reader.{Test}

-- a binary operator's level, and 0 for any other kind
unfoldable pub precedence : ℕ → ℕ
precedence kind =
    pick (either (eqb kind Kinds.shift_left) (eqb kind Kinds.shift_right)) 4
    (pick (either (eqb kind Kinds.ampersand) (either (eqb kind Kinds.bang) (either (eqb kind Kinds.pipe) (eqb kind Kinds.caret)))) 3
    (pick (either (eqb kind Kinds.star) (either (eqb kind Kinds.slash) (eqb kind Kinds.backslash))) 2
    (pick (either (eqb kind Kinds.plus) (eqb kind Kinds.minus)) 1 0)))

-- `BinaryOperator`, from 0; either sign of or is the same
unfoldable pub binary_operator : ℕ → ℕ
binary_operator kind =
    pick (eqb kind Kinds.plus) 0
    (pick (eqb kind Kinds.minus) 1
    (pick (eqb kind Kinds.star) 2
    (pick (eqb kind Kinds.slash) 3
    (pick (eqb kind Kinds.backslash) 4
    (pick (eqb kind Kinds.ampersand) 5
    (pick (either (eqb kind Kinds.bang) (eqb kind Kinds.pipe)) 6
    (pick (eqb kind Kinds.caret) 7
    (pick (eqb kind Kinds.shift_left) 8 9))))))))

-- an operator of at least a level. The least level is 1, where the Rust starts from 0
unfoldable pub operator : ℕ → Test
operator min k x = leb min (precedence k.kind)

unfoldable pub is_unary : Test
is_unary k x = either (eqb k.kind Kinds.minus) (eqb k.kind Kinds.tilde)

-- `UnaryOperator`, from 0
unfoldable pub unary_operator : ℕ → ℕ
unary_operator kind = pick (eqb kind Kinds.minus) 0 1
