-- `reader::Reader::advance` meets its contract: what `token_at` gives says which case of `next_place` holds.
-- Assumes nothing.
use Rattle.std.proofs.Common.{◌≡◌, refl, Option, Some, None, is_some, ℕ, ◌+◌}
use Rattle.names.specs.Choice.{pick}
use Rattle.names.specs.Tokens.{token_told}
use Rattle.names.specs.declared.tokens.Token.{Token}
use Rattle.reader.specs.Cursor.{behind, next_place}
use Rattle.reader.proofs.Reader.advance.Goals as goal

behind_is : (o : Option Token) (i : ℕ) → pick (is_some o) (i + 1) i ≡ behind o i
unfolding behind
behind_is None i = refl
behind_is (Some t) i = refl

pub returns-then-is_some : goal.returns-then-is_some
unfolding next_place
returns-then-is_some c =
    (refl, refl, rw (← token_told _ _ _ c.token_at.ensures, ← behind_is, ← c.is_some.ensures, c.if-is_some.true))

pub returns-else-is_some : goal.returns-else-is_some
unfolding next_place
returns-else-is_some c =
    (refl, refl, rw (← token_told _ _ _ c.token_at.ensures, ← behind_is, ← c.is_some.ensures, c.if-is_some.false))
