-- The symbol mark, of which document 01 says: "The mark is `symbol_at`; one at or past the token count means none." Two marks that agree wherever a token stands are read alike.
-- Assumes nothing.
use Rattle.std.specs.Prelude.{◌≡◌, List, ℕ, ◌≤◌, eqb}
use Rattle.names.specs.Tokens.{count}
use Rattle.names.specs.Places.{stands}
use Rattle.names.specs.declared.tokens.Token.{Token}
use Rattle.operand.specs.Entry.{Input, tokens_of, place_of}
use Rattle.operand.specs.Settings.{with_setting}

-- ---- of a whole call

-- the same input with another mark
abbrev pub remarked : Input → ℕ → Input
remarked a n = with_setting a n a.limit

-- both marks agree wherever a token stands
abbrev pub MarksAgree : Input → ℕ → Type 0
MarksAgree a n = (i : ℕ) (k : Token) (x : List ℕ) → place_of a i ≡ stands k x → eqb a.mark i ≡ eqb n i

-- both are at or past the token count
abbrev pub MarksPast : Input → ℕ → Type 0
MarksPast a n = (count (tokens_of a) ≤ a.mark) × (count (tokens_of a) ≤ n)
