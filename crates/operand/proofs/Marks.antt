-- The symbol mark, of which document 01 says: "The mark is `symbol_at`; one at or past the token count means none." Two marks that agree wherever a token stands are read alike.
-- Assumes nothing.
use Rattle.std.specs.Prelude.{◌≡◌, refl, List, ℕ, ◌≤◌, ◌<◌, eqb}
use Rattle.std.proofs.Common.{sym, ◌∙◌, arith, ne_eqb}
use Rattle.names.specs.Tokens.{count}
use Rattle.names.specs.Places.{Place, stands, place, below}
use Rattle.names.specs.declared.tokens.Token.{Token}
use Rattle.expressions.specs.Alike.{Any, alike_run, same_alike}
use Rattle.operand.specs.Operand.{reading_of}
use Rattle.operand.specs.Entry.{Input, tokens_of, place_of, refusals, refusal, reading_at, outcome}
use Rattle.operand.proofs.Settings.{reading_alike, outcome_alike}
use Rattle.operand.specs.Marks.{remarked, MarksAgree, MarksPast}

-- two marks that agree wherever a token stands give the same reading
pub reading_same : (at : ℕ → Place) (limit m n : ℕ) → ((i : ℕ) (k : Token) (x : List ℕ) → at i ≡ stands k x → eqb m i ≡ eqb n i)
    → (i : ℕ) → reading_of limit m at i ≡ reading_of limit n at i
unfolding reading_of
reading_same at limit m n agree i = alike_run (reading_alike Any at limit limit m n agree (λ j l. same_alike) (λ e j l. same_alike) i)

-- two marks at or past the token count agree so
past_agree : (L T : List ℕ) (m n : ℕ) → count T ≤ m → count T ≤ n → (i : ℕ) (k : Token) (x : List ℕ) → place L T i ≡ stands k x → eqb m i ≡ eqb n i
past_agree L T m n past past' i k x e = go (below L T i k x e)
  where
    go : i < count T → eqb m i ≡ eqb n i
    go less = ne_eqb m i (omega arith) ∙ sym (ne_eqb n i (omega arith))

-- "one at or past the token count means none": any two such marks give the same reading
pub marks_past : (limit : ℕ) (L T : List ℕ) (m n : ℕ) → count T ≤ m → count T ≤ n
    → (i : ℕ) → reading_of limit m (place L T) i ≡ reading_of limit n (place L T) i
marks_past limit L T m n past past' i = reading_same (place L T) limit m n (past_agree L T m n past past') i

pub marks_agree : (a : Input) (n : ℕ) → MarksPast a n → MarksAgree a n
marks_agree a n h = past_agree a.line (tokens_of a) a.mark n h.0 h.1

-- no refusal looks at the mark
pub refusal_same : (a : Input) (n : ℕ) → refusal a ≡ refusal (remarked a n)
unfolding refusal refusals
refusal_same a n = refl

pub reading_remarked : (a : Input) (n : ℕ) → MarksAgree a n → reading_at a ≡ reading_at (remarked a n)
reading_remarked a n agree = reading_same (place_of a) a.limit a.mark n agree a.start

-- the answer and every byte of both stores are the same
pub outcome_same : (a : Input) (n : ℕ) → MarksAgree a n → outcome a ≡ outcome (remarked a n)
outcome_same a n agree = outcome_alike a n a.limit (refusal_same a n) (reading_remarked a n agree)

-- "one at or past the token count means none", of the whole outcome
pub outcome_past : (a : Input) (n : ℕ) → MarksPast a n → outcome a ≡ outcome (remarked a n)
outcome_past a n h = outcome_same a n (marks_agree a n h)
