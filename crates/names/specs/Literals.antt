-- Quoted literals.
-- Assumes nothing.
use Rattle.std.specs.Prelude.{◌≡◌, Option, Some, None, List, [], ◌∷◌, ◌++◌, ℕ, ◌<◌, leb, eqb, length, drop}
use Rattle.names.specs.Choice.{pick}

-- behind the opening quote q: a doubled quote is one quote, a single one closes, and so does the text's end
unfoldable pub quoted : ℕ → List ℕ → List ℕ
quoted q [] = []
quoted q (c ∷ []) = pick (eqb c q) [] (c ∷ [])
quoted q (c ∷ d ∷ ds) = pick (eqb c q) (pick (eqb d q) (c ∷ quoted q ds) []) (c ∷ quoted q (d ∷ ds))

-- `string_literal_bytes`: the first byte is the quote, whatever it is
unfoldable pub literal_bytes : List ℕ → List ℕ
literal_bytes [] = []
literal_bytes (q ∷ cs) = quoted q cs

-- the bytes b stored in O, or no room for them and O as it was
pub record Stored (b O O' : List ℕ) (r : Option ℕ) : Type 0 where
  pub answer : r ≡ pick (leb (length b) (length O)) (Some (length b)) None
  pub store : O' ≡ pick (leb (length b) (length O)) (b ++ drop (length b) O) O

-- the first byte c of what stands inside, and what is left behind it
abbrev pub FirstInner : ℕ → List ℕ → ℕ → List ℕ → Type 0
FirstInner q inside c rest = (quoted q inside ≡ c ∷ quoted q rest) × (length rest < length inside)
