-- The token list: four numbers a token, its kind, detail, start and end.
-- Assumes nothing.
use Rattle.std.specs.Prelude.{◌≡◌, ◌≤◌, MatchOption, Bool, Option, Some, None, List, ℕ, ◌+◌, ◌*◌, ◌/◌, ◌<◌, leb, ltb, eqb, length, get_or}
use borrow.Author.Tests.{le-leb, lt-leb}
use Rattle.names.specs.Choice.{pick, both}
use Rattle.names.specs.Kinds.{number, string_literal}
use Rattle.names.specs.declared.tokens.Token.{Token}

-- how many tokens a list has
abbrev pub count : List ℕ → ℕ
count T = length T / 4

abbrev pub token_from : List ℕ → ℕ → Token
token_from T i = record { kind = get_or T (4 * i) 0; detail = get_or T (4 * i + 1) 0; start = get_or T (4 * i + 2) 0; end = get_or T (4 * i + 3) 0 }

-- the token at a place; from the count on there is none
unfoldable pub token_at : List ℕ → ℕ → Option Token
token_at T i = pick (leb (count T) i) None (Some (token_from T i))

-- the token t at a place of a list whose items become numbers by R
pub record TokenIn {A : Type 0} (R : A → ℕ → Type 0) (T : List A) (i : ℕ) (t : Token) : Type 0 where
  pub inside : i < length T / 4
  pub kind : (x : A) → R (get_or T (4 * i) x) t.kind
  pub detail : (x : A) → R (get_or T (4 * i + 1) x) t.detail
  pub start : (x : A) → R (get_or T (4 * i + 2) x) t.start
  pub end : (x : A) → R (get_or T (4 * i + 3) x) t.end

-- it, or none from the list's end on
abbrev pub TokenRead : {A : Type 0} → (A → ℕ → Type 0) → List A → ℕ → Option Token → Type 0
TokenRead R T i r = MatchOption r (length T / 4 ≤ i) (TokenIn R T i)

-- of numbers, each of which becomes itself, it is `token_at`
pub token_told : (T : List ℕ) (i : ℕ) (r : Option Token) → TokenRead (λ x y. y ≡ x) T i r → r ≡ token_at T i
unfolding token_at
token_told T i None h = rw (le-leb (count T) i h)
token_told T i (Some t) h = rw (lt-leb (count T) i h.inside, h.kind 0, h.detail 0, h.start 0, h.end 0)

-- the kinds are 0 to 29; the detail of a number is its base, 0 to 3, of a string its quote, 0 or 1, of any other kind 0
unfoldable pub detail_defined : ℕ → ℕ → Bool
detail_defined kind detail = pick (eqb kind number) (ltb detail 4) (pick (eqb kind string_literal) (ltb detail 2) (both (eqb detail 0) (ltb kind 30)))
