-- The cursor: the text of the token that stands there, and the places it goes to.
-- Assumes nothing.
use Rattle.std.specs.Prelude.{◌≡◌, refl, Bool, true, false, Option, Some, None, List, [], ℕ, ◌+◌, ◌≤◌, leb}
use Rattle.std.proofs.Common.{arith, leb-true}
use Rattle.names.specs.Choice.{pick}
use Rattle.names.specs.Tokens.{count, token_at}
use Rattle.names.specs.Places.{text_of, live}
use Rattle.names.specs.declared.tokens.Token.{Token}

-- the text of a token, or no bytes
unfoldable pub text_from : List ℕ → Option Token → List ℕ
text_from L None = []
text_from L (Some t) = text_of L t.start t.end

unfoldable pub text_at : List ℕ → List ℕ → ℕ → List ℕ
text_at L T i = text_from L (token_at T i)

-- a place, or the end where it lies behind it
unfoldable pub place_in : List ℕ → ℕ → ℕ
place_in T i = pick (leb i (count T)) i (count T)

-- behind a token; where none stands, the cursor stays
unfoldable pub behind : Option Token → ℕ → ℕ
behind None i = i
behind (Some t) i = i + 1

unfoldable pub next_place : List ℕ → ℕ → ℕ
next_place T i = behind (token_at T i) i

-- by what stands there
pub text_there : (L T : List ℕ) (i : ℕ) (t : Token) → token_at T i ≡ Some t → text_at L T i ≡ text_of L t.start t.end
unfolding text_at text_from
text_there L T i t e = rw e

pub text_nowhere : (L T : List ℕ) (i : ℕ) → token_at T i ≡ None → text_at L T i ≡ []
unfolding text_at text_from
text_nowhere L T i e = rw e

pub next_there : (T : List ℕ) (i : ℕ) (t : Token) → token_at T i ≡ Some t → next_place T i ≡ i + 1
unfolding next_place behind
next_there T i t e = rw e

pub next_nowhere : (T : List ℕ) (i : ℕ) → token_at T i ≡ None → next_place T i ≡ i
unfolding next_place behind
next_nowhere T i e = rw e

-- the cursor never passes the end, where a reader starts and where it goes on
pub starts_within : (T : List ℕ) (i : ℕ) → place_in T i ≤ count T
unfolding place_in
starts_within T i = go (leb i (count T)) refl
  where
    go : (b : Bool) → leb i (count T) ≡ b → pick b i (count T) ≤ count T
    go true e = leb-true i (count T) e
    go false e = omega arith

pub stays_within : (T : List ℕ) (i : ℕ) → i ≤ count T → next_place T i ≤ count T
unfolding next_place behind
stays_within T i h = go (token_at T i) refl
  where
    go : (p : Option Token) → token_at T i ≡ p → behind p i ≤ count T
    go None e = h
    go (Some t) e = let l = live T i t e in omega arith
