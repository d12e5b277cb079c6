-- What stands at a place: nothing, or a token with the bytes of its text.
-- Assumes nothing.
use Rattle.std.specs.Prelude.{◌≡◌, refl, Bool, true, false, Option, Some, None, List, [], ℕ, ◌-◌, ◌<◌, leb, length, take, drop}
use Rattle.std.proofs.Common.{leb-false}
use Rattle.names.specs.Choice.{pick, both}
use Rattle.names.specs.Tokens.{count, token_from, token_at}
use Rattle.names.specs.declared.tokens.Token.{Token}

-- the part of a line under a span, empty where the span does not lie within the line
unfoldable pub text_of : List ℕ → ℕ → ℕ → List ℕ
text_of L start end = pick (both (leb start end) (leb end (length L))) (take (end - start) (drop start L)) []

pub data Place : Type 0 where
  nothing : Place
  stands : Token → List ℕ → Place

-- a token with its text
unfoldable pub placed : List ℕ → Option Token → Place
placed L None = nothing
placed L (Some t) = stands t (text_of L t.start t.end)

unfoldable pub place : List ℕ → List ℕ → ℕ → Place
place L T i = placed L (token_at T i)

-- a token stands below the count
pub below : (L T : List ℕ) (i : ℕ) (t : Token) (x : List ℕ) → place L T i ≡ stands t x → i < count T
unfolding place placed token_at
below L T i t x h = go (leb (count T) i) refl h
  where
    go : (b : Bool) → leb (count T) i ≡ b → placed L (pick b None (Some (token_from T i))) ≡ stands t x → i < count T
    go true q g = absurd cc
    go false q g = leb-false (count T) i q

-- by what the list has there
pub there : (L T : List ℕ) (i : ℕ) (t : Token) → token_at T i ≡ Some t → place L T i ≡ stands t (text_of L t.start t.end)
unfolding place placed
there L T i t e = rw e

pub nowhere : (L T : List ℕ) (i : ℕ) → token_at T i ≡ None → place L T i ≡ nothing
unfolding place placed
nowhere L T i e = rw e

pub live : (T : List ℕ) (i : ℕ) (t : Token) → token_at T i ≡ Some t → i < count T
live T i t e = below [] T i t _ (there [] T i t e)
