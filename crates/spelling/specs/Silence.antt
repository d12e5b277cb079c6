-- What a reading has met that raises nothing: the way from a reading to its spelling.
-- Assumes nothing.
use Rattle.std.specs.Prelude.{◌≡◌, true, false, List, ℕ, ◌+◌, ◌≤◌, ◌<◌, eqb}
use Rattle.names.specs.Kinds
use Rattle.names.specs.Places.{Place, stands}
use Rattle.names.specs.declared.tokens.Token.{Token}
use Rattle.expressions.specs.Reader.{Reader, answer, bind, here, raise, bump, peek}
use Rattle.expressions.specs.Laws.{holds}

-- Q of the cursor, of where the last token ended, and of the answer, whatever way the reader takes that raises nothing and steps over no Error token
unfoldable pub Silent : {A : Type 0} → Reader A → (ℕ → Place) → (ℕ → ℕ → A → Type 0) → ℕ → ℕ → Type 0
Silent (answer a) at Q i l = Q i l a
Silent (bind p f) at Q i l = Silent p at (λ j m b. Silent (f b) at Q j m) i l
Silent (here f) at Q i l = Silent (f i l) at Q i l
Silent (raise d p) at Q i l = Unit {0}
Silent (bump t y n) at Q i l =
    ((k : Token) (x : List ℕ) → at i ≡ stands k x → t k x ≡ true → eqb k.kind Kinds.error ≡ false → Silent (y k x) at Q (i + 1) k.end)
    × (holds t (at i) ≡ false → Silent (n tt) at Q i l)
Silent (peek a t y n) at Q i l =
    ((k : Token) (x : List ℕ) → at (i + a) ≡ stands k x → t k x ≡ true → Silent (y k x) at Q i l) × (holds t (at (i + a)) ≡ false → Silent (n tt) at Q i l)

-- no Error token from i up to j
pub record Unerring (at : ℕ → Place) (i j : ℕ) : Type 0 where
  pub none : (m : ℕ) (k : Token) (x : List ℕ) → i ≤ m → m < j → at m ≡ stands k x → eqb k.kind Kinds.error ≡ false

-- a record, so that a caller may write `_` for what it is of
pub record Quiet {A : Type 0} (p : Reader A) (at : ℕ → Place) (R : ℕ → ℕ → A → Type 0) (i l : ℕ) : Type 0 where
  pub all : Silent p at R i l
