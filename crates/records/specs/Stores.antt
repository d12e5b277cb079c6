-- The numbers of the stores, and what a record that is written comes to.
-- Assumes nothing.
use Rattle.std.specs.Prelude.{◌≡◌, List, [], ◌∷◌, ◌++◌, ℕ, ◌+◌, ◌-◌, ◌*◌, ◌≤◌, ◌<◌, leb, length, take, drop, replicate}
use Rattle.names.specs.Choice.{pick, both}
use Rattle.records.specs.Diagnostics.{diagnostic_record}
use Rattle.records.specs.declared.diagnostics.Diagnostic.{Diagnostic}

-- a store with these numbers from a place on, where they fit; else nothing moves
unfoldable pub written : {A : Type 0} → List A → ℕ → List A → List A
written N at b = pick (leb (at + length b) (length N)) ((take at N ++ b) ++ drop (at + length b) N) N

-- a store with 0 from f up to i, where that lies in it; else nothing moves
unfoldable pub cleared : List ℕ → ℕ → ℕ → List ℕ
cleared N f i = pick (both (leb f i) (leb i (length N))) ((take f N ++ replicate (i - f) 0) ++ drop i N) N

-- ---- a node

-- room for the n-th record
pub record PutAsks (N : List ℕ) (n : ℕ) : Type 0 where
  pub number : n < 65535
  pub long : 10 * n + 10 ≤ length N

-- the record b is the n-th; all other numbers stay
pub record PutTold (N N' : List ℕ) (n : ℕ) (b : List ℕ) (r : ℕ) : Type 0 where
  pub next : r ≡ n + 1
  pub bytes : take (10 * r) N' ≡ take (10 * n) N ++ b
  pub past : (k : ℕ) → n < k → drop (10 * k) N' ≡ drop (10 * k) N
  pub long : length N' ≡ length N

-- ---- a diagnostic

-- the record x is the d-th
pub record PushTold (D D' : List ℕ) (d : ℕ) (x : Diagnostic) (r : ℕ) : Type 0 where
  pub next : r ≡ d + 1
  pub more : D' ≡ written D (10 * d) (diagnostic_record x)

-- the diagnostics ds from the record d on
unfoldable pub added : List ℕ → ℕ → List Diagnostic → List ℕ
added D d [] = D
added D d (x ∷ ds) = added (written D (10 * d) (diagnostic_record x)) (d + 1) ds
