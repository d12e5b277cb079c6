-- The tests of a token's text, each at what the code looks at: a sign's text, a number's prefix.
-- Assumes nothing.
use mathlib.Core.Path.{◌≡◌, refl, sym, ◌∙◌, ap}
use mathlib.Core.Bool.{Bool, true, false, ◌&&◌}
use mathlib.Core.List.{List, [], ◌∷◌, map}
use Prim.Native.Nat.{ℕ, zero, suc, ◌+◌, ◌≤◌, ◌<◌}
use Prim.Native.String.{String}
use native.Mathlib.Omega.{arith}
use borrow.Author.Tests.{eq-eqb, ne_eqb, eqb-true, eqb-false}
use lib.Dec.{eqb}
use lib.ListN.{length, get_or}
use Rattle.std.proofs.lemmas.Grind.{get_or_default_zero}
use lib.Pointwise.{pointwise}
use Rattle.std.specs.List.{starts_with}
use Rattle.names.specs.Choice.{pick, both}
use Rattle.names.specs.Letters.{bytes, same}
use Rattle.names.specs.Laws.{true_false, and_both, same_true}
use Rattle.operand.specs.Entry.{signs, spelled_as, prefixed}

-- ---- a sign's text

-- the library's equality of slices
pub same_slices : (x y : List ℕ) → pointwise eqb x y ≡ same x y
unfolding same
same_slices [] [] = refl
same_slices [] (d ∷ y) = refl
same_slices (c ∷ x) [] = refl
same_slices (c ∷ x) (d ∷ y) = and_both (eqb c d) (pointwise eqb x y) ∙ ap (both (eqb c d)) (same_slices x y)

-- ---- the table of the signs

-- a test passes at each number from m up to m + n
abbrev passes : (ℕ → Bool) → ℕ → ℕ → Bool
passes f m zero = true
passes f m (suc n) = both (f m) (passes f (suc m) n)

passes_at : (f : ℕ → Bool) (m n k : ℕ) → passes f m n ≡ true → m ≤ k → k < m + n → f k ≡ true
passes_at f m zero k p l h = absurd (omega arith)
passes_at f m (suc n) k p l h = go (f m) refl (eqb k m) refl p (λ a b. passes_at f (suc m) n k a b (omega arith))
  where
    go : (c : Bool) → f m ≡ c → (b : Bool) → eqb k m ≡ b → both c (passes f (suc m) n) ≡ true → (passes f (suc m) n ≡ true → suc m ≤ k → f k ≡ true) → f k ≡ true
    go false e b q p ih = absurd (true_false (sym p))
    go true e true q p ih = rw (eqb-true k m q) e
    go true e false q p ih = let g : k ≡ m → ⊥ = eqb-false k m q in ih p (omega arith)

abbrev pub sign_bytes : List ℕ
sign_bytes =
    35 ∷ 44 ∷ 40 ∷ 41 ∷ 91 ∷ 93 ∷ 123 ∷ 125 ∷ 58 ∷ 43 ∷ 45 ∷ 42 ∷ 47 ∷ 92 ∷ 38 ∷ 33 ∷ 124 ∷ 94 ∷ 126 ∷ 60 ∷ 62 ∷ []

abbrev words : List (List ℕ)
words = map bytes signs

spelled_word : (ws : List String) (n : ℕ) (x : List ℕ) → n < length ws → spelled_as ws n x ≡ same x (get_or (map bytes ws) n [])
unfolding spelled_as
spelled_word [] n x h = absurd (omega arith)
spelled_word (w ∷ ws) zero x h = refl
spelled_word (w ∷ ws) (suc n) x h = spelled_word ws n x (omega arith)

spelled_any : (ws : List String) (n : ℕ) (x : List ℕ) → length ws ≤ n → spelled_as ws n x ≡ true
unfolding spelled_as
spelled_any [] n x h = refl
spelled_any (w ∷ ws) zero x h = absurd (omega arith)
spelled_any (w ∷ ws) (suc n) x h = spelled_any ws n x (omega arith)

word_once : (n : ℕ) → n < 19 → get_or words n [] ≡ get_or sign_bytes n 0 ∷ []
unfolding same
word_once n h = same_true _ _ (passes_at (λ k. same (get_or words k []) (get_or sign_bytes k 0 ∷ [])) 0 19 n refl (omega arith) (omega arith))

word_twice : (n : ℕ) → 19 ≤ n → n < 21 → get_or words n [] ≡ get_or sign_bytes n 0 ∷ get_or sign_bytes n 0 ∷ []
unfolding same
word_twice n l h = same_true _ _ (passes_at (λ k. same (get_or words k []) (get_or sign_bytes k 0 ∷ get_or sign_bytes k 0 ∷ [])) 19 2 n refl l (omega arith))

-- the byte that is looked up in the table
pub sign_byte : (b m n : ℕ) → b ≡ get_or sign_bytes m b → m ≡ n → n < 21 → b ≡ get_or sign_bytes n 0
sign_byte b m n e f h = e ∙ ap (λ k. get_or sign_bytes k b) f ∙ get_or_default_zero sign_bytes n b h

module _ (x : List ℕ) (n : ℕ) where
  pub sign_any : 21 ≤ n → spelled_as signs n x ≡ true
  sign_any h = spelled_any signs n x h

  pub sign_once : n < 19 → spelled_as signs n x ≡ same x (get_or sign_bytes n 0 ∷ [])
  sign_once h = spelled_word signs n x (omega arith) ∙ ap (same x) (word_once n h)

  pub sign_twice : 19 ≤ n → n < 21 → spelled_as signs n x ≡ same x (get_or sign_bytes n 0 ∷ get_or sign_bytes n 0 ∷ [])
  sign_twice l h = spelled_word signs n x h ∙ ap (same x) (word_twice n l h)

-- ---- a number's prefix

pub prefixed_none : (base : ℕ) (x : List ℕ) → base ≡ 0 → true ≡ prefixed base x
unfolding prefixed
prefixed_none base [] h = sym (eq-eqb base 0 h)
prefixed_none base (c ∷ cs) h = rw (eq-eqb base 0 h)

-- at its one byte
pub prefixed_by : (base : ℕ) (x : List ℕ) → (base ≡ 0 → ⊥) → starts_with eqb x (pick (eqb base 1) 36 (pick (eqb base 2) 37 64) ∷ []) ≡ prefixed base x
unfolding prefixed
prefixed_by base [] n = sym (ne_eqb base 0 n)
prefixed_by base (c ∷ cs) n = let b = pick (eqb base 1) 36 (pick (eqb base 2) 37 64) in rw (ne_eqb base 0 n) (go b (eqb b c) refl)
  where
    go : (b : ℕ) (t : Bool) → eqb b c ≡ t → (eqb b c && true) ≡ eqb c b
    go b true e = let s : c ≡ b = omega (arith, eqb-true b c e) in rw (e, eq-eqb c b s)
    go b false e = rw (e, ne_eqb c b (λ s. eqb-false b c e (sym s)))
