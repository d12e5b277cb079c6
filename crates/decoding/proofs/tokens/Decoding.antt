-- Tokens decoded one behind the other.
-- Assumes nothing.
use mathlib.Core.Path.{◌≡◌, refl, sym, ◌∙◌, ap, ap₂}
use mathlib.Core.Bool.{Bool, ◌&&◌}
use mathlib.Core.List.{List, [], ◌∷◌, ◌++◌}
use Prim.Native.Nat.{ℕ, zero, suc, ◌+◌, ◌*◌, ◌/◌, ◌≤◌, ◌<◌}
use native.Mathlib.Nat.{add-zero}
use native.Mathlib.Omega.{arith}
use borrow.Author.Tests.{le-leb, lt-leb}
use lib.ListN.{length, take, drop, get_or, set}
use lib.Seq.{length-take-le, take-add, paste, paste-zero}
use Rattle.names.specs.Choice.{pick, both}
use Rattle.names.specs.Laws.{both_true, both_assoc, and_both}
use Rattle.names.specs.Tokens.{count}
use Rattle.records.specs.Stores.{written}
use Rattle.records.specs.Written.{written_take, written_on, written_not, paste_on, paste_all}
use Rattle.operand.specs.declared.layouts.Layout.{Layout}
use Rattle.operand.specs.Layouts.{token_size, joined, joined_tokens, token_numbers, numbers_count}
use Rattle.operand.specs.RefusalNumbers
use Rattle.operand.specs.Entry.{good_token, good_tokens}
use Rattle.operand.specs.Listed.{four, tokens_end, tokens_from}
use Rattle.decoding.specs.Tokens.{decodes, decoded, Decoded}

-- four stores, one behind the other
pub four_written : (M : List ℕ) (p a b c d : ℕ) → p + 4 ≤ length M
    → set (set (set (set M p a) (p + 1) b) (p + 2) c) (p + 3) d ≡ written M p (a ∷ b ∷ c ∷ d ∷ [])
four_written M p a b c d h =
    let s : List ℕ = a ∷ b ∷ c ∷ d ∷ [] in
    let none : M ≡ paste M p s 0 = paste-zero M p s in
    let one : set M p a ≡ paste M p s 1 = ap₂ (λ l k. set l k a) none (sym (add-zero p)) ∙ paste_on M p s 0 (omega arith) (omega arith) in
    ap (λ l. set (set (set l (p + 1) b) (p + 2) c) (p + 3) d) one
    ∙ ap (λ l. set (set l (p + 2) c) (p + 3) d) (paste_on M p s 1 (omega arith) (omega arith))
    ∙ ap (λ l. set l (p + 3) d) (paste_on M p s 2 (omega arith) (omega arith))
    ∙ paste_on M p s 3 (omega arith) (omega arith)
    ∙ paste_all M p s 4 (omega arith) refl

-- ---- decoded one behind the other

module _ (T M : List ℕ) where
  pub one_decoded : (i : ℕ) → i < count T → (k d s e : ℕ) → k ≡ get_or T (4 * i) 0 → d ≡ get_or T (4 * i + 1) 0 → s ≡ get_or T (4 * i + 2) 0 → e ≡ get_or T (4 * i + 3) 0
      → (M₁ M₂ : List ℕ) → 4 * count T ≤ length M → M₁ ≡ written M 0 (take (4 * i) T) → M₂ ≡ written M₁ (4 * i) (k ∷ d ∷ s ∷ e ∷ []) → M₂ ≡ written M 0 (take (4 * (i + 1)) T)
  one_decoded i h k d s e k_is d_is s_is e_is M₁ M₂ r told f =
      let x : List ℕ = k ∷ d ∷ s ∷ e ∷ [] in
      let l : length (take (4 * i) T) ≡ 4 * i = length-take-le (4 * i) T (omega arith) in
      let n : 4 * (i + 1) ≡ 4 * i + 4 = omega arith in
      let more : take (4 * (i + 1)) T ≡ take (4 * i) T ++ x =
      ap (λ j. take j T) n ∙ take-add (4 * i) 4 T ∙ ap (λ z. take (4 * i) T ++ take 4 z) (four T i h) ∙ rw (k_is, d_is, s_is, e_is) refl in
      written_on M M₁ M₂ 0 (4 * i) (take (4 * i) T) x told (omega arith) f (omega arith) ∙ ap (written M 0) (sym more)

  -- narrow ones are the bytes
  pub narrow_decoded : (n : ℕ) → n ≡ count T → written M 0 (take (4 * n) T) ≡ decoded Layout.Narrow T M
  unfolding decoded token_numbers
  narrow_decoded n e = ap (λ k. written M 0 (take (4 * k) T)) e

  module _ (w : Layout) (B : List ℕ) (is : T ≡ token_numbers w B) where
    pub all_decoded : (M' : List ℕ) (i : ℕ) → i ≡ count T → M' ≡ written M 0 (take (4 * i) T) → M' ≡ decoded w B M
    unfolding decoded
    all_decoded M' i same f = f ∙ ap (λ j. written M 0 (take (4 * j) T)) same ∙ rw is refl

-- ---- looked at one behind the other

module _ (L T : List ℕ) (i : ℕ) where
  pub one_good : i < count T → (k d s e : ℕ) → k ≡ get_or T (4 * i) 0 → d ≡ get_or T (4 * i + 1) 0 → s ≡ get_or T (4 * i + 2) 0 → e ≡ get_or T (4 * i + 3) 0
      → (g b : Bool) (p : ℕ) → b ≡ good_token L p k d s e → both (g && b) (good_tokens L e (drop (4 * (i + 1)) T)) ≡ both g (good_tokens L p (drop (4 * i) T))
  one_good h k d s e k_is d_is s_is e_is g b p f =
      ap (λ z. both z (good_tokens L e (drop (4 * (i + 1)) T))) (and_both g b)
      ∙ both_assoc g b (good_tokens L e (drop (4 * (i + 1)) T))
      ∙ ap (both g) (rw (f, k_is, d_is, s_is, e_is) (sym (tokens_from L p T i h)))

  pub all_good : (g : Bool) (p : ℕ) → count T ≤ i → both g (good_tokens L p (drop (4 * i) T)) ≡ good_tokens L 0 T → g ≡ good_tokens L 0 T
  all_good g p h e = sym (both_true g) ∙ ap (both g) (sym (tokens_end L p T i h)) ∙ e

-- a rest that is no whole token is not looked at
whole : (L T : List ℕ) (p : ℕ) → good_tokens L p (take (4 * count T) T) ≡ good_tokens L p T
unfolding good_tokens
whole L [] p = refl
whole L (k ∷ []) p = refl
whole L (k ∷ d ∷ []) p = refl
whole L (k ∷ d ∷ s ∷ []) p = refl
whole L (k ∷ d ∷ s ∷ e ∷ ts) p =
    let n : 4 * count (k ∷ d ∷ s ∷ e ∷ ts) ≡ suc (suc (suc (suc (4 * count ts)))) = omega arith in
    rw n (ap (both (good_token L p k d s e)) (whole L ts e))

-- a list of n tokens, without room for them
pub unfit : {w : Layout} {L B M : List ℕ} {n : ℕ} → n ≡ length B / token_size w → length M < 4 * n → Decoded w L B M M RefusalNumbers.bad_token
unfolding decodes decoded
unfit {w} {L} {B} {M} {n} counted h =
    let X : List ℕ = token_numbers w B in
    let same : n ≡ count X = omega (arith, counted, numbers_count w B) in
    record {
      refusal = sym (rw (lt-leb (4 * count X) (length M) (omega arith)));
      numbers = sym (written_not M 0 _ (omega (arith, length-take-le (4 * count X) X (omega arith))));
    }

-- and with room
pub all_told : {w : Layout} {L B M M' : List ℕ} {n : ℕ} {r b : Bool} → n ≡ length B / token_size w → 4 * n ≤ length M → M' ≡ decoded w B M → r ≡ good_tokens L 0 (take (4 * n) M') → r ≡ b
    → Decoded w L B M M' (pick b 0 RefusalNumbers.bad_token)
unfolding decodes decoded
all_told {w} {L} {B} {M} {n = n} counted h f e is =
    let X : List ℕ = token_numbers w B in
    let same : n ≡ count X = omega (arith, counted, numbers_count w B) in
    let x : List ℕ = take (4 * count X) X in
    let l : length x ≡ 4 * count X = length-take-le (4 * count X) X (omega arith) in
    let k : 4 * n ≡ 0 + length x = omega arith in
    let front : take (4 * n) (written M 0 x) ≡ x = ap (λ j. take j (written M 0 x)) k ∙ written_take M 0 x (omega arith) in
    record {
      refusal =
          ap (λ t. pick t 0 RefusalNumbers.bad_token)
          (sym is ∙ e ∙ ap (λ z. good_tokens L 0 (take (4 * n) z)) f ∙ ap (good_tokens L 0) front ∙ whole L X 0 ∙ sym (rw (le-leb (4 * count X) (length M) (omega arith))));
      numbers = f;
    }

-- ---- a wide token's bytes

pub joined_at : (T : List ℕ) (i : ℕ) → i < length T / 6
    → (get_or (joined_tokens T) (4 * i) 0 ≡ get_or T (6 * i) 0)
    × (get_or (joined_tokens T) (4 * i + 1) 0 ≡ get_or T (6 * i + 1) 0)
    × (get_or (joined_tokens T) (4 * i + 2) 0 ≡ joined (get_or T (6 * i + 2) 0) (get_or T (6 * i + 3) 0))
    × (get_or (joined_tokens T) (4 * i + 3) 0 ≡ joined (get_or T (6 * i + 4) 0) (get_or T (6 * i + 5) 0))
unfolding joined_tokens
joined_at [] i h = absurd (omega arith)
joined_at (k ∷ []) i h = absurd (omega arith)
joined_at (k ∷ d ∷ []) i h = absurd (omega arith)
joined_at (k ∷ d ∷ s ∷ []) i h = absurd (omega arith)
joined_at (k ∷ d ∷ s ∷ s₂ ∷ []) i h = absurd (omega arith)
joined_at (k ∷ d ∷ s ∷ s₂ ∷ e ∷ []) i h = absurd (omega arith)
joined_at (k ∷ d ∷ s ∷ s₂ ∷ e ∷ e₂ ∷ ts) zero h = (refl, refl, refl, refl)
joined_at (k ∷ d ∷ s ∷ s₂ ∷ e ∷ e₂ ∷ ts) (suc i) h =
    let four : (j : ℕ) → 4 * suc i + j ≡ suc (suc (suc (suc (4 * i + j)))) = λ j. omega arith in
    let six : (j : ℕ) → 6 * suc i + j ≡ suc (suc (suc (suc (suc (suc (6 * i + j)))))) = λ j. omega arith in
    let four₀ : 4 * suc i ≡ suc (suc (suc (suc (4 * i)))) = omega arith in
    let six₀ : 6 * suc i ≡ suc (suc (suc (suc (suc (suc (6 * i)))))) = omega arith in
    let e = joined_at ts i (omega arith) in
    (rw (four₀, six₀) e.0, rw (four 1, six 1) e.1, rw (four 2, six 2, six 3) e.2, rw (four 3, six 4, six 5) e.3)
