-- Digits read, two after the other.
-- Assumes nothing.
use mathlib.Core.Path.{◌≡◌, refl, sym, ◌∙◌, ap, ap₂}
use mathlib.Core.Bool.{Bool, true, false}
use mathlib.Core.List.{List, [], ◌∷◌, ◌++◌, append_assoc, append-nil}
use Prim.Native.Nat.{ℕ, ◌+◌, ◌*◌, ◌/◌, ◌%◌, ◌≤◌, ◌<◌}
use native.Mathlib.Numerals.{add-one}
use native.Mathlib.Omega.{arith}
use lib.ListN.{length, take, drop, get_or, set, drop_of_length-le}
use lib.Seq.{take-suc-set}
use Rattle.std.proofs.lemmas.List.{length-drop, drop-drop}
use Rattle.std.specs.Simd.{first_chunks}
use Rattle.std.specs.Prelude.{Some, None}
use Rattle.std.proofs.lemmas.Option.{none-some}
use Rattle.names.specs.Choice.{pick, both}
use Rattle.records.specs.Chunks.{chunk}
use Rattle.frames.specs.Hex.{value, is_digit, spells, spelled}
use Rattle.frames.specs.Inner.{digit_value, Spelled}
use Rattle.frames.specs.Lengths.{length_spelled}

-- an odd number of characters
pub spells_odd : (x : List ℕ) → (length x % 2 ≡ 0 → ⊥) → spells x ≡ false
spells_odd x h = go (spells x) refl
  where
    go : (b : Bool) → spells x ≡ b → b ≡ false
    go true e = absurd (h (omega (arith, length_spelled x e)))
    go false e = refl

-- a character that is no digit, and one that is
digit_no : (c : ℕ) → None ≡ digit_value c → is_digit c ≡ false
digit_no c = go (is_digit c)
  where
    go : (b : Bool) → None ≡ pick b (Some (value c)) None → b ≡ false
    go true e = absurd (none-some _ e)
    go false e = refl

digit_yes : (c v : ℕ) → Some v ≡ digit_value c → (is_digit c ≡ true) × (v ≡ value c)
digit_yes c v = go (is_digit c)
  where
    go : (b : Bool) → Some v ≡ pick b (Some (value c)) None → (b ≡ true) × (v ≡ value c)
    go true e = (refl, cc)
    go false e = absurd (none-some _ (sym e))

-- ---- two characters

first_two : (y : List ℕ) → 2 ≤ length y → y ≡ get_or (take 2 y) 0 0 ∷ (get_or (take 2 y) 1 0 ∷ drop 2 y)
first_two [] h = absurd (omega arith)
first_two (a ∷ []) h = absurd (omega arith)
first_two (a ∷ (b ∷ y)) h = refl

-- the i-th chunk has the next two
pub pair : (x : List ℕ) (C : List (List ℕ)) (i : ℕ) (z : List ℕ) → C ≡ first_chunks 2 (length x / 2) x → length C ≡ length x / 2 → i < length C
    → drop (2 * i) x ≡ get_or (get_or C i z) 0 0 ∷ (get_or (get_or C i z) 1 0 ∷ drop (2 * (i + 1)) x)
pair x C i z all len on =
    let r : get_or C i z ≡ take 2 (drop (2 * i) x) = ap (λ X. get_or X i z) all ∙ chunk 2 (length x / 2) x i z (omega arith) in
    let rest : drop 2 (drop (2 * i) x) ≡ drop (2 * (i + 1)) x = drop-drop 2 (2 * i) x ∙ ap (λ n. drop n x) (omega arith) in
    rw (r, ← rest) (first_two (drop (2 * i) x) (omega (arith, length-drop (2 * i) x)))

module _ (x : List ℕ) (i a b : ℕ) (two : drop (2 * i) x ≡ a ∷ (b ∷ drop (2 * (i + 1)) x)) where
  abbrev good : Bool
  good = both (is_digit a) (is_digit b)

  spells_two : spells (drop (2 * i) x) ≡ both good (spells (drop (2 * (i + 1)) x))
  unfolding spells
  spells_two = ap spells two

  spelled_two : spelled (drop (2 * i) x) ≡ (16 * value a + value b) ∷ spelled (drop (2 * (i + 1)) x)
  unfolding spelled
  spelled_two = ap spelled two

  module _ (inv : spells (drop (2 * i) x) ≡ spells x) where
    pub high_bad : None ≡ digit_value a → spells x ≡ false
    high_bad g = sym inv ∙ spells_two ∙ rw (digit_no _ g)

    module _ (h : ℕ) (high : Some h ≡ digit_value a) where
      pub low_bad : None ≡ digit_value b → spells x ≡ false
      low_bad g = sym inv ∙ spells_two ∙ rw ((digit_yes _ _ high).0, digit_no _ g)

      module _ (l : ℕ) (low : Some l ≡ digit_value b) where
        pub good_on : spells (drop (2 * (i + 1)) x) ≡ spells x
        good_on = sym (spells_two ∙ rw ((digit_yes _ _ high).0, (digit_yes _ _ low).0)) ∙ inv

        pub bytes_on : (S : List ℕ) → i < length S → take i S ++ spelled (drop (2 * i) x) ≡ spelled x → take (i + 1) (set S i (16 * h + l)) ++ spelled (drop (2 * (i + 1)) x) ≡ spelled x
        bytes_on S n e =
            let r : List ℕ = spelled (drop (2 * (i + 1)) x) in
            ap (λ k. take k (set S i (16 * h + l)) ++ r) (add-one i)
            ∙ ap (λ k. k ++ r) (take-suc-set S i (16 * h + l) n)
            ∙ append_assoc (take i S) ((16 * h + l) ∷ []) r
            ∙ ap₂ (λ j k. take i S ++ ((16 * j + k) ∷ r)) (digit_yes _ _ high).1 (digit_yes _ _ low).1
            ∙ ap (λ k. take i S ++ k) (sym spelled_two)
            ∙ e

-- all of them
pub decoded : (x S : List ℕ) (n i : ℕ) → length x ≡ 2 * n → i ≡ n → spells (drop (2 * i) x) ≡ spells x → take i S ++ spelled (drop (2 * i) x) ≡ spelled x → Spelled x S n
unfolding spells spelled
decoded x S n i e f g h =
    let z : drop (2 * i) x ≡ [] = drop_of_length-le x {i = 2 * i} (omega arith) in
    let y : spells x ≡ true = sym g ∙ ap spells z in
    record {
      good = y;
      count = omega (arith, length_spelled x y);
      bytes = ap (λ k. take k S) (sym f) ∙ sym (append-nil (take i S)) ∙ sym (ap (λ l. take i S ++ spelled l) z) ∙ h;
    }
