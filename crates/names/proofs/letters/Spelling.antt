-- A byte against a letter, a name against a word.
-- Assumes nothing.
use Rattle.std.proofs.Common.{◌≡◌, refl, sym, ◌∙◌, ap, Bool, true, false, List, [], ◌∷◌, ℕ, zero, suc, ◌+◌, ◌≤◌, ◌↔◌, IsTrue, leb, length, get_or, drop, map, drop_of_length-le, arith, eq-eqb, leb-true, leb-false}
use Rattle.std.specs.Char.{to_ascii_lowercase}
use Rattle.std.proofs.lemmas.Bool.Decides.{nat_tests}
use Rattle.names.specs.Letters.{lower, lowered, same, spelled}
use Rattle.names.specs.Choice.{pick, both}
use Rattle.names.specs.Laws.{differ, same_true}
use Rattle.names.specs.Lowered.{lower_below, lower_above, lower_capital}
use Rattle.names.proofs.tokens.Lists.{from}

-- std's small letter is this one
pub lower_std : (c : ℕ) → to_ascii_lowercase c ≡ lower c
lower_std c = go (leb 65 c) refl (leb c 90) refl
  where
    go : (a : Bool) → leb 65 c ≡ a → (b : Bool) → leb c 90 ≡ b → to_ascii_lowercase c ≡ lower c
    go true p true q = let x = leb-true 65 c p in let y = leb-true c 90 q in rw (lower_capital c x y) (grind (arith, nat_tests))
    go true p false q = let x = leb-true 65 c p in let y = leb-false c 90 q in rw (lower_above c y) (grind (arith, nat_tests))
    go false p b q = let x = leb-false 65 c p in rw (lower_below c x) (grind (arith, nat_tests))

lowered_std : (n : List ℕ) → map to_ascii_lowercase n ≡ lowered n
unfolding lowered
lowered_std [] = refl
lowered_std (c ∷ cs) = rw (lower_std c, lowered_std cs)

same_refl : (x : List ℕ) → same x x ≡ true
unfolding same
same_refl [] = refl
same_refl (c ∷ cs) = rw (eq-eqb c c refl) (same_refl cs)

-- a test of the lowered texts, of which the word's is the word itself
pub spelled_test : (r : Bool) (w n : List ℕ) → map to_ascii_lowercase w ≡ w → IsTrue r ↔ (map to_ascii_lowercase n ≡ map to_ascii_lowercase w) → r ≡ spelled w n
unfolding spelled
spelled_test r w n h t = go r refl (same (lowered n) w) refl
  where
    go : (a : Bool) → r ≡ a → (b : Bool) → same (lowered n) w ≡ b → a ≡ b
    go true p true q = refl
    go false p false q = refl
    go true p false q =
        let e : lowered n ≡ w = sym (lowered_std n) ∙ t.0 p ∙ h in
        sym (same_refl w) ∙ ap (λ l. same l w) (sym e) ∙ q
    go false p true q = sym p ∙ t.1 (lowered_std n ∙ same_true (lowered n) w q ∙ sym h)

length_lowered : (n : List ℕ) → length (lowered n) ≡ length n
unfolding lowered
length_lowered [] = refl
length_lowered (c ∷ cs) = ap suc (length_lowered cs)

pub spelled_differ : (w n : List ℕ) → (length n ≡ length w → ⊥) → spelled w n ≡ false
unfolding spelled
spelled_differ w n h = differ (lowered n) w (rw length_lowered h)

-- no byte is lowered into a smaller one, so none but a digit into a digit
pub lower_rises : (c : ℕ) → c ≤ lower c
unfolding lower
lower_rises c = go (both (leb 65 c) (leb c 90))
  where
    go : (b : Bool) → c ≤ pick b (c + 32) c
    go true = omega arith
    go false = omega arith

-- k letters from place i on, in small
abbrev pub letters : ℕ → ℕ → List ℕ → List ℕ
letters i zero n = []
letters i (suc k) n = lower (get_or n i 0) ∷ letters (i + 1) k n

-- a name of a known length, letter by letter
pub lowered_letters : (n : List ℕ) (i k : ℕ) → length n ≡ i + k → lowered (drop i n) ≡ letters i k n
unfolding lowered
lowered_letters n i zero h = rw (drop_of_length-le n {i = i} (omega arith))
lowered_letters n i (suc k) h = rw (from n i (omega arith)) (ap (◌∷◌ (lower (get_or n i 0))) (lowered_letters n (i + 1) k (omega arith)))

pub spelled_letters : (w n : List ℕ) (i k : ℕ) → length n ≡ i + k → spelled w (drop i n) ≡ same (letters i k n) w
unfolding spelled
spelled_letters w n i k h = ap (λ l. same l w) (lowered_letters n i k h)
