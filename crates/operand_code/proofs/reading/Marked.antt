-- A mark that is brought within a list's length is read as the mark itself.
-- Assumes nothing.
use mathlib.Core.Path.{◌≡◌, refl, sym}
use mathlib.Core.Bool.{Bool, true, false}
use mathlib.Core.List.{List}
use Prim.Native.Nat.{ℕ, ◌≤◌, ◌<◌, min}
use native.Mathlib.Omega.{arith}
use borrow.Author.Tests.{eq-eqb, ne_eqb, eqb-true, eqb-false}
use lib.Dec.{eqb}
use Rattle.names.specs.Tokens.{count}
use Rattle.names.specs.Places.{place, below}
use Rattle.operand.specs.Operand.{reading_of}
use Rattle.operand.proofs.Marks.{reading_same}
use Rattle.operand.specs.declared.forms.OperandStep.{OperandStep}
use Rattle.operand_code.specs.Reading.{OperandFits}

module _ (L T : List ℕ) (few : count T ≤ 1023) (limit : ℕ) where
  mark_within : (mark m start : ℕ) → m ≡ min mark 1023 → reading_of limit m (place L T) start ≡ reading_of limit mark (place L T) start
  mark_within mark m start e = reading_same (place L T) limit m mark (λ i k x h. go i (below L T i k x h)) start
    where
      go : (i : ℕ) → i < count T → eqb m i ≡ eqb mark i
      go i less = which (eqb mark i) refl
        where
          which : (b : Bool) → eqb mark i ≡ b → eqb m i ≡ b
          which true q = let h = eqb-true mark i q in eq-eqb m i (omega (arith, e, h, less, few))
          which false q = ne_eqb m i (λ h. eqb-false mark i q (omega (arith, e, h, less, few)))

  -- a reading by the numbers and with the store that the caller has
  pub as_given : {N D N' D₁ D₂ : List ℕ} (mark : ℕ) {m at start : ℕ} {r : OperandStep} → m ≡ min mark 1023 → at ≡ start → D₂ ≡ D₁
      → OperandFits (reading_of limit m (place L T) at) N D N' D₁ r → OperandFits (reading_of limit mark (place L T) start) N D N' D₂ r
  as_given mark {m} {start = start} e i back h = rw (back, sym (mark_within mark m start e), sym i) h
