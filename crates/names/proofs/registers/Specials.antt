-- Special registers and reserved names by the length of the name.
-- Assumes nothing.
use mathlib.Core.Path.{◌≡◌, refl, sym, ◌∙◌, ap}
use mathlib.Core.Bool.{Bool, true, false}
use mathlib.Core.List.{List, [], ◌∷◌}
use Rattle.std.specs.Prelude.{None}
use Rattle.names.specs.Choice.{either}
use Prim.Native.Nat.{ℕ, ◌<◌}
use native.Mathlib.Omega.{arith}
use lib.ListN.{length, get_or}
use Rattle.names.specs.Laws.{both_false, either_assoc}
use Rattle.names.specs.Letters.{bytes, lower, lowered, same}
use Rattle.names.specs.Registers.{register_of, program_counter, named, special_registers, special_of, reserved}
use Rattle.names.specs.Reserved.{is_register, is_special, reserved_rule}
use Rattle.names.proofs.letters.Spelling.{spelled_differ, letters, lowered_letters}
use Rattle.names.proofs.registers.Pairs.{register_not}

pub special_letters : (n : List ℕ) (k : ℕ) → length n ≡ k → special_of n ≡ named special_registers (letters 0 k n)
unfolding special_of
special_letters n k h = ap (named special_registers) (lowered_letters n 0 k (omega arith))

-- of four letters of which three are those of both names, the third tells which
module _ (n : List ℕ) (h : length n ≡ 4) (first : lower (get_or n 0 0) ≡ 99) (second : lower (get_or n 1 0) ≡ 97) (fourth : lower (get_or n 3 0) ≡ 114) where
  pub special_third : {x : ℕ} → lower (get_or n 2 0) ≡ x → special_of n ≡ named special_registers (99 ∷ 97 ∷ x ∷ 114 ∷ [])
  special_third third = rw (special_letters n 4 h, first, second, third, fourth)

-- no special register has another length
pub special_other : (n : List ℕ) → (length n ≡ 2 → ⊥) → (length n ≡ 3 → ⊥) → (length n ≡ 4 → ⊥) → special_of n ≡ None
unfolding special_of named lowered same
special_other [] x y z = refl
special_other (c ∷ []) x y z = simp both_false
special_other (c ∷ d ∷ []) x y z = absurd (x refl)
special_other (c ∷ d ∷ e ∷ []) x y z = absurd (y refl)
special_other (c ∷ d ∷ e ∷ f ∷ []) x y z = absurd (z refl)
special_other (c ∷ d ∷ e ∷ f ∷ g ∷ gs) x y z = simp both_false

-- no reserved name has more than four letters
pub reserved_long : (n : List ℕ) → 4 < length n → reserved n ≡ false
unfolding program_counter
reserved_long n h =
    let a = register_not n (omega arith) in
    let b = spelled_differ (bytes "pc") n (omega arith) in
    let c = special_other n (omega arith) (omega arith) (omega arith) in
    rw (reserved_rule n, a, b, c)

-- ---- what has been asked of a name before its special register

-- whether it is a register, r, and then whether it is the program counter
module _ (n : List ℕ) (r : Bool) (e : r ≡ is_register (register_of n)) where
  pub either_register : r ≡ true → r ≡ either (is_register (register_of n)) (program_counter n)
  either_register h = rw (← e, h)

  pub either_counter : r ≡ false → program_counter n ≡ either (is_register (register_of n)) (program_counter n)
  either_counter h = rw (← e, h)

module _ (n : List ℕ) (v : Bool) (e : v ≡ either (is_register (register_of n)) (program_counter n)) where
  table : either v (is_special (special_of n)) ≡ reserved n
  table = rw e (either_assoc (is_register (register_of n)) (program_counter n) (is_special (special_of n)) ∙ sym (reserved_rule n))

  pub reserved_before : v ≡ true → v ≡ reserved n
  reserved_before h = h ∙ rw h at table

  pub reserved_special : v ≡ false → is_special (special_of n) ≡ reserved n
  reserved_special h = rw h at table
