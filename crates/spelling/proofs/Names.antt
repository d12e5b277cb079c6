-- What a name spells, it alone spells: registers, the program counter, special and suppressed registers exclude each other.
-- Assumes nothing.
use Rattle.std.specs.Prelude.{◌≡◌, Bool, List, [], ◌∷◌, ℕ, eqb, leb}
use Rattle.std.proofs.Math.Path.{refl, ap}
use Rattle.std.proofs.Common.{Option, Some, None, sym, ◌∙◌, eqb-true}
use Rattle.std.proofs.Math.Bool.{true, false}
use Prim.Native.String.{String}
use Rattle.names.specs.Choice.{pick, both, either}
use Rattle.names.specs.Letters.{bytes, lowered, same, spelled}
pub use Rattle.names.specs.Laws.{both_false, both_first, both_second}
use Rattle.names.specs.Laws.{same_true, either_first, either_second}
use Rattle.names.specs.Registers.{pair, register, register_of, program_counter, named, special_registers, special_of, suppressing, suppressed, suppressed_of, reserved}
use Rattle.names.specs.Reserved.{is_register, is_special, reserved_rule}
use Rattle.names.specs.declared.registers.SpecialRegister.{SpecialRegister}
use Rattle.names.specs.declared.registers.Suppressed.{Suppressed}
use Rattle.expressions.proofs.Costs.{true_false}
pub use Rattle.std.proofs.lemmas.Bool.{not-true}
use Rattle.operand.specs.Operand.{is_suppressed}

-- ---- registers are not suppressed

neither : (b : Bool) → is_register (pick b None None) ≡ false
neither true = refl
neither false = refl

suppressed_register : (y : List ℕ) → is_register (register y) ≡ true → suppressed y ≡ None
unfolding register suppressed pair
suppressed_register [] h = refl
suppressed_register (c ∷ []) h = absurd (true_false (sym h))
suppressed_register (c ∷ d ∷ []) h = go (eqb c 122) refl
  where
    go : (b : Bool) → eqb c 122 ≡ b → pick b (pick (same (d ∷ []) (bytes "pc")) (Some Suppressed.ProgramCounter) (suppressing (register (d ∷ [])))) None ≡ None
    go true q = absurd (true_false (sym (rw (eqb-true c 122 q) at h) ∙ neither (both (leb 48 d) (leb d 55))))
    go false q = refl
suppressed_register (c ∷ d ∷ e ∷ es) h = absurd (true_false (sym h))

pub register_unsuppressed : (x : List ℕ) (r : ℕ) → register_of x ≡ Some r → suppressed_of x ≡ None
unfolding register_of suppressed_of
register_unsuppressed x r h = suppressed_register (lowered x) (rw h)

pub not_register : (r : Option ℕ) → is_register r ≡ false → r ≡ None
not_register (Some r) h = absurd (true_false h)
not_register None h = refl

-- ---- the program counter

module _ (x : List ℕ) (h : program_counter x ≡ true) where
  counter_word : lowered x ≡ bytes "pc"
  unfolding program_counter spelled
  counter_word = same_true (lowered x) (bytes "pc") h

  pub counter_unregistered : register_of x ≡ None
  unfolding register_of register pair
  counter_unregistered = rw counter_word refl

  pub counter_unsuppressed : suppressed_of x ≡ None
  unfolding suppressed_of suppressed
  counter_unsuppressed = rw counter_word refl

pub register_uncounted : (x : List ℕ) (r : ℕ) → register_of x ≡ Some r → program_counter x ≡ false
register_uncounted x r h = go (program_counter x) refl
  where
    go : (b : Bool) → program_counter x ≡ b → b ≡ false
    go true q = absurd (true_false (ap is_register (sym h ∙ counter_unregistered x q)))
    go false q = refl

-- ---- suppressed names

module _ (x : List ℕ) (h : is_suppressed (suppressed_of x) ≡ true) where
  pub suppressed_unregistered : register_of x ≡ None
  unfolding is_suppressed
  suppressed_unregistered = go (register_of x) refl
    where
      go : (r : Option ℕ) → register_of x ≡ r → r ≡ None
      go (Some r) q = absurd (true_false (sym h ∙ ap is_suppressed (register_unsuppressed x r q)))
      go None q = refl

  pub suppressed_uncounted : program_counter x ≡ false
  unfolding is_suppressed
  suppressed_uncounted = go (program_counter x) refl
    where
      go : (b : Bool) → program_counter x ≡ b → b ≡ false
      go true q = absurd (true_false (sym h ∙ ap is_suppressed (counter_unsuppressed x q)))
      go false q = refl

-- ---- special registers

-- it fails for each word of a table
abbrev Each : (List ℕ → Bool) → List (String × SpecialRegister) → Type 0
Each f [] = Unit {0}
Each f (x ∷ xs) = (f (bytes x.0) ≡ false) × Each f xs

each : (f : List ℕ → Bool) (r : SpecialRegister) (xs : List (String × SpecialRegister)) (y : List ℕ) → Each f xs → named xs y ≡ Some r → f y ≡ false
unfolding named
each f r [] y e h = absurd (true_false (sym (ap is_special h)))
each f r (x ∷ xs) y e h = go (same y (bytes x.0)) refl h (λ q. each f r xs y e.1 q)
  where
    go : (b : Bool) → same y (bytes x.0) ≡ b → pick b (Some x.1) (named xs y) ≡ Some r → (named xs y ≡ Some r → f y ≡ false) → f y ≡ false
    go true q g k = rw (same_true y (bytes x.0) q) e.0
    go false q g k = k g

pub special_unregistered : (x : List ℕ) (r : SpecialRegister) → special_of x ≡ Some r → is_register (register_of x) ≡ false
unfolding special_of register_of register pair
special_unregistered x r h =
    each (λ y. is_register (register y)) r special_registers (lowered x) (refl, (refl, (refl, (refl, (refl, (refl, (refl, (refl, (refl, (refl, tt)))))))))) h

-- ---- names that are not reserved

module _ (x : List ℕ) (h : reserved x ≡ false) where
  abbrev counted : Bool
  counted = either (program_counter x) (is_special (special_of x))

  free : either (is_register (register_of x)) counted ≡ false
  free = sym (reserved_rule x) ∙ h

  pub free_unregistered : register_of x ≡ None
  free_unregistered = not_register _ (either_first _ counted free)

  pub free_uncounted : program_counter x ≡ false
  free_uncounted = either_first (program_counter x) (is_special (special_of x)) (either_second (is_register (register_of x)) counted free)

  pub free_unspecial : is_special (special_of x) ≡ false
  free_unspecial = either_second (program_counter x) (is_special (special_of x)) (either_second (is_register (register_of x)) counted free)
