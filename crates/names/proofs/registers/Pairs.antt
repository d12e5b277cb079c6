-- Registers, sizes and suppressed registers by the letters of a name.
-- Assumes nothing.
use mathlib.Core.Path.{◌≡◌, refl, sym, ◌∙◌, ap}
use mathlib.Core.Bool.{Bool, true, false}
use mathlib.Core.List.{List, [], ◌∷◌}
use Rattle.std.specs.Prelude.{Option, Some, None}
use Prim.Native.Nat.{ℕ, ◌+◌, ◌-◌, ◌≤◌, ◌<◌}
use native.Mathlib.Omega.{arith}
use borrow.Author.Tests.{eqb-true, le-leb, lt-leb, leb-false}
use lib.Dec.{leb, eqb}
use lib.ListN.{length, get_or}
use Rattle.names.specs.Choice.{pick, both}
use Rattle.names.specs.Laws.{true_false, pick_same, both_false, same_true}
use Rattle.names.specs.Lowered.{lower_below}
use Rattle.names.specs.Letters.{bytes, lower, lowered, same, spelled}
use Rattle.names.specs.Registers.{pair, first_of_bank, register, register_of, program_counter, suppressing, suppressed, suppressed_of}
use Rattle.names.specs.Sizes.{letter_size, size_of}
use Rattle.names.specs.declared.registers.Suppressed.TheVariants.{ProgramCounter}
use Rattle.names.proofs.tokens.Lists.{rest}
use Rattle.std.proofs.lemmas.List.{take_rest}
use Rattle.names.proofs.letters.Spelling.{lowered_letters, lower_rises}

pub register_not : (n : List ℕ) → (length n ≡ 2 → ⊥) → register_of n ≡ None
unfolding register_of register lowered
register_not [] h = refl
register_not (c ∷ []) h = refl
register_not (c ∷ d ∷ []) h = absurd (h refl)
register_not (c ∷ d ∷ e ∷ es) h = refl

pub register_stack : (n : List ℕ) → spelled (bytes "sp") n ≡ true → register_of n ≡ Some 15
unfolding spelled register_of register pair
register_stack n h = ap register (same_true (lowered n) (bytes "sp") h)

-- a digit of the bank with this first register
abbrev pub in_bank : Option ℕ → ℕ → Option ℕ
in_bank None d = None
in_bank (Some first) d = pick (both (leb 48 d) (leb d 55)) (Some (d - 48 + first)) None

no_digit : (o : Option ℕ) (d : ℕ) → both (leb 48 d) (leb d 55) ≡ false → in_bank o d ≡ None
no_digit None d h = refl
no_digit (Some first) d h = rw h

-- a digit by its byte
module _ (d : ℕ) where
  pub digit_low : (o : Option ℕ) → d < 48 → in_bank o (lower d) ≡ None
  digit_low o h = no_digit o (lower d) (rw (lower_below d (omega arith), lt-leb 48 d h))

  pub digit_high : (o : Option ℕ) → 55 < d → in_bank o (lower d) ≡ None
  digit_high o h = let g = lower_rises d in no_digit o (lower d) (rw (lt-leb (lower d) 55 (omega arith)) (both_false (leb 48 (lower d))))

  pub digit_out : (o : Option ℕ) → both (leb 48 d) (leb d 55) ≡ false → in_bank o (lower d) ≡ None
  digit_out o h = go (leb 48 d) refl (leb d 55) refl h
    where
      go : (p : Bool) → leb 48 d ≡ p → (q : Bool) → leb d 55 ≡ q → both p q ≡ false → in_bank o (lower d) ≡ None
      go true x true y z = absurd (true_false z)
      go true x false y z = digit_high o (leb-false d 55 y)
      go false x q y z = digit_low o (leb-false 48 d x)

  pub digit_in : (first : ℕ) → 48 ≤ d → d ≤ 55 → in_bank (Some first) (lower d) ≡ Some (d - 48 + first)
  digit_in first h g = rw (lower_below d (omega arith), le-leb 48 d h, le-leb d 55 g)

-- what is not `sp` is a digit of a bank
pair_bank : (c d : ℕ) → same (c ∷ d ∷ []) (bytes "sp") ≡ false → pair c d ≡ in_bank (first_of_bank c) d
unfolding pair same
pair_bank c d h = go (eqb c 115) refl (eqb d 112) refl h
  where
    digit : Bool
    digit = both (leb 48 d) (leb d 55)

    either_bank : (a b : Bool)
        → pick digit (pick a (Some (d - 48)) (pick b (Some (d - 48 + 8)) None)) None
        ≡ in_bank (pick a (Some 0) (pick b (Some 8) None)) d
    either_bank true b = ap (λ r. pick digit (Some r) None) (omega arith)
    either_bank false true = refl
    either_bank false false = pick_same digit None

    go : (a : Bool) → eqb c 115 ≡ a → (b : Bool) → eqb d 112 ≡ b → both a (both b true) ≡ false → pair c d ≡ in_bank (first_of_bank c) d
    go true p true q g = absurd (true_false g)
    go true p false q g = rw (eqb-true c 115 p, q)
    go false p b q g = simp p (either_bank (eqb c 100) (eqb c 97))

pub register_digit : (n : List ℕ) → length n ≡ 2 → spelled (bytes "sp") n ≡ false → (first : Option ℕ) → first ≡ first_of_bank (lower (get_or n 0 0))
    → register_of n ≡ in_bank first (lower (get_or n 1 0))
unfolding register_of register spelled
register_digit n h g first e =
    let l = lowered_letters n 0 2 h in
    ap register l ∙ pair_bank (lower (get_or n 0 0)) (lower (get_or n 1 0)) (rw (sym l) g) ∙ ap (λ f. in_bank f (lower (get_or n 1 0))) (sym e)

pub size_not : (n : List ℕ) → (length n ≡ 1 → ⊥) → size_of n ≡ None
unfolding size_of
size_not [] h = refl
size_not (c ∷ []) h = absurd (h refl)
size_not (c ∷ d ∷ ds) h = refl

pub size_letter : (n : List ℕ) → length n ≡ 1 → size_of n ≡ letter_size (lower (get_or n 0 0))
unfolding size_of
size_letter [] h = absurd (omega arith)
size_letter (c ∷ []) h = refl
size_letter (c ∷ d ∷ ds) h = absurd (omega arith)

pub suppressed_none : (n : List ℕ) → length n ≡ 0 → suppressed_of n ≡ None
unfolding suppressed_of suppressed lowered
suppressed_none [] h = refl
suppressed_none (c ∷ cs) h = absurd (omega arith)

pub suppressed_some : (n : List ℕ) → 1 ≤ length n
    → suppressed_of n
    ≡ pick (eqb (lower (get_or n 0 0)) 122) (pick (program_counter (rest n)) (Some ProgramCounter) (suppressing (register_of (rest n)))) None
unfolding suppressed_of suppressed lowered program_counter spelled register_of
suppressed_some [] h = absurd (omega arith)
suppressed_some (c ∷ cs) h = rw (take_rest (c ∷ cs) 1)
