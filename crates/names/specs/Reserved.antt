-- The rule of the 28 reserved names, over the whole table: they are the registers, the program counter and the special registers.
-- Assumes nothing.
use Rattle.std.specs.Prelude.{◌≡◌, refl, Bool, true, false, Option, Some, None, is_some, List, [], ◌∷◌, ◌++◌, ℕ, zero, suc, ◌+◌, ◌-◌, ◌<◌, ◌≤◌, leb, eqb, map}
use Rattle.std.proofs.Common.{sym, ◌∙◌, ap, ap₂, arith, eqb-true, ne_eqb, leb-true, leb-false}
use Prim.Native.String.{String}
use Rattle.names.specs.Choice.{pick, both, either}
use Rattle.names.specs.Letters.{bytes, lowered, same, spelled}
use Rattle.names.specs.Laws.{pick_same, both_false, either_assoc}
use Rattle.names.specs.Registers.{pair, register, register_of, program_counter, named, special_registers, special_names, special_of, one_of, reserved}
use Rattle.names.specs.declared.registers.SpecialRegister.{SpecialRegister}

abbrev pub is_register : Option ℕ → Bool
is_register r = is_some r

abbrev pub is_special : Option SpecialRegister → Bool
is_special r = is_some r

-- ---- a list of words

one_of_append : (xs ys : List String) (l : List ℕ) → one_of (xs ++ ys) l ≡ either (one_of xs l) (one_of ys l)
unfolding one_of
one_of_append [] ys l = refl
one_of_append (x ∷ xs) ys l = rw (one_of_append xs ys l) (sym (either_assoc (same l (bytes x)) (one_of xs l) (one_of ys l)))

-- letters name a register just where they are one of the names
one_of_named : (xs : List (String × SpecialRegister)) (l : List ℕ) → one_of (map (λ (x : String × SpecialRegister). x.0) xs) l ≡ is_special (named xs l)
unfolding one_of named
one_of_named [] l = refl
one_of_named (x ∷ xs) l = go (same l (bytes x.0)) (one_of_named xs l)
  where
    rest : List String
    rest = map (λ (y : String × SpecialRegister). y.0) xs

    go : (b : Bool) → one_of rest l ≡ is_special (named xs l) → either b (one_of rest l) ≡ is_special (pick b (Some x.1) (named xs l))
    go true h = refl
    go false h = h

-- ---- the registers

abbrev register_names : List String
register_names =
    "d0" ∷ "d1" ∷ "d2" ∷ "d3" ∷ "d4" ∷ "d5" ∷ "d6" ∷ "d7" ∷ "a0" ∷ "a1" ∷ "a2" ∷ "a3" ∷ "a4" ∷ "a5" ∷ "a6" ∷ "a7" ∷ "sp" ∷ []

-- the second letter is one of the eight digits
abbrev digits : ℕ → Bool
digits d =
    either (both (eqb d 48) true)
    (either (both (eqb d 49) true)
    (either (both (eqb d 50) true)
    (either (both (eqb d 51) true)
    (either (both (eqb d 52) true)
    (either (both (eqb d 53) true)
    (either (both (eqb d 54) true)
    (either (both (eqb d 55) true) false)))))))

digits_in : (k : ℕ) → k < 8 → digits (48 + k) ≡ true
digits_in zero h = refl
digits_in (suc zero) h = refl
digits_in (suc (suc zero)) h = refl
digits_in (suc (suc (suc zero))) h = refl
digits_in (suc (suc (suc (suc zero)))) h = refl
digits_in (suc (suc (suc (suc (suc zero))))) h = refl
digits_in (suc (suc (suc (suc (suc (suc zero)))))) h = refl
digits_in (suc (suc (suc (suc (suc (suc (suc zero))))))) h = refl
digits_in (suc (suc (suc (suc (suc (suc (suc (suc k)))))))) h = absurd (omega arith)

digits_out : (d : ℕ) → ((k : ℕ) → k < 8 → d ≡ 48 + k → ⊥) → digits d ≡ false
digits_out d h =
    simp (
      ne_eqb d 48 (h 0 (omega arith)),
      ne_eqb d 49 (h 1 (omega arith)),
      ne_eqb d 50 (h 2 (omega arith)),
      ne_eqb d 51 (h 3 (omega arith)),
      ne_eqb d 52 (h 4 (omega arith)),
      ne_eqb d 53 (h 5 (omega arith)),
      ne_eqb d 54 (h 6 (omega arith)),
      ne_eqb d 55 (h 7 (omega arith)),
    )

digits_are : (d : ℕ) → digits d ≡ both (leb 48 d) (leb d 55)
digits_are d = low (leb 48 d) refl
  where
    high : (b : Bool) → leb d 55 ≡ b → 48 ≤ d → digits d ≡ b
    high true q h =
        let e : d ≡ 48 + (d - 48) = omega arith in
        rw e (digits_in (d - 48) (omega (arith, leb-true d 55 q)))
    high false q h = digits_out d λ k s e. omega (arith, leb-false d 55 q)

    low : (b : Bool) → leb 48 d ≡ b → digits d ≡ both b (leb d 55)
    low true q = high (leb d 55) refl (leb-true 48 d q)
    low false q = digits_out d λ k s e. omega (arith, leb-false 48 d q)

picked : (b : Bool) (r : ℕ) → b ≡ is_register (pick b (Some r) None)
picked true r = refl
picked false r = refl

stacked : (b : Bool) → either (both b true) false ≡ is_register (pick b (Some 15) None)
stacked true = refl
stacked false = refl

pairs : (c d : ℕ) → one_of register_names (c ∷ d ∷ []) ≡ is_register (pair c d)
unfolding one_of same pair
pairs c d = data_bank (eqb c 100) refl
  where
    other : eqb c 100 ≡ false → eqb c 97 ≡ false → eqb c 115 ≡ false → one_of register_names (c ∷ d ∷ []) ≡ is_register (pair c d)
    other x y z = simp (x, y, z) (sym (ap is_register (pick_same (both (leb 48 d) (leb d 55)) None)))

    stack : (b : Bool) → eqb c 115 ≡ b → eqb c 100 ≡ false → eqb c 97 ≡ false → one_of register_names (c ∷ d ∷ []) ≡ is_register (pair c d)
    stack true q x y = rw (eqb-true c 115 q) (stacked (eqb d 112))
    stack false q x y = other x y q

    address : (b : Bool) → eqb c 97 ≡ b → eqb c 100 ≡ false → one_of register_names (c ∷ d ∷ []) ≡ is_register (pair c d)
    address true q x = rw (eqb-true c 97 q) (digits_are d ∙ picked _ _)
    address false q x = stack (eqb c 115) refl x q

    data_bank : (b : Bool) → eqb c 100 ≡ b → one_of register_names (c ∷ d ∷ []) ≡ is_register (pair c d)
    data_bank true q = rw (eqb-true c 100 q) (digits_are d ∙ picked _ _)
    data_bank false q = address (eqb c 97) refl q

registers : (l : List ℕ) → one_of register_names l ≡ is_register (register l)
unfolding one_of same register
registers [] = refl
registers (c ∷ []) = simp both_false
registers (c ∷ d ∷ []) = pairs c d
registers (c ∷ d ∷ e ∷ es) = simp both_false

-- a name is reserved just where it is a register, the program counter or a special register
pub reserved_rule : (name : List ℕ) → reserved name ≡ either (is_register (register_of name)) (either (program_counter name) (is_special (special_of name)))
unfolding reserved register_of program_counter special_of spelled one_of
reserved_rule name =
    one_of_append register_names ("pc" ∷ special_names) (lowered name)
    ∙ ap₂ either (registers (lowered name)) (ap (either (same (lowered name) (bytes "pc"))) (one_of_named special_registers (lowered name)))
