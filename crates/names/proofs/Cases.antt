-- The number of a name's case is the name's place in its table.
-- Assumes nothing.
use mathlib.Core.Path.{◌≡◌, refl, sym, ◌∙◌, ap}
use mathlib.Core.Bool.{Bool, true, false}
use mathlib.Core.List.{List, [], ◌∷◌}
use Rattle.std.specs.Prelude.{Option, Some, None, Result, Ok, Err}
use Prim.Native.Nat.{ℕ, zero, suc, ◌+◌, ◌-◌, ◌*◌, ◌^◌, ◌<◌, ◌≤◌}
use native.Mathlib.Omega.{arith}
use borrow.Author.Tests.{eqb-true, ne_eqb, le-leb, lt-leb, leb-true, leb-false}
use lib.Dec.{leb, ltb, eqb}
use lib.ListN.{drop}
use Rattle.names.specs.Choice.{pick, both}
use Rattle.names.specs.Laws.{true_false, pick_same, both_false}
use Rattle.names.specs.Letters.{bytes, lower, lowered, same}
use Rattle.names.specs.Registers.{pair, register, register_of, named, special_registers, special_names, special_of, suppressing, suppressed, suppressed_of}
use Rattle.names.specs.Sizes.{letter_size, size_of}
use Rattle.names.specs.Numbers.{radix_of, width, figure, scan, digits_of, in_base, base_of, number_of}
use Rattle.names.specs.Cases.{absent_register, register_number, special_number, size_number, base_number, index_number, value_number, place_in, register_names, named_register, named_special, named_size, named_base, named_index, all_digits, digits_worth, digits_value, written_value, RegisterTold, SpecialTold, SizeTold, SuppressedTold, NumberTold}
use Rattle.names.specs.declared.registers.SpecialRegister.{SpecialRegister}
use Rattle.names.specs.declared.registers.SpecialRegister.TheVariants.{Sr, Ccr, Usp, Sfc, Dfc, Vbr, Cacr, Caar, Msp, Isp}
use Rattle.names.specs.declared.registers.Suppressed.{Suppressed}
use Rattle.names.specs.declared.registers.Suppressed.TheVariants.{ProgramCounter}
use Rattle.names.specs.declared.sizes.SizeSuffix.{SizeSuffix}
use Rattle.names.specs.declared.sizes.SizeSuffix.TheVariants.{Byte, Word, Long, Short}
use Rattle.names.specs.declared.numbers.NumberBase.{NumberBase}
use Rattle.names.specs.declared.numbers.NumberError.{NumberError}
use Rattle.names.specs.declared.numbers.NumberError.TheVariants.{TooLarge, Invalid}

-- ---- special registers

-- a register's number is its place among those that the table has
special_place : (l : List ℕ) → special_number (named special_registers l) ≡ place_in 0 1 special_names l
unfolding named place_in
special_place l =
    first _ Sr _ (first _ Ccr _ (first _ Usp _ (first _ Sfc _ (first _ Dfc _ (first _ Vbr _ (first _ Cacr _ (first _ Caar _ (first _ Msp _ (first _ Isp None refl)))))))))
  where
    first : (b : Bool) (r : SpecialRegister) (rs : Option SpecialRegister) {ns : ℕ} → special_number rs ≡ ns → special_number (pick b (Some r) rs) ≡ pick b (special_number (Some r)) ns
    first true r rs h = refl
    first false r rs h = h

pub told_special : {name : List ℕ} {r : Option SpecialRegister} → r ≡ special_of name → SpecialTold name r
unfolding special_of named_special
told_special {name = name} e = record { special = e; number = ap special_number e ∙ special_place (lowered name) }

-- ---- sizes

size_place : (run : List ℕ) → size_number (size_of run) ≡ named_size run
unfolding size_of letter_size named_size place_in lowered same
size_place [] = refl
size_place (c ∷ []) = go (eqb (lower c) 98) (eqb (lower c) 119) (eqb (lower c) 108) (eqb (lower c) 115)
  where
    go : (b w l s : Bool)
        → size_number (pick b (Some Byte) (pick w (Some Word) (pick l (Some Long) (pick s (Some Short) None))))
        ≡ pick (both b true) 1 (pick (both w true) 2 (pick (both l true) 3 (pick (both s true) 4 0)))
    go true w l s = refl
    go false true l s = refl
    go false false true s = refl
    go false false false true = refl
    go false false false false = refl
size_place (c ∷ d ∷ ds) = simp both_false

pub told_size : {run : List ℕ} {r : Option SizeSuffix} → r ≡ size_of run → SizeTold run r
told_size {run = run} e = record { size = e; number = ap size_number e ∙ size_place run }

-- ---- registers

-- eight words of one bank, by their digit
abbrev eight : ℕ → ℕ → ℕ → ℕ
eight d n other =
    pick (both (eqb d 48) true) n
    (pick (both (eqb d 49) true) (n + 1)
    (pick (both (eqb d 50) true) (n + 1 + 1)
    (pick (both (eqb d 51) true) (n + 1 + 1 + 1)
    (pick (both (eqb d 52) true) (n + 1 + 1 + 1 + 1)
    (pick (both (eqb d 53) true) (n + 1 + 1 + 1 + 1 + 1)
    (pick (both (eqb d 54) true) (n + 1 + 1 + 1 + 1 + 1 + 1)
    (pick (both (eqb d 55) true) (n + 1 + 1 + 1 + 1 + 1 + 1 + 1) other)))))))

eight_in : (k n other : ℕ) → k < 8 → eight (48 + k) n other ≡ k + n
eight_in zero n other h = omega arith
eight_in (suc zero) n other h = omega arith
eight_in (suc (suc zero)) n other h = omega arith
eight_in (suc (suc (suc zero))) n other h = omega arith
eight_in (suc (suc (suc (suc zero)))) n other h = omega arith
eight_in (suc (suc (suc (suc (suc zero))))) n other h = omega arith
eight_in (suc (suc (suc (suc (suc (suc zero)))))) n other h = omega arith
eight_in (suc (suc (suc (suc (suc (suc (suc zero))))))) n other h = omega arith
eight_in (suc (suc (suc (suc (suc (suc (suc (suc k)))))))) n other h = absurd (omega arith)

eight_out : (d n other : ℕ) → ((k : ℕ) → k < 8 → d ≡ 48 + k → ⊥) → eight d n other ≡ other
eight_out d n other h =
    simp (
      ne_eqb d 48 (h 0 (omega arith)),
      ne_eqb d 49 (h 1 (omega arith)),
      ne_eqb d 50 (h 2 (omega arith)),
      ne_eqb d 51 (h 3 (omega arith)),
      ne_eqb d 52 (h 4 (omega arith)),
      ne_eqb d 53 (h 5 (omega arith)),
      ne_eqb d 54 (h 6 (omega arith)),
      ne_eqb d 55 (h 7 (omega arith)),
    )

eight_are : (d n other : ℕ) → eight d n other ≡ pick (both (leb 48 d) (leb d 55)) (d - 48 + n) other
eight_are d n other = low (leb 48 d) refl
  where
    high : (b : Bool) → leb d 55 ≡ b → 48 ≤ d → eight d n other ≡ pick b (d - 48 + n) other
    high true q h =
        let e : d ≡ 48 + (d - 48) = omega arith in
        ap (λ x. eight x n other) e ∙ eight_in (d - 48) n other (omega (arith, leb-true d 55 q))
    high false q h = eight_out d n other λ k s e. omega (arith, leb-false d 55 q)

    low : (b : Bool) → leb 48 d ≡ b → eight d n other ≡ pick (both b (leb d 55)) (d - 48 + n) other
    low true q = high (leb d 55) refl (leb-true 48 d q)
    low false q = eight_out d n other λ k s e. omega (arith, leb-false 48 d q)

-- what a register's number becomes: itself, or that of a suppressed base
picked : (f : Option ℕ → ℕ) (b : Bool) (r n other : ℕ) → f (Some r) ≡ n → f None ≡ other → f (pick b (Some r) None) ≡ pick b n other
picked f true r n other e g = e
picked f false r n other e g = g

-- a register by its letters, 255 for none
abbrev lettered : List ℕ → ℕ
lettered l = pick (same l (bytes "sp")) 15 (place_in absent_register 0 register_names l)

pair_place : (c d : ℕ) → register_number (pair c d) ≡ lettered (c ∷ d ∷ [])
unfolding pair place_in same
pair_place c d = data_bank (eqb c 100) refl
  where
    stacked : (b : Bool) → register_number (pick b (Some 15) None) ≡ pick (both b true) 15 255
    stacked true = refl
    stacked false = refl

    stack : (b : Bool) → eqb c 115 ≡ b → eqb c 100 ≡ false → eqb c 97 ≡ false → register_number (pair c d) ≡ lettered (c ∷ d ∷ [])
    stack true q x y = rw (eqb-true c 115 q) (stacked (eqb d 112))
    stack false q x y = simp (q, x, y) (ap register_number (pick_same (both (leb 48 d) (leb d 55)) None))

    address : (b : Bool) → eqb c 97 ≡ b → eqb c 100 ≡ false → register_number (pair c d) ≡ lettered (c ∷ d ∷ [])
    address true q x =
        rw (eqb-true c 97 q) (picked register_number (both (leb 48 d) (leb d 55)) (d - 48 + 8) (d - 48 + 8) 255 refl refl ∙ sym (eight_are d 8 255))
    address false q x = stack (eqb c 115) refl x q

    data_bank : (b : Bool) → eqb c 100 ≡ b → register_number (pair c d) ≡ lettered (c ∷ d ∷ [])
    data_bank true q =
        rw (eqb-true c 100 q) (picked register_number (both (leb 48 d) (leb d 55)) (d - 48) (d - 48 + 0) 255 (omega arith) refl ∙ sym (eight_are d 0 255))
    data_bank false q = address (eqb c 97) refl q

register_place : (l : List ℕ) → register_number (register l) ≡ lettered l
unfolding register place_in same
register_place [] = refl
register_place (c ∷ []) = simp both_false
register_place (c ∷ d ∷ []) = pair_place c d
register_place (c ∷ d ∷ e ∷ es) = simp both_false

pub told_register : {name : List ℕ} {r : Option ℕ} → r ≡ register_of name → RegisterTold name r
unfolding register_of named_register
told_register {name = name} e = record { register = e; number = ap register_number e ∙ register_place (lowered name) }

-- ---- suppressed registers

-- a register behind the z, as a base
abbrev based : List ℕ → ℕ
based l = pick (same l (bytes "sp")) 31 (place_in absent_register 24 ("a0" ∷ "a1" ∷ "a2" ∷ "a3" ∷ "a4" ∷ "a5" ∷ "a6" ∷ "a7" ∷ []) l)

abbrev as_base : Option ℕ → ℕ
as_base r = base_number (suppressing r)

pair_based : (c d : ℕ) → as_base (pair c d) ≡ based (c ∷ d ∷ [])
unfolding suppressing pair place_in same
pair_based c d = address (eqb c 97) refl
  where
    stacked : (b : Bool) → as_base (pick b (Some 15) None) ≡ pick (both b true) 31 255
    stacked true = refl
    stacked false = refl

    -- a data register is none
    no_base_lem : (b : Bool) → leb d 55 ≡ b → as_base (pick (both (leb 48 d) b) (Some (d - 48)) None) ≡ 255
    no_base_lem true q = go (leb 48 d) (lt-leb 8 (d - 48) (omega (arith, leb-true d 55 q)))
      where
        go : (b : Bool) → leb 8 (d - 48) ≡ false → as_base (pick (both b true) (Some (d - 48)) None) ≡ 255
        go true h = rw h
        go false h = refl
    no_base_lem false q = rw (both_false (leb 48 d))

    stack : (b : Bool) → eqb c 115 ≡ b → eqb c 100 ≡ false → eqb c 97 ≡ false → as_base (pair c d) ≡ based (c ∷ d ∷ [])
    stack true q x y = rw (eqb-true c 115 q) (stacked (eqb d 112))
    stack false q x y = simp (q, x, y) (ap as_base (pick_same (both (leb 48 d) (leb d 55)) None))

    data_bank : (b : Bool) → eqb c 100 ≡ b → eqb c 97 ≡ false → as_base (pair c d) ≡ based (c ∷ d ∷ [])
    data_bank true q y = rw (eqb-true c 100 q) (no_base_lem (leb d 55) refl)
    data_bank false q y = stack (eqb c 115) refl q y

    above : leb 8 (d - 48 + 8) ≡ true
    above = le-leb 8 (d - 48 + 8) (omega arith)

    address : (b : Bool) → eqb c 97 ≡ b → as_base (pair c d) ≡ based (c ∷ d ∷ [])
    address true q =
        rw (eqb-true c 97 q)
        (picked as_base (both (leb 48 d) (leb d 55)) (d - 48 + 8) (d - 48 + 24) 255 (rw above (omega arith)) refl ∙ sym (eight_are d 24 255))
    address false q = data_bank (eqb c 100) refl q

register_based : (l : List ℕ) → as_base (register l) ≡ based l
unfolding suppressing register place_in same
register_based [] = refl
register_based (c ∷ []) = simp both_false
register_based (c ∷ d ∷ []) = pair_based c d
register_based (c ∷ d ∷ e ∷ es) = simp both_false

as_index : (r : Option ℕ) → index_number (suppressing r) ≡ register_number r
unfolding suppressing
as_index (Some r) = refl
as_index None = refl

-- no register is the program counter
counter_none : (l : List ℕ) → same l (bytes "pc") ≡ true → lettered l ≡ 255
unfolding same place_in
counter_none [] h = refl
counter_none (c ∷ cs) h = go (eqb c 112) refl h
  where
    go : (b : Bool) → eqb c 112 ≡ b → both b (same cs (bytes "c")) ≡ true → lettered (c ∷ cs) ≡ 255
    go true q g = rw (eqb-true c 112 q)
    go false q g = absurd (true_false (sym g))

abbrev with_z : List ℕ → Option Suppressed
with_z cs = pick (same cs (bytes "pc")) (Some ProgramCounter) (suppressing (register cs))

with_z_base : (cs : List ℕ) → base_number (with_z cs) ≡ pick (same cs (bytes "pc")) 33 (based cs)
with_z_base cs = go (same cs (bytes "pc")) (register_based cs)
  where
    go : (b : Bool) → as_base (register cs) ≡ based cs → base_number (pick b (Some ProgramCounter) (suppressing (register cs))) ≡ pick b 33 (based cs)
    go true h = refl
    go false h = h

with_z_index : (cs : List ℕ) → index_number (with_z cs) ≡ lettered cs
with_z_index cs = go (same cs (bytes "pc")) refl
  where
    go : (b : Bool) → same cs (bytes "pc") ≡ b → index_number (pick b (Some ProgramCounter) (suppressing (register cs))) ≡ lettered cs
    go true q = sym (counter_none cs q)
    go false q = as_index (register cs) ∙ register_place cs

base_place : (name : List ℕ) → base_number (suppressed_of name) ≡ named_base name
unfolding suppressed_of suppressed lowered named_base place_in same
base_place [] = refl
base_place (c ∷ cs) = go (eqb (lower c) 122) refl
  where
    go : (b : Bool) → eqb (lower c) 122 ≡ b → base_number (suppressed_of (c ∷ cs)) ≡ named_base (c ∷ cs)
    go true q = rw q (with_z_base (lowered cs))
    go false q = rw q

index_place : (name : List ℕ) → index_number (suppressed_of name) ≡ named_index name
unfolding suppressed_of suppressed lowered named_index place_in same
index_place [] = refl
index_place (c ∷ cs) = go (eqb (lower c) 122) refl
  where
    go : (b : Bool) → eqb (lower c) 122 ≡ b → index_number (suppressed_of (c ∷ cs)) ≡ named_index (c ∷ cs)
    go true q = rw q (with_z_index (lowered cs))
    go false q = rw q

pub told_suppressed : {name : List ℕ} {r : Option Suppressed} → r ≡ suppressed_of name → SuppressedTold name r
told_suppressed {name = name} e = record { suppressed = e; base = ap base_number e ∙ base_place name; index = ap index_number e ∙ index_place name }

-- ---- numbers

scan_value : (radix v : ℕ) (l : List ℕ)
    → value_number (scan radix v l) ≡ pick (both (all_digits radix l) (ltb (digits_worth radix v l) (2 ^ 63))) (digits_worth radix v l) 0
unfolding scan all_digits digits_worth
scan_value radix v [] = go (ltb v (2 ^ 63))
  where
    go : (b : Bool) → value_number (pick b (Ok v) (Err TooLarge)) ≡ pick b v 0
    go true = refl
    go false = refl
scan_value radix v (c ∷ cs) = go (ltb (figure c) radix) (scan_value radix (v * radix + figure c) cs)
  where
    on : ℕ
    on = v * radix + figure c

    go : (b : Bool) → value_number (scan radix on cs) ≡ pick (both (all_digits radix cs) (ltb (digits_worth radix on cs) (2 ^ 63))) (digits_worth radix on cs) 0
        → value_number (pick b (scan radix on cs) (Err Invalid))
        ≡ pick (both (both b (all_digits radix cs)) (ltb (digits_worth radix on cs) (2 ^ 63))) (digits_worth radix on cs) 0
    go true h = h
    go false h = refl

digits_value_lem : (base : NumberBase) (l : List ℕ) → value_number (digits_of base l) ≡ digits_value (radix_of base) l
unfolding digits_of digits_value all_digits digits_worth
digits_value_lem base [] = sym (pick_same (ltb 0 (2 ^ 63)) 0)
digits_value_lem base (c ∷ cs) = scan_value (radix_of base) 0 (c ∷ cs)

number_value : (detail : ℕ) (text : List ℕ) → value_number (number_of detail text) ≡ written_value detail text
unfolding number_of in_base written_value
number_value detail text = go (ltb detail 4)
  where
    digits : List ℕ
    digits = drop (width (base_of detail)) text

    go : (b : Bool) → value_number (pick b (digits_of (base_of detail) digits) (Err Invalid)) ≡ pick b (digits_value (radix_of (base_of detail)) digits) 0
    go true = digits_value_lem (base_of detail) digits
    go false = refl

pub told_number : {detail : ℕ} {text : List ℕ} {r : Result ℕ NumberError} → r ≡ number_of detail text → NumberTold detail text r
told_number {detail = detail} {text = text} e = record { number = e; value = ap value_number e ∙ number_value detail text }
