-- The rule of the mask: each bit says whether the list names that register.
-- Assumes nothing.
use Rattle.std.specs.Prelude.{◌≡◌, refl, Bool, true, false, List, [], ◌∷◌, ℕ, zero, suc, ◌+◌, ◌-◌, ◌/◌, ◌^◌, ◌≤◌, ◌<◌, max, eqb, leb, ltb}
use Rattle.std.proofs.Common.{◌∙◌, ap, ap₂, arith, pow-suc, eqb-true, ne_eqb, le-leb, lt-ltb, le-ltb, ltb-true, ltb-false, leb-true, leb-false, pow_pos}
use Rattle.std.proofs.Math.Nat.{zero-div, div-eq_of_lt, mul-div-mul_right}
use Rattle.std.proofs.lemmas.Bool.{eqb-false, lt-leb}
use Rattle.std.specs.Int.Bits.{bit_or, or_step}
use Rattle.std.proofs.lemmas.Nat.{or_shr}
use Rattle.std.proofs.Math.Dec.{eqb-suc-zero, eqb-zero-suc, eqb-suc-suc}
use Rattle.names.specs.Choice.{both, either}
use Rattle.operand.specs.Operands.{RegisterListItem, single, range}
use Rattle.operand.specs.Records.{flag}
use Rattle.operand.specs.Mask.{bits_from, item_bits, mask}
use Rattle.operand.specs.MaskRule.{bit, names, list_names}

bit_zero : (b : ℕ) → bit 0 b ≡ 0
bit_zero b = rw (zero-div (2 ^ b))

bit_or_lem : (x y b : ℕ) → bit (bit_or x y) b ≡ max (bit x b) (bit y b)
bit_or_lem x y b = rw (or_shr x y b) (omega (arith, or_step (x / 2 ^ b) (y / 2 ^ b)))

bit_pow : (k b : ℕ) → bit (2 ^ k) b ≡ flag (eqb b k)
unfolding flag
bit_pow zero zero = refl
bit_pow zero (suc b) = rw (eqb-suc-zero b, div-eq_of_lt {n = 1} {m = 2 ^ suc b} (rw pow-suc (omega (arith, pow_pos b))))
bit_pow (suc k) zero = rw (eqb-zero-suc k, pow-suc 2 k) (omega arith)
bit_pow (suc k) (suc b) = rw (eqb-suc-suc b k, pow-suc 2 k, pow-suc 2 b, mul-div-mul_right {m = 2} (2 ^ k) (2 ^ b) (omega arith)) (bit_pow k b)

flag_or : (x y : Bool) → max (flag x) (flag y) ≡ flag (either x y)
unfolding flag
flag_or true true = refl
flag_or true false = refl
flag_or false true = refl
flag_or false false = refl

-- the first bit, or one of those behind it
first_or_rest : (r n b : ℕ) → either (eqb b r) (both (leb (suc r) b) (ltb b (suc r + n))) ≡ both (leb r b) (ltb b (r + suc n))
first_or_rest r n b = below (ltb b r) refl
  where
    here : (x : Bool) → eqb b r ≡ x → r ≤ b → either x (both (leb (suc r) b) (ltb b (suc r + n))) ≡ both (leb r b) (ltb b (r + suc n))
    here true q h = let e : b ≡ r = eqb-true b r q in simp (le-leb r b h, lt-ltb b (r + suc n) (omega arith))
    here false q h =
        let g : b ≡ r → ⊥ = eqb-false b r q in
        let e : suc r + n ≡ r + suc n = omega arith in
        rw e (simp (le-leb (suc r) b (omega arith), le-leb r b h))

    below : (x : Bool) → ltb b r ≡ x → either (eqb b r) (both (leb (suc r) b) (ltb b (suc r + n))) ≡ both (leb r b) (ltb b (r + suc n))
    below true q = let h : b < r = ltb-true b r q in simp (ne_eqb b r (omega arith), lt-leb (suc r) b (omega arith), lt-leb r b h)
    below false q = here (eqb b r) refl (ltb-false b r q)

none_within : (r b : ℕ) → 0 ≡ flag (both (leb r b) (ltb b (r + 0)))
unfolding flag
none_within r b = go (leb r b) refl
  where
    go : (x : Bool) → leb r b ≡ x → 0 ≡ flag (both x (ltb b (r + 0)))
    go true q = rw (le-ltb b (r + 0) (omega (arith, leb-true r b q)))
    go false q = refl

bits_rule : (n r b : ℕ) → bit (bits_from r n) b ≡ flag (both (leb r b) (ltb b (r + n)))
unfolding bits_from
bits_rule zero r b = bit_zero b ∙ none_within r b
bits_rule (suc n) r b = bit_or_lem (2 ^ r) (bits_from (suc r) n) b ∙ ap₂ max (bit_pow r b) (bits_rule n (suc r) b) ∙ flag_or (eqb b r) _ ∙ ap flag (first_or_rest r n b)

-- a falling range names none
range_same : (r q b : ℕ) → both (leb r b) (ltb b (r + (q + 1 - r))) ≡ both (leb r b) (leb b q)
range_same r q b = go (leb r b) refl
  where
    last : (x : Bool) → leb b q ≡ x → r ≤ b → ltb b (r + (q + 1 - r)) ≡ x
    last true p h = lt-ltb b (r + (q + 1 - r)) (omega (arith, leb-true b q p))
    last false p h = le-ltb b (r + (q + 1 - r)) (omega (arith, leb-false b q p))

    go : (x : Bool) → leb r b ≡ x → both x (ltb b (r + (q + 1 - r))) ≡ both x (leb b q)
    go true p = last (leb b q) refl (leb-true r b p)
    go false p = refl

item_rule : (x : RegisterListItem) (b : ℕ) → bit (item_bits x) b ≡ flag (names x b)
unfolding item_bits names
item_rule (single r) b = bit_pow r.index b
item_rule (range r q s) b = bits_rule (q.index + 1 - r.index) r.index b ∙ ap flag (range_same r.index q.index b)

-- each bit of a list's mask says whether the list names that register
pub mask_rule : (items : List RegisterListItem) (b : ℕ) → bit (mask items) b ≡ flag (list_names items b)
unfolding mask list_names flag
mask_rule [] b = bit_zero b
mask_rule (x ∷ xs) b = bit_or_lem (item_bits x) (mask xs) b ∙ ap₂ max (item_rule x b) (mask_rule xs b) ∙ flag_or (names x b) (list_names xs b)
