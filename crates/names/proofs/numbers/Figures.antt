-- Digits and their values.
-- Assumes nothing.
use Rattle.std.proofs.Common.{◌≡◌, refl, sym, ◌∙◌, ap, Bool, true, false, List, [], ◌∷◌, ℕ, ◌+◌, ◌-◌, ◌*◌, ◌^◌, ◌≤◌, ◌<◌, min, leb, ltb, length, get_or, drop, drop_of_length-le, mul-le-mul_left, mul-le-mul_right, arith, le-leb, lt-ltb, le-ltb, ltb-true, ltb-false, leb-true, leb-false, Ok, Err, Option, Some, None, SomeIff, ok_or}
use borrow.Author.Tests.{lt-leb}
use Rattle.std.specs.Char.{digit_value}
use Rattle.names.specs.Choice.{pick}
use Rattle.names.specs.Laws.{both_false}
use Rattle.names.specs.Lowered.{lower_below, lower_capital, lower_above}
use Rattle.names.specs.Numbers.{figure, radix_of, width, scan, digits_of, in_base, base_of, base_from, number_of}
use Rattle.names.specs.declared.numbers.NumberBase.{NumberBase}
use Rattle.names.specs.declared.numbers.NumberBase.TheVariants.{Decimal, Hexadecimal, Binary, Octal}
use Rattle.names.specs.declared.numbers.NumberError.{NumberError}
use Rattle.names.specs.declared.numbers.NumberError.TheVariants.{TooLarge, Invalid}
use Rattle.names.proofs.tokens.Lists.{from}

-- std's digit is this one
module _ (c : ℕ) where
  low : c < 48 → digit_value c ≡ figure c
  unfolding figure
  low h = simp (lt-ltb c 48 h, lt-leb 48 c h, lower_below c (omega arith), lt-leb 97 c (omega arith))

  numeral : 48 ≤ c → c < 58 → digit_value c ≡ figure c
  unfolding figure
  numeral h g = simp (le-ltb c 48 h, lt-ltb c 58 g, le-leb 48 c h, le-leb c 57 (omega arith))

  between : 58 ≤ c → c < 65 → digit_value c ≡ figure c
  unfolding figure
  between h g = simp (le-ltb c 48 (omega arith), le-ltb c 58 h, lt-ltb c 65 g, lt-leb c 57 (omega arith), both_false, lower_below c g, lt-leb 97 c (omega arith))

  capital : 65 ≤ c → c < 91 → digit_value c ≡ figure c
  unfolding figure
  capital h g =
      rw (lower_capital c h (omega arith))
      (simp (le-ltb c 48 (omega arith), le-ltb c 58 (omega arith), le-ltb c 65 h, lt-ltb c 91 g, lt-leb c 57 (omega arith), both_false, le-leb 97 (c + 32) (omega arith), le-leb (c + 32) 122 (omega arith)) (omega arith))

  behind : 91 ≤ c → c < 97 → digit_value c ≡ figure c
  unfolding figure
  behind h g =
      simp (le-ltb c 48 (omega arith), le-ltb c 58 (omega arith), le-ltb c 65 (omega arith), le-ltb c 91 h, lt-ltb c 97 g, lt-leb c 57 (omega arith), both_false, lower_above c (omega arith), lt-leb 97 c g)

  letter : 97 ≤ c → c < 123 → digit_value c ≡ figure c
  unfolding figure
  letter h g =
      simp (le-ltb c 48 (omega arith), le-ltb c 58 (omega arith), le-ltb c 65 (omega arith), le-ltb c 91 (omega arith), le-ltb c 97 h, lt-ltb c 123 g, lt-leb c 57 (omega arith), both_false, lower_above c (omega arith), le-leb 97 c h, le-leb c 122 (omega arith))

  past : 123 ≤ c → digit_value c ≡ figure c
  unfolding figure
  past h =
      simp (le-ltb c 48 (omega arith), le-ltb c 58 (omega arith), le-ltb c 65 (omega arith), le-ltb c 91 (omega arith), le-ltb c 97 (omega arith), le-ltb c 123 h, lt-leb c 57 (omega arith), both_false, lower_above c (omega arith), lt-leb c 122 (omega arith))

  pub figure_std : digit_value c ≡ figure c
  figure_std = go (ltb c 48) refl (ltb c 58) refl (ltb c 65) refl (ltb c 91) refl (ltb c 97) refl (ltb c 123) refl
    where
      go : (p : Bool) → ltb c 48 ≡ p → (q : Bool) → ltb c 58 ≡ q → (r : Bool) → ltb c 65 ≡ r → (s : Bool) → ltb c 91 ≡ s → (t : Bool) → ltb c 97 ≡ t → (u : Bool) → ltb c 123 ≡ u → digit_value c ≡ figure c
      go true e q f r g s h t i u j = low (ltb-true c 48 e)
      go false e true f r g s h t i u j = numeral (ltb-false c 48 e) (ltb-true c 58 f)
      go false e false f true g s h t i u j = between (ltb-false c 58 f) (ltb-true c 65 g)
      go false e false f false g true h t i u j = capital (ltb-false c 65 g) (ltb-true c 91 h)
      go false e false f false g false h true i u j = behind (ltb-false c 91 h) (ltb-true c 97 i)
      go false e false f false g false h false i true j = letter (ltb-false c 97 i) (ltb-true c 123 j)
      go false e false f false g false h false i false j = past (ltb-false c 123 j)

pub radix_most : (b : NumberBase) → (2 ≤ radix_of b) × (radix_of b ≤ 16)
unfolding radix_of
radix_most Decimal = (omega arith, omega arith)
radix_most Hexadecimal = (omega arith, omega arith)
radix_most Binary = (omega arith, omega arith)
radix_most Octal = (omega arith, omega arith)

-- what `to_digit` and `ok_or` say of a byte
module _ (byte radix char : ℕ) (o : Option ℕ) (e : char ≡ byte) (told : SomeIff o (digit_value char < radix) (digit_value char)) where
  value : digit_value char ≡ figure byte
  value = ap digit_value e ∙ figure_std byte

  pub read_digit : {d : ℕ} → ok_or o Invalid ≡ Ok d → (figure byte < radix) × (d ≡ figure byte)
  read_digit {d = d} f = go o told f
    where
      go : (p : Option ℕ) → SomeIff p (digit_value char < radix) (digit_value char) → ok_or p Invalid ≡ Ok d → (figure byte < radix) × (d ≡ figure byte)
      go None t g = cc
      go (Some x) t g = let y : x ≡ d = cc in (omega (arith, value, t.0), omega (arith, value, t.1))

  pub no_digit : {x : NumberError} → ok_or o Invalid ≡ Err x → (radix ≤ figure byte) × (x ≡ Invalid)
  no_digit {x = x} f = go o told f
    where
      go : (p : Option ℕ) → SomeIff p (digit_value char < radix) (digit_value char) → ok_or p Invalid ≡ Err x → (radix ≤ figure byte) × (x ≡ Invalid)
      go None t g = (omega (arith, value, t), cc)
      go (Some y) t g = cc

-- ---- reading on from a value that stays at a bound m

module _ (m : ℕ) where
  -- one more digit, where product and sum stay there
  pub cap_sum : (x d : ℕ) → min (min x m + d) m ≡ min (x + d) m
  cap_sum x d = omega arith

  -- where a value has reached m, the larger one has too
  cap_next : (v r d : ℕ) → 0 < r → min (min v m * r + d) m ≡ min (v * r + d) m
  cap_next v r d h = go (leb v m) refl
    where
      go : (b : Bool) → leb v m ≡ b → min (min v m * r + d) m ≡ min (v * r + d) m
      go true q = let e : min v m ≡ v = omega (arith, leb-true v m q) in rw e
      go false q =
          let g : m < v = leb-false v m q in
          let e : min v m ≡ m = omega arith in
          rw e (omega (arith, mul-le-mul_left m h, mul-le-mul_right {m = m} {n = v} r (omega arith)))

  -- no value of 2^63 or more fits, so the bound may be any of them
  module _ (large : 2 ^ 63 ≤ m) where
    pub scan_capped : (r : ℕ) (cs : List ℕ) (v : ℕ) → scan r (min v m) cs ≡ scan r v cs
    unfolding scan
    scan_capped r [] v = go (ltb v (2 ^ 63)) refl
      where
        go : (b : Bool) → ltb v (2 ^ 63) ≡ b → scan r (min v m) [] ≡ scan r v []
        go true q = let e : min v m ≡ v = omega (arith, ltb-true v (2 ^ 63) q) in rw e
        go false q =
            let g : 2 ^ 63 ≤ v = ltb-false v (2 ^ 63) q in
            simp (q, le-ltb (min v m) (2 ^ 63) (omega arith))
    scan_capped r (c ∷ cs) v = go (ltb (figure c) r) refl (scan_capped r cs (min v m * r + figure c)) (scan_capped r cs (v * r + figure c))
      where
        go : (b : Bool) → ltb (figure c) r ≡ b
            → scan r (min (min v m * r + figure c) m) cs ≡ scan r (min v m * r + figure c) cs
            → scan r (min (v * r + figure c) m) cs ≡ scan r (v * r + figure c) cs
            → pick b (scan r (min v m * r + figure c) cs) (Err Invalid) ≡ pick b (scan r (v * r + figure c) cs) (Err Invalid)
        go true q x y = sym x ∙ ap (λ w. scan r w cs) (cap_next v r (figure c) (omega (arith, ltb-true (figure c) r q))) ∙ y
        go false q x y = refl

-- a value that stays at 2^63, as the code's does
abbrev cap : ℕ → ℕ
cap v = min v (2 ^ 63)

pub scan_cap : (r : ℕ) (cs : List ℕ) (v : ℕ) → scan r (cap v) cs ≡ scan r v cs
scan_cap = scan_capped (2 ^ 63) (omega arith)

-- and one that stays where the code's product and sum do
pub scan_saturated : (r : ℕ) (cs : List ℕ) (v : ℕ) → scan r (min v (2 ^ 64 - 1)) cs ≡ scan r v cs
scan_saturated = scan_capped (2 ^ 64 - 1) (omega arith)

-- one more digit: product and sum stay at 2^64 - 1, their value at 2^63
pub cap_saturated : (x d : ℕ) → cap (min (min x (2 ^ 64 - 1) + d) (2 ^ 64 - 1)) ≡ cap (x + d)
cap_saturated x d = rw (cap_sum (2 ^ 64 - 1) x d) (omega arith)

-- ---- the digits from a place on

module _ (r v : ℕ) (ds : List ℕ) (i : ℕ) where
  module _ (h : i < length ds) where
    pub scan_on : (w : ℕ) → figure (get_or ds i 0) < r → w ≡ cap (v * r + figure (get_or ds i 0)) → scan r v (drop i ds) ≡ scan r w (drop (i + 1) ds)
    unfolding scan
    scan_on w g e = rw (from ds i h, lt-ltb _ _ g, e) (sym (scan_cap r (drop (i + 1) ds) (v * r + figure (get_or ds i 0))))

    pub scan_stop : r ≤ figure (get_or ds i 0) → scan r v (drop i ds) ≡ Err Invalid
    unfolding scan
    scan_stop g = rw (from ds i h, le-ltb _ _ g)

  module _ (h : length ds ≤ i) where
    pub scan_value : v < 2 ^ 63 → scan r v (drop i ds) ≡ Ok v
    unfolding scan
    scan_value g = rw (drop_of_length-le ds h, lt-ltb v (2 ^ 63) g)

    pub scan_large : 2 ^ 63 ≤ v → scan r v (drop i ds) ≡ Err TooLarge
    unfolding scan
    scan_large g = rw (drop_of_length-le ds h, le-ltb v (2 ^ 63) g)

pub digits_none : (b : NumberBase) (ds : List ℕ) → length ds ≡ 0 → digits_of b ds ≡ Err Invalid
unfolding digits_of
digits_none b [] h = refl
digits_none b (d ∷ ds) h = absurd (omega arith)

pub digits_some : (b : NumberBase) (ds : List ℕ) → (length ds ≡ 0 → ⊥) → digits_of b ds ≡ scan (radix_of b) 0 ds
unfolding digits_of
digits_some b [] h = absurd (h refl)
digits_some b (d ∷ ds) h = refl

-- ---- a number by its detail

pub number_in : (detail : ℕ) (text : List ℕ) {base : NumberBase} → Ok base ≡ base_from detail → digits_of base (drop (width base) text) ≡ number_of detail text
unfolding base_from number_of in_base
number_in detail text {base = base} h = go (ltb detail 4) h
  where
    go : (b : Bool) → Ok base ≡ pick b (Ok (base_of detail)) (Err Invalid) → digits_of base (drop (width base) text) ≡ pick b (in_base (base_of detail) text) (Err Invalid)
    go true g = let e : base ≡ base_of detail = cc in rw e
    go false g = cc

pub number_no : (detail : ℕ) (text : List ℕ) {x : NumberError} → Err x ≡ base_from detail → Err x ≡ number_of detail text
unfolding base_from number_of
number_no detail text {x = x} h = go (ltb detail 4) h
  where
    go : (b : Bool) → Err x ≡ pick b (Ok (base_of detail)) (Err Invalid) → Err x ≡ pick b (in_base (base_of detail) text) (Err Invalid)
    go true g = cc
    go false g = let e : x ≡ Invalid = cc in rw e
