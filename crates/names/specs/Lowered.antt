-- A name and its small letters are the same register, program counter, special or suppressed register, reserved name.
-- Assumes nothing.
use Rattle.std.specs.Prelude.{◌≡◌, refl, Bool, true, false, List, [], ◌∷◌, ℕ, ◌+◌, ◌≤◌, ◌<◌, leb}
use Rattle.std.proofs.Common.{ap, ap₂, arith, leb-true, leb-false, le-leb}
use Rattle.std.proofs.lemmas.Bool.{lt-leb}
use Rattle.names.specs.Laws.{both_false}
use Rattle.names.specs.Letters.{lower, lowered, same, spelled}
use Rattle.names.specs.Registers.{register, register_of, program_counter, named, special_registers, special_of, suppressed, suppressed_of, one_of, reserved_names, reserved}

-- ---- letters

-- A to Z are raised by 32, all else stays
pub lower_below : (c : ℕ) → c < 65 → lower c ≡ c
unfolding lower
lower_below c h = simp (lt-leb 65 c h)

pub lower_capital : (c : ℕ) → 65 ≤ c → c ≤ 90 → lower c ≡ c + 32
unfolding lower
lower_capital c h g = simp (le-leb 65 c h, le-leb c 90 g)

pub lower_above : (c : ℕ) → 90 < c → lower c ≡ c
unfolding lower
lower_above c h = simp (lt-leb c 90 h, both_false)

lower_twice : (c : ℕ) → lower (lower c) ≡ lower c
lower_twice c = go (leb 65 c) refl (leb c 90) refl
  where
    go : (a : Bool) → leb 65 c ≡ a → (b : Bool) → leb c 90 ≡ b → lower (lower c) ≡ lower c
    go true p true q = rw (lower_capital c (leb-true 65 c p) (leb-true c 90 q)) (lower_above (c + 32) (omega (arith, leb-true 65 c p)))
    go true p false q = ap lower (lower_above c (leb-false c 90 q))
    go false p b q = ap lower (lower_below c (leb-false 65 c p))

-- ---- names

pub lowered_twice : (n : List ℕ) → lowered (lowered n) ≡ lowered n
unfolding lowered
lowered_twice [] = refl
lowered_twice (c ∷ cs) = ap₂ ◌∷◌ (lower_twice c) (lowered_twice cs)

pub register_lowered : (n : List ℕ) → register_of (lowered n) ≡ register_of n
unfolding register_of
register_lowered n = ap register (lowered_twice n)

spelled_lowered : (w n : List ℕ) → spelled w (lowered n) ≡ spelled w n
unfolding spelled
spelled_lowered w n = ap (λ l. same l w) (lowered_twice n)

pub counter_lowered : (n : List ℕ) → program_counter (lowered n) ≡ program_counter n
unfolding program_counter
counter_lowered n = spelled_lowered _ n

pub special_lowered : (n : List ℕ) → special_of (lowered n) ≡ special_of n
unfolding special_of
special_lowered n = ap (named special_registers) (lowered_twice n)

pub suppressed_lowered : (n : List ℕ) → suppressed_of (lowered n) ≡ suppressed_of n
unfolding suppressed_of
suppressed_lowered n = ap suppressed (lowered_twice n)

pub reserved_lowered : (n : List ℕ) → reserved (lowered n) ≡ reserved n
unfolding reserved
reserved_lowered n = ap (one_of reserved_names) (lowered_twice n)
