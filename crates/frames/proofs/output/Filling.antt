-- Bytes put one after the other behind what is filled.
-- Assumes nothing.
use mathlib.Core.Path.{◌≡◌, refl, sym, ◌∙◌, ap}
use mathlib.Core.List.{List, [], ◌∷◌, ◌++◌}
use Prim.Native.Nat.{ℕ, ◌+◌, ◌*◌, ◌≤◌, ◌<◌}
use native.Mathlib.Omega.{arith}
use lib.ListN.{length, set, length-append, length-set}
use Rattle.records.specs.Stores.{written}
use Rattle.records.specs.Written.{written_more}
use Rattle.frames.specs.Hex.{digits}
use Rattle.frames.specs.Lengths.{length_digits, digits_append}
use Rattle.frames.specs.Inner.{Put}
use Rattle.records.specs.Written.{written_nothing}
use Rattle.frames.proofs.hex.Digits.{written_one}

-- under another name
pub put_as : {O P : List ℕ} {at r : ℕ} (y z : List ℕ) → y ≡ z → Put O P at y r → Put O P at z r
put_as y z e p = rw (sym e) p

pub put_none : (O : List ℕ) (at : ℕ) → at ≤ length O → Put O O at [] at
put_none O at h = record { next = omega arith; kept = refl; out = sym (written_nothing O at) }

pub put_one : (O : List ℕ) (at b : ℕ) → at < length O → Put O (set O at b) at (b ∷ []) (at + 1)
put_one O at b h =
    let e : at ≡ at + 0 = omega arith in
    record {
      next = refl;
      kept = length-set O at b;
      out =
          ap (λ l. set l at b) (sym (written_nothing O at))
          ∙ ap (λ k. set (written O at []) k b) e
          ∙ written_one O at [] b (omega arith);
    }

pub then : {O P Q : List ℕ} {at r s : ℕ} {y z : List ℕ} → Put O P at y r → Put P Q r z s → at + length y + length z ≤ length O → Put O Q at (y ++ z) s
then {O} {P} {Q} {at} {r} {s} {y} {z} p q h = record {
  next = simp length-append (omega (arith, p.next, q.next));
  kept = q.kept ∙ p.kept;
  out =
      q.out
      ∙ ap (λ l. written l r z) p.out
      ∙ ap (λ k. written (written O at y) k z) p.next
      ∙ written_more O at y z h;
}

-- ---- digits

-- the next place behind them
pub next_digits : {O P : List ℕ} {at r : ℕ} (b : List ℕ) → Put O P at (digits b) r → r ≡ at + 2 * length b
next_digits b p = omega (arith, p.next, length_digits b)

pub then_digits : {O P Q : List ℕ} {at r s : ℕ} (a b : List ℕ) → Put O P at (digits a) r → Put P Q r (digits b) s → at + 2 * length a + 2 * length b ≤ length O → Put O Q at (digits (a ++ b)) s
then_digits a b p q h = rw (digits_append a b) (then p q (omega (arith, length_digits a, length_digits b)))
