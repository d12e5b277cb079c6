-- The tests of the refusals, each at what the code looks at: a byte of the line, a number in a range, the list.
-- Assumes nothing.
use mathlib.Core.Path.{◌≡◌, refl}
use mathlib.Core.Bool.{Bool, true, false, not, ◌&&◌}
use mathlib.Core.List.{List}
use Prim.Native.Nat.{ℕ, ◌+◌, ◌≤◌, ◌<◌}
use native.Mathlib.Omega.{arith}
use borrow.Author.Tests.{lt-ltb, le-ltb}
use lib.Dec.{ltb}
use lib.ListN.{length, get_or, drop, drop_of_length-le}
use Rattle.std.specs.Prelude.{Some, cond}
use Rattle.std.specs.declared.cmp.Ordering.{Ordering}
use Rattle.std.specs.declared.cmp.Ordering.TheVariants.{Less, Equal, Greater}
use Rattle.std.specs.Ordering.{is_le, nat_cmp, partial_le, partial_lt}
use Rattle.std.specs.Cmp.{ranked}
use Rattle.names.specs.Choice.{either}
use Rattle.operand.specs.Listed.{from}
use Rattle.operand.specs.Entry.{foreign}

-- ---- the line's bytes

module _ (l : List ℕ) (i : ℕ) where
  pub foreign_end : length l ≤ i → foreign (drop i l) ≡ false
  unfolding foreign
  foreign_end h = rw (drop_of_length-le l h)

  pub foreign_on : i < length l → foreign (drop i l) ≡ either (either (ltb (get_or l i 0) 32) (ltb 126 (get_or l i 0))) (foreign (drop (i + 1) l))
  unfolding foreign
  foreign_on h = rw (from l i (i + 1) refl h)

-- ---- a number within a range or not

at_most : (a b : ℕ) → partial_le (λ x y. Some (nat_cmp x y)) a b ≡ not (ltb b a)
at_most a b = go (nat_cmp a b) refl
  where
    go : (o : Ordering) → o ≡ nat_cmp a b → is_le o ≡ not (ltb b a)
    go Less e = let h : a < b = ranked a b Less e in rw (le-ltb b a (omega arith))
    go Equal e = let h : a ≡ b = ranked a b Equal e in rw (le-ltb b a (omega arith))
    go Greater e = let h : b < a = ranked a b Greater e in rw (lt-ltb b a h)

pub outside : (low high n a b : ℕ) (spent : Bool) → a ≡ low → b ≡ high → spent ≡ false
    → not (partial_le (λ x y. Some (nat_cmp x y)) a n && cond spent (partial_lt (λ x y. Some (nat_cmp x y)) n b) (partial_le (λ x y. Some (nat_cmp x y)) n b)) ≡ either (ltb n low) (ltb high n)
outside low high n a b spent start end fresh = rw (start, end, fresh, at_most low n, at_most n high) (go (ltb n low) (ltb high n))
  where
    go : (p q : Bool) → not (not p && not q) ≡ either p q
    go true q = refl
    go false true = refl
    go false false = refl
