-- A record as a chunk of ten numbers.
-- Assumes nothing.
use Rattle.std.proofs.Common.{◌≡◌, refl, ◌∙◌, ap, List, ℕ, ◌+◌, ◌-◌, ◌*◌, ◌/◌, ◌<◌, ◌≤◌, length, get_or, get_or-take, take, arith}
use Rattle.std.specs.List.{slice_range}
use Rattle.std.specs.Simd.{first_chunks}
use Rattle.records.specs.Chunks as Chunks
use Rattle.records.specs.Stores.{written}
use Rattle.operand.specs.declared.layouts.Layout.{Layout}
use Rattle.operand.specs.Layout.{node_from}
use Rattle.layout.specs.Diagnostics.{diagnostic_from}

-- r is the i-th of the first n chunks
module _ (M : List ℕ) (C : List (List ℕ)) (n i : ℕ) (r x : List ℕ) (all : C ≡ first_chunks 10 (length M / 10) M) (len : length C ≡ length M / 10) (at : r ≡ get_or (slice_range C 0 n) i x) (h : i < n) (room : n ≤ length C) where
  whole : r ≡ get_or C i x
  whole = let z : n - 0 ≡ n = omega arith in at ∙ ap (λ k. get_or (take k C) i x) z ∙ get_or-take n C i x h

  number : (j : ℕ) → j < 10 → get_or r j 0 ≡ get_or M (10 * i + j) 0
  number j g = ap (λ l. get_or l j 0) whole ∙ Chunks.number 10 (length M / 10) M C all i x (omega arith) j g

  first : get_or r 0 0 ≡ get_or M (10 * i) 0
  first = ap (λ l. get_or l 0 0) whole ∙ Chunks.first 10 (length M / 10) M C all i x (omega arith) (omega arith)

  same_node : (w : Layout) → node_from w r 0 ≡ node_from w M (10 * i)
  unfolding node_from
  same_node w =
      rw (first, number 1 (omega arith), number 2 (omega arith), number 3 (omega arith), number 4 (omega arith), number 5 (omega arith), number 6 (omega arith), number 7 (omega arith), number 8 (omega arith), number 9 (omega arith)) refl

  same_diagnostic : (w : Layout) → diagnostic_from w r 0 ≡ diagnostic_from w M (10 * i)
  unfolding diagnostic_from
  same_diagnostic w =
      rw (first, number 1 (omega arith), number 2 (omega arith), number 3 (omega arith), number 4 (omega arith), number 5 (omega arith), number 6 (omega arith), number 7 (omega arith), number 8 (omega arith), number 9 (omega arith)) refl

  pub node_from_chunk : (w : Layout) (N N' : List ℕ) (p : ℕ) → N' ≡ written N p (node_from w r 0) → N' ≡ written N p (node_from w M (10 * i))
  node_from_chunk w N N' p e = e ∙ ap (written N p) (same_node w)

  pub diagnostic_from_chunk : (w : Layout) (N N' : List ℕ) (p : ℕ) → N' ≡ written N p (diagnostic_from w r 0) → N' ≡ written N p (diagnostic_from w M (10 * i))
  diagnostic_from_chunk w N N' p e = e ∙ ap (written N p) (same_diagnostic w)
