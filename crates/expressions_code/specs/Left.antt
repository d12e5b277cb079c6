-- `expression_from` where a tree stands in the last records: the tree that it goes on with stands there afterwards.
-- Assumes nothing.
use Rattle.std.specs.Prelude.{◌≡◌, length, take}
use Rattle.std.proofs.Common.{sym, ◌∙◌, arith, length-append, length-take-le}
use Rattle.std.proofs.Math.Path.{ap}
use mathlib.Core.List.{List, ◌++◌, append_assoc}
use Prim.Native.Nat.{ℕ, ◌+◌, ◌*◌, ◌≤◌, ◌<◌}
use Rattle.std.proofs.Math.ListN.{drop}
use Rattle.names.specs.Places.{place}
use Rattle.expressions.specs.Trees.{Expr, with_span, size}
use Rattle.expressions.proofs.Costs.{size_with_span}
use Rattle.expressions.specs.Reader.{Reading, run}
use Rattle.expressions.specs.Expressions.{parse_prefix, expression_from, fuel}
use Rattle.expressions.proofs.Grown.{grown_is, climb_grows}
use Rattle.expressions.specs.Records.{nodes, length_nodes}
use Rattle.records.specs.declared.spans.Span.{Span}
use Rattle.records.specs.declared.counters.Counters.{Counters}
use Rattle.expressions_code.specs.Roots.{widened}
use Rattle.expressions_code.specs.Reading.{filled, spent, FromFits}

-- the tree e stands in the last of n records, from the b-th on, behind the numbers P
pub record Stands (N : List ℕ) (n : ℕ) (P : List ℕ) (b : ℕ) (e : Expr) : Type 0 where
  pub bytes : take (10 * n) N ≡ P ++ nodes b e
  pub total : n ≡ b + size e

-- what stands before a tree's records is as long as those of the nodes before it
pub before_length : (N P : List ℕ) (n b : ℕ) (e : Expr) → Stands N n P b e → 10 * n ≤ length N → length P ≡ 10 * b
before_length N P n b e h long =
    omega (arith, h.total, length-take-le (10 * n) N long, simp length-append at (ap length h.bytes), length_nodes b e)

module _ {L T N D N' D' : List ℕ} {c : Counters} {group : Span} {limit : ℕ} {s_r : Span} {r : Counters} (p : FromFits L T N D N' D' c group limit s_r r) (long : 10 * c.nodes ≤ length N) (some : 0 < c.nodes)
    {P : List ℕ} {b : ℕ} {e : Expr} (st : Stands N c.nodes P b e) where
  abbrev on : Reading Expr
  on = run (expression_from limit (with_span e group)) (place L T) c.at c.end

  pub left_nodes : N' ≡ filled (P ++ nodes b on.value) (b + size on.value) (spent c r) N
  unfolding expression_from
  left_nodes =
      let w = widened P N b c.nodes e group st.bytes st.total (before_length N P c.nodes b e st long) long some in
      let X : List ℕ = drop (10 * size e) (nodes b on.value) in
      let grown : nodes b on.value ≡ nodes b (with_span e group) ++ X =
      grown_is (climb_grows b fuel (parse_prefix fuel limit) 1 (with_span e group) (place L T) c.at c.end) ∙ ap (λ z. nodes b (with_span e group) ++ drop (10 * z) (nodes b on.value)) (size_with_span e group) in
      (p.told b e st.total).nodes
      ∙ ap (λ z. filled z (b + size on.value) (spent c r) N) (ap (λ z. z ++ X) w.0 ∙ append_assoc P (nodes b (with_span e group)) X ∙ ap (λ z. P ++ z) (sym grown))
