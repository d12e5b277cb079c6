-- A tree that `expression` has read: where its records stand, and what is left of the stores behind it.
-- Assumes nothing.
use mathlib.Core.Path.{◌≡◌, sym, ◌∙◌, ap}
use mathlib.Core.List.{List, ◌++◌, append_assoc}
use Prim.Native.Nat.{ℕ, ◌+◌, ◌*◌, ◌≤◌}
use native.Mathlib.Omega.{arith}
use lib.ListN.{length, take, length-append}
use lib.Seq.{take_at, length-take-le}
use Rattle.names.specs.Places.{place}
use Rattle.records.specs.declared.spans.Span.{Span}
use Rattle.records.specs.declared.counters.Counters.{Counters}
use Rattle.expressions.proofs.Costs.{expression_cost, all_clean, size_pos}
use Rattle.expressions.specs.Expressions.{Term, read, reported, absent, parse_expression, expression_from}
use Rattle.expressions.specs.Laws.{law_run}
use Rattle.expressions_code.specs.Answers.{what_read, what_absent}
use Rattle.expressions_code.specs.Reading.{filled, ExpressionFits, FromFits}
use Rattle.expressions_code.specs.Left.{Stands, before_length, left_nodes}
use Rattle.expressions.specs.Reader.{run}
use Rattle.expressions.specs.Records.{nodes, length_nodes}
use Rattle.expressions_code.specs.Terms.{Parsed, size_t, nodes_t, Held, Said}
use Rattle.expressions.specs.Trees.{Expr, span_e, with_span, size}
use Rattle.records.specs.Rooms.{Room, NodeRoom}
use Rattle.expressions.specs.Told.{Told}
use Rattle.expressions.specs.Paths.{held_as}
use Rattle.std.specs.Prelude.{Ok, Err}
use Rattle.expressions_code.specs.declared.terms.TermError.TheVariants as errors

-- ---- the node store

-- the records that count stand in the store
pub within_store : {T N : List ℕ} {c : Counters} → NodeRoom T N c 0 0 1 → length (take (10 * c.nodes) N) ≡ 10 * c.nodes
within_store {N = N} {c = c} h = length-take-le (10 * c.nodes) N (omega (arith, h))

-- the bytes b of n records, those up to the m-th cleared
pub filled_take : (b : List ℕ) (n m : ℕ) (N : List ℕ) → length b ≡ 10 * n → take (10 * n) (filled b n m N) ≡ b
unfolding filled
filled_take b n m N e = ap (take (10 * n)) (append_assoc b _ _) ∙ take_at b _ (10 * n) e

-- ---- a term

-- what the tree is that stands there, and room behind it
pub record TreeRead (L T N D N' D' : List ℕ) (c : Counters) (limit : ℕ) (s : Span) (r : Counters) : Type 0 where
  pub tree : Expr
  pub value : (run (parse_expression limit) (place L T) c.at c.end).value ≡ read tree
  pub span : s ≡ span_e tree
  pub bytes : take (10 * r.nodes) N' ≡ take (10 * c.nodes) N ++ nodes c.nodes tree
  pub total : r.nodes ≡ c.nodes + size tree
  pub room : NodeRoom T N' r 1 0 1

module _ (L : List ℕ) {T N D N' D' : List ℕ} {c : Counters} (limit : ℕ) {v : Parsed} {r : Counters} (h : NodeRoom T N c 0 0 1) (p : ExpressionFits L T N D N' D' c limit v r) where
  abbrev term : Term
  term = (run (parse_expression limit) (place L T) c.at c.end).value

  bytes_term : length (take (10 * c.nodes) N ++ nodes_t c.nodes term) ≡ 10 * (c.nodes + size_t term)
  unfolding nodes_t size_t
  bytes_term = simp length-append (go term)
    where
      go : (t : Term) → length (take (10 * c.nodes) N) + length (nodes_t c.nodes t) ≡ 10 * (c.nodes + size_t t)
      go (read e) = omega (arith, within_store h, length_nodes c.nodes e)
      go reported = omega (arith, within_store h)
      go absent = omega (arith, within_store h)

  total : r.nodes ≡ c.nodes + size_t term
  total = ap (λ z. z.nodes) p.counters

  bytes : take (10 * r.nodes) N' ≡ take (10 * c.nodes) N ++ nodes_t c.nodes term
  bytes = ap (λ z. take (10 * z) N') total ∙ ap (take (10 * (c.nodes + size_t term))) p.nodes ∙ filled_take _ _ _ N bytes_term

  pub term_told : Said (parse_expression limit) L T N D N' D' c v r
  term_told = record {
    what = p.answer;
    at = ap (λ z. z.at) p.counters;
    end = ap (λ z. z.end) p.counters;
    seen = ap (λ z. z.diagnostics) p.counters;
    more = p.diagnostics;
    held = record { total = total; bytes = bytes };
  }

  pub tree_read : {s : Span} → v ≡ Ok s → length N' ≡ length N → TreeRead L T N D N' D' c limit s r
  unfolding nodes_t size_t
  tree_read q n =
      let m = what_read term _ (sym term_told.what ∙ q) in
      let k : Held N N' c.nodes (read m.0) r = held_as term_told m.1 in
      let law = rw m.1 at (law_run (expression_cost (place L T) 0 (all_clean (place L T)) limit c.at c.end 0 0)) in
      record {
        tree = m.0;
        value = m.1;
        span = m.2;
        bytes = k.bytes;
        total = k.total;
        room = record {
          room = record {
            few = h.room.few;
            within = p.within;
            stand = omega (arith, k.total, size_pos m.0);
            seen_fit = omega (arith, h.room.seen_fit, term_told.at, term_told.seen, law.2);
          };
          nodes_fit = omega (arith, p.few, h.nodes_fit);
          nodes_long = omega (arith, p.few, h.nodes_long);
        };
      }

  -- where there is none, nothing was raised
  pub absent_room : v ≡ Err errors.Absent → Room T r 0 1
  absent_room q =
      let law = rw (what_absent term (sym term_told.what ∙ q)) at (law_run (expression_cost (place L T) 0 (all_clean (place L T)) limit c.at c.end 0 0)) in
      record {
        few = h.room.few;
        within = p.within;
        stand = omega arith;
        seen_fit = omega (arith, h.room.seen_fit, term_told.at, term_told.seen, law.0, law.1);
      }

-- ---- a tree that goes on from a group

module _ (L : List ℕ) {T N D N' D' : List ℕ} {c : Counters} (group : Span) (limit : ℕ) {v : Span} {r : Counters} (h : NodeRoom T N c 1 0 1) (p : FromFits L T N D N' D' c group limit v r) where
  module _ {P : List ℕ} {b : ℕ} {e : Expr} (st : Stands N c.nodes P b e) where
    abbrev on : Expr
    on = (run (expression_from limit (with_span e group)) (place L T) c.at c.end).value

    long : 10 * c.nodes ≤ length N
    long = omega (arith, h)

    from_total : r.nodes ≡ b + size on
    from_total = ap (λ z. z.nodes) (p.told b e st.total).counters

    bytes_from : length (P ++ nodes b on) ≡ 10 * (b + size on)
    bytes_from = simp length-append (omega (arith, length_nodes b on, before_length N P c.nodes b e st long))

    pub from_told : Told span_e (λ x s. Stands N' s.nodes P b x) (expression_from limit (with_span e group)) L T D D' c v r
    from_told =
        let q = p.told b e st.total in
        record {
          what = q.answer;
          at = ap (λ z. z.at) q.counters;
          end = ap (λ z. z.end) q.counters;
          seen = ap (λ z. z.diagnostics) q.counters;
          more = q.diagnostics;
          held = record {
            bytes = ap (λ z. take (10 * z) N') from_total ∙ ap (take (10 * (b + size on))) (left_nodes p long h.room.stand st) ∙ filled_take _ _ _ N bytes_from;
            total = from_total;
          };
        }
