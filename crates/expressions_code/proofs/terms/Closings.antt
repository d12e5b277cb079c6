-- What the returns behind a group's expression show: the parenthesis closes it, or it is told.
-- Assumes nothing.
use Rattle.std.specs.Prelude.{Some, Ok, Err}
use mathlib.Core.Path.{◌≡◌, refl, sym, ◌∙◌, ap}
use mathlib.Core.Bool.{false}
use mathlib.Core.List.{List, [], ◌∷◌}
use Prim.Native.Nat.{ℕ, ◌+◌, ◌-◌, ◌*◌, ◌≤◌}
use native.Mathlib.Omega.{arith}
use lib.ListN.{length, take}
use lib.Seq.{length-take-le}
use Rattle.names.specs.Kinds
use Rattle.names.specs.Tokens.{token_at}
use Rattle.names.specs.Places.{place, live}
use Rattle.names.specs.declared.tokens.Token.{Token}
use Rattle.records.specs.Spans.{span, span_of}
use Rattle.records.specs.declared.spans.Span.{Span}
use Rattle.records.specs.declared.counters.Counters.{Counters}
use Rattle.expressions_code.specs.declared.terms.TermError.{TermError}
use Rattle.records.specs.Rooms.{NodeRoom}
use Rattle.records.specs.Diagnostics.{unclosed_parenthesis}
use Rattle.expressions.specs.Reader.{is}
use Rattle.expressions.specs.Laws.{holds}
use Rattle.expressions.specs.Paths.{held_as, counted, answered, raised, bound, hit, missed}
use Rattle.expressions.specs.Expressions.{read, reported, grouped}
use Rattle.records.specs.Stores.{written}
use Rattle.records.specs.Counters.{stepped}
use Rattle.expressions_code.specs.Terms.{Parsed, parsed_of, size_t, nodes_t, Held, DeepTold, ExpectedTold, ExpressionTold, group_term, BehindTold, with_nodes, CloseTold, closed, unclosed}
use Rattle.expressions.proofs.Costs.{size_with_span, size_pos}
use Rattle.expressions_code.specs.Roots.{span_e_with_span, widened}
use Rattle.expressions_code.proofs.leaves.Returns.{held_none, deep_raised}
use Rattle.expressions_code.proofs.terms.Returns.{kept, is_read, behind, fails_behind}

-- the expression there answers r
module _ {L T N D N₁ D₁ : List ℕ} {c : Counters} (room : ℕ) {i n d : ℕ} (k : Token) {v_r : Parsed} {r : Counters} (asks : NodeRoom T N c i n d) (g : ExpressionTold L T N D N₁ D₁ c room v_r r) where
  long : 10 * c.nodes ≤ length N
  long = omega (arith, asks)

  pub group_fails : (e : TermError) {D₂ : List ℕ} {v_s : Parsed} {q : Counters} → ExpectedTold D₁ D₂ r v_r k v_s q → v_s ≡ Err e → BehindTold (group_term room k) L T N D N₁ D₂ c (Err e) q
  unfolding grouped
  group_fails = fails_behind g long (grouped k) refl refl

  -- what was read is given up
  group_opens : {x : Span} {D₂ : List ℕ} {v_q : Parsed} {q : Counters} → v_r ≡ Ok x → ((L : List ℕ) → holds (is Kinds.right_paren) (place L T r.at) ≡ false)
      → DeepTold D₁ D₂ (with_nodes r c.nodes) (unclosed_parenthesis (span_of k)) v_q q → BehindTold (group_term room k) L T N D N₁ D₂ c v_q q
  unfolding grouped parsed_of size_t
  group_opens w never h =
      let y = is_read g w in
      behind g
      (bound g.told y.1 (missed (never L) (counted refl refl refl (raised (deep_raised h) (answered h.what refl (held_none reported refl h.same (kept g.told.held long)))))))
      (λ j b. refl) h.at (omega (arith, h.same, g.told.held.total)) (omega (arith, h.push.next))

  group_closes : length N₁ ≡ length N → {x : Span} {N₂ D₂ : List ℕ} {v_q : Parsed} {q : Counters} → v_r ≡ Ok x → (t : Token) → token_at T r.at ≡ Some t → t.kind ≡ Kinds.right_paren
      → N₂ ≡ written N₁ (10 * (r.nodes - 1) + 4) (k.start ∷ t.end ∷ []) → D₂ ≡ D₁ → v_q ≡ Ok (span k.start t.end) → q ≡ stepped r t
      → BehindTold (group_term room k) L T N D N₂ D₂ c v_q q
  unfolding grouped parsed_of size_t nodes_t
  group_closes same w t e f hn hd hp hc =
      let y = is_read g w in
      let h : Held N N₁ c.nodes (read y.0) r = held_as g.told y.1 in
      let whole = span k.start t.end in
      let wide = widened (take (10 * c.nodes) N) N₁ c.nodes r.nodes y.0 whole h.bytes h.total (length-take-le (10 * c.nodes) N long) (omega (arith, asks, g, same)) (omega (arith, h.total, size_pos y.0)) in
      rw (hn, hd, hc)
      (record {
        told =
            bound g.told y.1 (hit e (rw f) refl (answered (hp ∙ ap Ok (sym (span_e_with_span y.0 whole))) refl record {
              total = h.total ∙ ap (λ z. c.nodes + z) (sym (size_with_span y.0 whole));
              bytes = wide.0;
            }));
        past = λ j b. wide.1 j (omega (arith, b, g.few)) ∙ g.past j (omega (arith, b));
        on = omega (arith, g.on);
        within = omega (arith, live T r.at t e);
        few = omega (arith, g.few);
        quiet = omega (arith, g.quiet);
      })

  pub group_tells : length N₁ ≡ length N → {x : Span} {N₂ D₂ : List ℕ} {v_q : Parsed} {q : Counters} → v_r ≡ Ok x → CloseTold T N₁ D₁ N₂ D₂ c.nodes r k v_q q → BehindTold (group_term room k) L T N D N₂ D₂ c v_q q
  group_tells same w (closed t e f hn hd hp hc) = group_closes same w t e f hn hd hp hc
  group_tells same w (unclosed never e h) = rw e (group_opens w never h)
