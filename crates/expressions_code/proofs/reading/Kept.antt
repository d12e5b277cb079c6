-- What the public functions' returns show: the stores, cleared behind the records that count.
-- Assumes nothing.
use Rattle.std.specs.Prelude.{Some}
use mathlib.Core.Path.{◌≡◌, refl, sym, ◌∙◌, ap}
use mathlib.Core.Bool.{Bool, true, false, not}
use mathlib.Core.List.{List, [], ◌∷◌}
use Prim.Native.Nat.{ℕ, ◌+◌, ◌-◌, ◌*◌, ◌≤◌}
use native.Mathlib.Omega.{arith}
use lib.ListN.{length, take, drop}
use Rattle.std.proofs.lemmas.Bool.{not-false, not-true}
use Rattle.names.specs.Laws.{true_false}
use Rattle.expressions.specs.Trees.{span_e, with_span, size}
use Rattle.records.specs.declared.spans.Span.{Span}
use Rattle.records.specs.declared.counters.Counters.{Counters}
use Rattle.records.specs.Counters.{counters_are}
use Rattle.expressions.specs.Expressions.{expression_from, fuel}
use Rattle.records.specs.Rooms.{NodeRoom}
use Rattle.records.specs.Stores.{cleared}
use Rattle.records.specs.Written.{written_past, cleared_is}
use Rattle.expressions_code.specs.Terms.{Parsed, ExpressionTold, Joined, ClimbTold}
use Rattle.expressions.specs.Told.{Told}
use Rattle.expressions_code.specs.Roots.{rooted, span_e_with_span}
use Rattle.expressions_code.specs.Reading.{filled, spent, RoomTold, enough, lacking, ExpressionPromise, FromPromise, read, climbed}
use Rattle.expressions.specs.Fuel.{fuel_enough}
use Rattle.expressions.proofs.Costs.{size_with_span}

-- a store whose first n records are b, cleared behind them
filled_is : (N N₁ N₂ b : List ℕ) (n i m : ℕ) → take (10 * n) N₁ ≡ b → n ≡ i → drop (10 * m) N₁ ≡ drop (10 * m) N → n ≤ m → 10 * m ≤ length N₁
    → N₂ ≡ cleared N₁ (10 * n) (10 * m) → N₂ ≡ filled b i m N
unfolding filled
filled_is N N₁ N₂ b n i m h e p l f k = cleared_is N₁ (10 * n) (10 * m) h (ap (λ z. 10 * z) e) p (omega (arith, l)) f k

-- ---- whether there is room

pub room_fits : {T N : List ℕ} {c : Counters} {k : ℕ} {b : Bool} → RoomTold T N c k b → not b ≡ false → NodeRoom T N c k 0 1
room_fits (enough e h) q = h
room_fits (lacking e h) q = absurd (true_false (sym (not-false _ q) ∙ e))

pub room_lacks : {T N : List ℕ} {c : Counters} {k : ℕ} {b : Bool} → RoomTold T N c k b → not b ≡ true → NodeRoom T N c k 0 1 → ⊥
room_lacks (enough e h) q = absurd (true_false (sym e ∙ not-true _ q))
room_lacks (lacking e h) q = h

-- ---- what is read

module _ {L T N D : List ℕ} {c : Counters} {room limit : ℕ} {r : Counters} (same : room ≡ limit) where
  -- N₂: what failed terms left is cleared
  pub expression_kept : {N₁ N₂ D₁ : List ℕ} {v : Parsed} → NodeRoom T N c 0 0 1 → length N₁ ≡ length N → ExpressionTold L T N D N₁ D₁ c room v r
      → N₂ ≡ cleared N₁ (10 * r.nodes) (10 * spent c r) → ExpressionPromise L T N D N₂ D₁ c limit (Some v) r
  expression_kept {N₁} {N₂} asks long g k =
      let h = g.told in
      read _ refl asks (rw (← same) record {
        answer = h.what;
        counters = counters_are r _ _ _ _ h.at h.end h.held.total h.seen;
        nodes = filled_is N N₁ N₂ _ r.nodes _ (spent c r) h.held.bytes h.held.total (g.past (spent c r) (omega (arith, g.on))) (omega (arith, g.few, g.on)) (omega (arith, asks, long, g)) k;
        diagnostics = h.more;
        on = g.on;
        within = g.within;
        few = g.few;
        quiet = g.quiet;
      })

  -- N₁: the root has got the group's span. N₂: the climb has gone on. N₃: what failed terms left is cleared
  pub from_kept : {N₁ N₂ N₃ D₂ : List ℕ} {group v : Span} → NodeRoom T N c 1 0 1 → length N₂ ≡ length N → N₁ ≡ rooted N c.nodes group → ClimbTold L T N₁ D N₂ D₂ c group 1 room v r
      → N₃ ≡ cleared N₂ (10 * r.nodes) (10 * spent c r) → FromPromise L T N D N₃ D₂ c group limit (Some v) r
  unfolding expression_from
  from_kept {N₂ = N₂} {N₃ = N₃} {D₂ = D₂} {group = group} {v = v} asks long w g k = climbed _ refl asks (rw (← same) record {
    told = λ b e cnt.
        let h : Told span_e (Joined (take (10 * c.nodes) (rooted N c.nodes group)) N₂ b (size e)) (expression_from room (with_span e group)) L T D D₂ c v r
        = rw (w, size_with_span e group) at (g.told fuel (omega (arith, fuel_enough, asks)) b (with_span e group) (cnt ∙ ap (λ z. b + z) (sym (size_with_span e group))) (sym (span_e_with_span e group))) in
        record {
          answer = h.what;
          counters = counters_are r _ _ _ _ h.at h.end h.held.total h.seen;
          nodes = filled_is N N₂ N₃ _ r.nodes _ (spent c r) h.held.bytes h.held.total (g.past (spent c r) (omega (arith, g.on)) ∙ rw w (written_past N (10 * (c.nodes - 1) + 4) (group.start ∷ group.end ∷ []) (10 * spent c r) (omega (arith, asks)) (omega (arith, asks, g.on)))) (omega (arith, g.few, g.on)) (omega (arith, asks, long, g)) k;
          diagnostics = h.more;
        };
    some = omega (arith, g.some);
    on = g.on;
    within = g.within;
    few = g.few;
    quiet = g.quiet;
  })
