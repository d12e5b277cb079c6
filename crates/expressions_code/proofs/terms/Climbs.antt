-- What the returns of the climb show.
-- Assumes nothing.
use Rattle.std.specs.Prelude.{Some, None, Ok, Err}
use mathlib.Core.Path.{◌≡◌, refl, sym, ◌∙◌, ap, ap₂}
use mathlib.Core.Bool.{false}
use mathlib.Core.List.{List, ◌++◌, append_assoc}
use Prim.Native.Nat.{ℕ, zero, suc, ◌+◌, ◌-◌, ◌*◌, ◌<◌, ◌≤◌}
use native.Mathlib.Omega.{arith}
use borrow.Author.Tests.{le-leb, lt-leb}
use lib.ListN.{length, take, drop}
use lib.Seq.{drop_at}
use Rattle.names.specs.Tokens.{count, token_at}
use Rattle.names.specs.Places.{place, there, nowhere, live}
use Rattle.names.specs.declared.tokens.Token.{Token}
use Rattle.records.specs.Spans.{span, span_of}
use Rattle.expressions.specs.Trees.{Expr, binary, span_e, size}
use Rattle.records.specs.declared.spans.Span.{Span}
use Rattle.records.specs.declared.counters.Counters.{Counters}
use Rattle.expressions_code.specs.declared.terms.TermError.{TermError}
use Rattle.expressions_code.specs.declared.terms.TermError.TheVariants as errors
use Rattle.records.specs.Diagnostics.{expression_expected}
use Rattle.expressions.specs.Reader.{Reader, answer, ◌>>=◌, run}
use Rattle.expressions.specs.Laws.{holds}
use Rattle.expressions.specs.Told.{Told}
use Rattle.expressions.specs.Paths.{fails, fails_end, held_as, reheld, counted, answered, raised, bound, hit, missed}
use Rattle.expressions.specs.Expressions.{Term, read, precedence, binary_operator, operator, operated, parse_prefix, parse_expression_from, fuel}
use Rattle.records.specs.Nodes.{node_record, words, zeros}
use Rattle.expressions.specs.Records.{nodes, length_nodes}
use Rattle.expressions.proofs.Grown.{Grown, grown_is, grown_none, grown_behind, climb_grows}
use Rattle.records.specs.Counters.{stepped, Over}
use Rattle.records.specs.Rooms.{NodeRoom}
use Rattle.expressions_code.specs.Terms.{Parsed, NodeTold, size_t, nodes_t, Held, DeepTold, ExpectedTold, stood, missing, PrefixTold, Joined, ClimbTold, OperatedTold, longer, ended}
use Rattle.expressions_code.proofs.leaves.Returns.{deep_raised}
use Rattle.expressions_code.proofs.terms.Returns.{stepped_over, kept, absent_quiet, is_read, is_reported, is_absent}

-- what a climb adds to a binary node's left side: the right side's records, the node's own, and what it adds to that node's tree
binary_added : (P : List ℕ) (b n m o : ℕ) (l r v : Expr) (s : Span) → n ≡ b + size l → m ≡ n + size r → Grown b (binary o l r s) v
    → ((P ++ nodes n r) ++ node_record 6 o (n - 1) (m - 1) s (words 4 0)) ++ drop (10 * size (binary o l r s)) (nodes b v) ≡ P ++ drop (10 * size l) (nodes b v)
unfolding nodes words
binary_added P b n m o l r v s hn hm h =
    let X : List ℕ = drop (10 * size (binary o l r s)) (nodes b v) in
    let Z : List ℕ = nodes (b + size l) r ++ node_record 6 o (b + size l - 1) (b + size l + size r - 1) s zeros in
    let e : nodes b v ≡ nodes b l ++ (Z ++ X) = grown_is h ∙ append_assoc (nodes b l) Z X in
    let d : drop (10 * size l) (nodes b v) ≡ Z ++ X = ap (drop (10 * size l)) e ∙ drop_at (nodes b l) (Z ++ X) (10 * size l) (length_nodes b l) in
    rw (hm, hn) (simp append_assoc) ∙ ap (λ z. P ++ z) (sym d)

-- no operator of the level at the cursor: the climb stops there, with any fuel
module _ (L T N D : List ℕ) (c : Counters) (left : Span) (min room : ℕ) where
  stopped : (none : holds (operator min) (place L T c.at) ≡ false) {Q : Expr → Counters → Type 0} (g : ℕ) (e : Expr)
      → Told span_e Q (answer e) L T D D c left c → Told span_e Q (parse_expression_from g (parse_prefix fuel room) min e) L T D D c left c
  unfolding parse_expression_from
  stopped none zero e h = h
  stopped none (suc g) e h = missed none h

  climb_stops : holds (operator min) (place L T c.at) ≡ false → 0 < c.nodes → c.at ≤ count T → ClimbTold L T N D N D c left min room left c
  climb_stops none some on = record {
    told = λ g hg b e cnt sp. stopped none g e (answered sp refl record { total = cnt; bytes = grown_none (take (10 * c.nodes) N) b e });
    past = λ j b. refl;
    some = some;
    on = omega arith;
    within = on;
    few = omega arith;
    quiet = omega arith;
  }

module _ {L T N D : List ℕ} {c : Counters} {left : Span} {min room : ℕ} (asks : NodeRoom T N c 1 0 0) where
  pub climb_ends : token_at T c.at ≡ None → ClimbTold L T N D N D c left min room left c
  climb_ends h = climb_stops L T N D c left min room (fails_end (operator min) _ (nowhere L T c.at h)) asks.room.stand asks.room.within

  pub climb_lows : {k : Token} → token_at T c.at ≡ Some k → precedence k.kind < min → ClimbTold L T N D N D c left min room left c
  unfolding operator
  climb_lows {k} h q = climb_stops L T N D c left min room (fails (operator min) _ k _ (there L T c.at k h) (lt-leb min (precedence k.kind) q)) asks.room.stand asks.room.within

-- an operator k at the cursor, and a term behind it that answers r
module _ (L T N D N₁ D₁ : List ℕ) (c : Counters) (left : Span) (room : ℕ) (k : Token) (v_r : Parsed) (r : Counters)
    (op : token_at T c.at ≡ Some k) (h : PrefixTold L T N D N₁ D₁ (stepped c k) room v_r r) (long : 10 * c.nodes ≤ length N) (some : 0 < c.nodes) where
  -- the numbers of the records that stand
  abbrev P : List ℕ
  P = take (10 * c.nodes) N

  abbrev climb : ℕ → ℕ → Expr → Reader Expr
  climb f = parse_expression_from f (parse_prefix fuel room)

  -- the climb over levels from min on, one of which is the operator's
  module _ (min : ℕ) (low : min ≤ precedence k.kind) where
    -- the left side is the tree e; the fuel is enough for this turn
    module _ (b : ℕ) (e : Expr) (cnt : c.nodes ≡ b + size e) (sp : left ≡ span_e e) where
      turned : {s_q : Span} {q : Counters} {N' D' : List ℕ} (g : ℕ) → count T ≤ g + c.at
          → ((f : ℕ) → count T ≤ suc f + c.at → Told span_e (Joined P N' b (size e)) (parse_prefix fuel room >>= operated (climb f) min e k) L T D D' (stepped c k) s_q q)
          → Told span_e (Joined P N' b (size e)) (climb g min e) L T D D' c s_q q
      unfolding parse_expression_from operator
      turned zero hg f = absurd (omega (arith, live T c.at k op))
      turned (suc g) hg f = hit op (le-leb min (precedence k.kind) low) refl (f g hg)

      -- no term is read: the left side stands as it did
      stays : {v : Term} {q : Counters} → Held N N₁ c.nodes v r → q.nodes ≡ c.nodes → Joined P N₁ b (size e) e q
      stays t same = record { total = same ∙ cnt; bytes = rw same (kept t long ∙ grown_none P b e) }

      at_read : (f : ℕ) {x : Span} {N₂ D₂ N₃ N₄ D₄ : List ℕ} {s_q : Span} {q : Counters} {s_w : Span} {w : Counters} {n : Counters} → v_r ≡ Ok x → count T ≤ suc f + c.at
          → ClimbTold L T N₁ D₁ N₂ D₂ r x (precedence k.kind + 1) room s_q q
          → NodeTold N₂ N₃ q (node_record 6 (binary_operator k.kind) (c.nodes - 1) (q.nodes - 1) (span left.start s_q.end) (words 4 0)) n
          → ClimbTold L T N₃ D₂ N₄ D₄ n (span left.start s_q.end) min room s_w w
          → Told span_e (Joined P N₄ b (size e)) (parse_prefix fuel room >>= operated (climb f) min e k) L T D D₄ (stepped c k) s_w w
      unfolding operated size_t nodes_t size span_e
      at_read f {x} {N₃ = N₃} {N₄ = N₄} {s_q = s_q} {q = q} {n = n} wh more hq hp hw =
          let y = is_read h wh in
          let t : Held N N₁ c.nodes (read y.0) r = held_as h.told y.1 in
          let v : Expr = (run (climb f (precedence k.kind + 1) y.0) (place L T) r.at r.end).value in
          let sq = hq.told f (omega (arith, h.on)) c.nodes y.0 t.total y.2 in
          let o = binary_operator k.kind in
          let S : Span = span (span_e e).start (span_e v).end in
          let sS : span left.start s_q.end ≡ S = ap₂ (λ i j. span i.start j.end) sp sq.what in
          let B : Expr = binary o e v S in
          let st : take (10 * n.nodes) N₃ ≡ (P ++ nodes c.nodes v) ++ node_record 6 o (c.nodes - 1) (q.nodes - 1) S (words 4 0) =
          hp.put.bytes
          ∙ ap₂ (λ z s. z ++ node_record 6 o (c.nodes - 1) (q.nodes - 1) s (words 4 0))
          (sq.held.bytes
          ∙ ap (λ z. z ++ drop (10 * size y.0) (nodes c.nodes v)) t.bytes
          ∙ grown_behind P (climb_grows c.nodes f (parse_prefix fuel room) (precedence k.kind + 1) y.0 (place L T) r.at r.end))
          sS in
          let sw = hw.told f (omega (arith, hq.on, h.on, hp.at)) b B (omega (arith, hp.put.next, sq.held.total, cnt)) sS in
          bound h.told y.1 (bound sq refl (counted hp.at hp.end hp.seen (reheld (λ j. record {
            total = j.total;
            bytes = j.bytes
                ∙ ap (λ z. z ++ drop (10 * size B) (nodes b (run (climb f min B) (place L T) n.at n.end).value)) st
                ∙ binary_added P b c.nodes q.nodes o e v _ S cnt sq.held.total (climb_grows b f (parse_prefix fuel room) min B (place L T) n.at n.end);
          }) sw)))

    climb_reports : v_r ≡ Err errors.Reported → ClimbTold L T N D N₁ D₁ c left min room left r
    unfolding operated size_t
    climb_reports w =
        let v = is_reported h w in
        let same : r.nodes ≡ c.nodes = omega (arith, (held_as h.told v).total) in
        record {
          told = λ g hg b e cnt sp. turned b e cnt sp g hg λ f hf. bound h.told v (answered sp refl (stays b e cnt sp h.told.held same));
          past = λ j b. h.past j (omega (arith, b));
          some = omega (arith, same, some);
          on = omega (arith, h.on);
          within = h.within;
          few = omega (arith, same, h.on);
          quiet = omega (arith, h.quiet);
        }

    climb_absents : {D₂ : List ℕ} {v_q : Parsed} {q : Counters} → v_r ≡ Err errors.Absent → DeepTold D₁ D₂ r (expression_expected (span_of k)) v_q q
        → ClimbTold L T N D N₁ D₂ c left min room left q
    unfolding operated size_t
    climb_absents w p =
        let v = is_absent h w in
        let same : r.nodes ≡ c.nodes = omega (arith, (held_as h.told v).total) in
        record {
          told = λ g hg b e cnt sp. turned b e cnt sp g hg λ f hf. bound h.told v (raised (deep_raised p) (answered sp refl (stays b e cnt sp h.told.held (p.same ∙ same))));
          past = λ j b. h.past j (omega (arith, b, p.at));
          some = omega (arith, same, some, p.same);
          on = omega (arith, h.on, p.at);
          within = omega (arith, h.within, p.at);
          few = omega (arith, same, h.on, p.same, p.at);
          quiet = omega (arith, p.push.next, p.at, absent_quiet room h w);
        }

    climb_reads : {x : Span} {lv o : ℕ} {N₂ D₂ N₃ N₄ D₄ : List ℕ} {s_q : Span} {q : Counters} {s_w : Span} {w : Counters} {n : Counters} → v_r ≡ Ok x → lv ≡ precedence k.kind → o ≡ binary_operator k.kind
        → ClimbTold L T N₁ D₁ N₂ D₂ r x (lv + 1) room s_q q
        → NodeTold N₂ N₃ q (node_record 6 o (c.nodes - 1) (q.nodes - 1) (span left.start s_q.end) (words 4 0)) n
        → ClimbTold L T N₃ D₂ N₄ D₄ n (span left.start s_q.end) min room s_w w
        → ClimbTold L T N D N₄ D₄ c left min room s_w w
    climb_reads wh hl ho hq hp hw =
        record {
          told = λ g hg b e cnt sp. turned b e cnt sp g hg λ f hf. at_read b e cnt sp f wh hf (rw hl at hq) (rw ho at hp) hw;
          past = λ j b.
              hw.past j (omega (arith, b, hp.at, hp.put.next, hq.few, h.few))
              ∙ hp.put.past j (omega (arith, b, hp.at, hw.on, hq.few, h.few))
              ∙ hq.past j (omega (arith, b, hp.at, hw.on, h.few))
              ∙ h.past j (omega (arith, b, hp.at, hw.on, hq.on));
          some = hw.some;
          on = omega (arith, hw.on, hq.on, h.on, hp.at);
          within = hw.within;
          few = omega (arith, hw.few, hq.few, h.few, hp.put.next, hp.at);
          quiet = omega (arith, hw.quiet, hq.quiet, h.quiet, hp.at, hp.seen);
        }

-- the same, where there is room and the operator is stepped over
behind_operator : {L T N D N₁ D₁ : List ℕ} {c next : Counters} {k : Token} (room : ℕ) {v_r : Parsed} {r : Counters} → NodeRoom T N c 1 0 0 → Over c k next → PrefixTold L T N D N₁ D₁ next room v_r r
    → PrefixTold L T N D N₁ D₁ (stepped c k) room v_r r
behind_operator room asks over g = rw (← stepped_over asks over) g

module _ {L T N D N₁ D₁ : List ℕ} {c : Counters} {left : Span} {room : ℕ} {k : Token} {v_r : Parsed} {r next : Counters}
    (asks : NodeRoom T N c 1 0 0) (op : token_at T c.at ≡ Some k) (over : Over c k next) (term : PrefixTold L T N D N₁ D₁ next room v_r r) where
  pub operated_fails : (e : TermError) {D₂ : List ℕ} {v_s : Parsed} {q : Counters} → ExpectedTold D₁ D₂ r v_r k v_s q → v_s ≡ Err e → OperatedTold L T N D N₁ D₂ c left room k (Err e) q
  operated_fails errors.Reported (stood n w d s) h = rw (d, s) (ended refl λ min low. climb_reports L T N D N₁ D₁ c left room k v_r r op (behind_operator room asks over term) (omega (arith, asks)) asks.room.stand min low (sym w ∙ h))
  operated_fails errors.Absent (stood n w d s) h = absurd (n (sym w ∙ h))
  operated_fails e (missing w p) h = ended (sym h ∙ p.what) λ min low. climb_absents L T N D N₁ D₁ c left room k v_r r op (behind_operator room asks over term) (omega (arith, asks)) asks.room.stand min low w p

  pub operated_reads : {x : Span} {lv o : ℕ} {N₂ D₂ N₃ : List ℕ} {s_q : Span} {q : Counters} {n : Counters} → v_r ≡ Ok x → lv ≡ precedence k.kind → o ≡ binary_operator k.kind
      → ClimbTold L T N₁ D₁ N₂ D₂ r x (lv + 1) room s_q q
      → NodeTold N₂ N₃ q (node_record 6 o (c.nodes - 1) (q.nodes - 1) (span left.start s_q.end) (words 4 0)) n
      → OperatedTold L T N D N₃ D₂ c left room k (Ok (span left.start s_q.end)) n
  operated_reads {s_q = s_q} {n = n} wh hl ho hq hp =
      let h = behind_operator room asks over term in
      longer (span left.start s_q.end) refl record {
        whole = λ min low N₄ D₄ v w hw. climb_reads L T N D N₁ D₁ c left room k v_r r op h (omega (arith, asks)) asks.room.stand min low wh hl ho hq hp hw;
        some = omega (arith, hp.put.next);
        on = omega (arith, hq.on, h.on, hp.at);
        within = omega (arith, hq.within, hp.at);
        few = omega (arith, hq.few, h.few, hp.put.next, hp.at);
        quiet = omega (arith, hq.quiet, h.quiet, hp.at, hp.seen);
      }
