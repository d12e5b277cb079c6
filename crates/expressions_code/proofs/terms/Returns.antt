-- What the returns of the terms and of the expression show: each follows its reader, a step at a time.
-- Assumes nothing.
use Rattle.std.specs.Prelude.{Some, None, Result, Ok, Err, IsErrAnd}
use Rattle.std.specs.Result.{ResultUnwrapsOrElse, result_or}
use Rattle.std.proofs.lemmas.Result.{err_from_is_err_and}
use mathlib.Core.Path.{◌≡◌, refl, sym, ◌∙◌, ap, ap₂, subst}
use mathlib.Core.Bool.{true, false}
use mathlib.Core.List.{List, ◌++◌, append_assoc}
use Prim.Native.Nat.{ℕ, zero, suc, ◌+◌, ◌-◌, ◌*◌, ◌<◌, ◌≤◌}
use native.Mathlib.Numerals.{sub-one}
use native.Mathlib.Omega.{arith}
use mathlib.Core.Logic.{inl, inr}
use Rattle.std.specs.Prelude.{◌⊎◌, Option, Some, None}
use borrow.Author.Tests.{ne_eqb}
use lib.ListN.{length, take, drop}
use lib.Seq.{take-take, take_at, length-take-le}
use Rattle.names.specs.Kinds
use Rattle.names.specs.Tokens.{count, token_at}
use Rattle.names.specs.Places.{Place, text_of, place, below}
use Rattle.names.specs.declared.tokens.Token.{Token}
use Rattle.records.specs.DiagnosticKinds
use Rattle.records.specs.Spans.{span, span_of, no_span, blank}
use Rattle.expressions.specs.Trees.{Expr, unary, span_e, size}
use Rattle.records.specs.declared.spans.Span.{Span}
use Rattle.records.specs.declared.diagnostics.Diagnostic.{Diagnostic}
use Rattle.records.specs.declared.counters.Counters.{Counters}
use Rattle.expressions_code.specs.declared.terms.TermError.{TermError}
use Rattle.expressions_code.specs.declared.terms.TermError.TheVariants as errors
use Rattle.records.specs.Diagnostics.{plain, expression_expected}
use Rattle.expressions.specs.Reader.{Reading, Reader, answer, raise, ◌>>=◌, run}
use Rattle.expressions.specs.Told.{Raised}
use Rattle.expressions.specs.Paths.{raised_here, raised_as, held_as, renamed, counted, answered, raised, raised_same, bound, hit, miss, done}
use Rattle.expressions.specs.Expressions.{Term, read, reported, absent, unary_operator, is_unary, negated, plussed, climbed, leaf_term, parse_prefix_term, parse_prefix, parse_expression_of, parse_expression, parse_expression_from, fuel}
use Rattle.records.specs.Nodes.{node_record, words}
use Rattle.expressions.specs.Records.{nodes}
use Rattle.records.specs.Counters.{stepped, Over, over_is}
use Rattle.records.specs.Rooms.{NodeRoom}
use Rattle.expressions_code.specs.Terms.{Parsed, NodeTold, parsed_of, size_t, nodes_t, Held, Said, TokenTold, DepthTold, ExpectedTold, stood, missing, TermTold, PrefixTold, ExpressionTold, unary_term, plus_term, group_term, BehindTold, ClimbTold, Spared}
use Rattle.expressions.specs.Laws as laws
use Rattle.expressions.specs.Laws.{law_run}
use Rattle.expressions.proofs.Costs.{Cost, prefix_cost, expression_cost, size_pos, all_clean}
use Rattle.expressions.specs.Fuel.{fuel_enough}
use Rattle.expressions.proofs.Grown.{grown_behind, climb_grows}
use Rattle.expressions_code.specs.Answers.{apart, what_read, what_reported, what_absent}
use Rattle.expressions_code.proofs.leaves.Returns.{held_none, deep_raised, absent_told}
use Rattle.std.specs.Option.{ok_or}

-- what an option was, of which `ok_or` made this result
pub some_of : {A E : Type 0} (o : Option A) (d : E) (x : A) → ok_or o d ≡ Ok x → o ≡ Some x
some_of (Some y) d x e = cc
some_of None d x e = absurd cc

pub none_of : {A E : Type 0} (o : Option A) (d y : E) → ok_or o d ≡ Err y → (o ≡ None) × (y ≡ d)
none_of (Some x) d y e = absurd cc
none_of None d y e = (refl, cc)

-- an error that is passed on
pub err_given : {A E : Type 0} (r : Result A E) (e : E) → IsErrAnd r (λ x. x ≡ e) → r ≡ Err e
err_given r e h = let w = err_from_is_err_and r h in w.1 ∙ ap Err w.2

-- a sign, by its kind
pub a_unary : (k : Token) (x : List ℕ) → (k.kind ≡ Kinds.minus) ⊎ (k.kind ≡ Kinds.tilde) → is_unary k x ≡ true
unfolding is_unary
a_unary k x (inl e) = rw e refl
a_unary k x (inr e) = rw e refl

pub no_unary : (k : Token) (x : List ℕ) → ((k.kind ≡ Kinds.minus) ⊎ (k.kind ≡ Kinds.tilde) → ⊥) → is_unary k x ≡ false
unfolding is_unary
no_unary k x h = rw (ne_eqb _ _ (λ e. h (inl e)), ne_eqb _ _ (λ e. h (inr e))) refl

-- behind a token, where there is room for a reading
pub stepped_over : {T N : List ℕ} {c r : Counters} {i n d : ℕ} {k : Token} → NodeRoom T N c i n d → Over c k r → r ≡ stepped c k
stepped_over h e = over_is (omega (arith, h)) e

-- the records before a term still stand, whatever it was
pub kept : {N N' : List ℕ} {n : ℕ} {v : Term} {r : Counters} → Held N N' n v r → 10 * n ≤ length N → take (10 * n) N' ≡ take (10 * n) N
kept {N} {N'} {n} {v} {r} h long =
    sym (take-take (10 * n) (10 * r.nodes) N' (omega (arith, h.total)))
    ∙ ap (take (10 * n)) h.bytes
    ∙ take_at (take (10 * n) N) (nodes_t n v) (10 * n) (length-take-le (10 * n) N long)

-- ---- bounds, from the laws

few_quiet : (at : ℕ → Place) (i : ℕ) (v : Term) (j e r : ℕ) → i ≤ j → Cost at 0 (all_clean at) i 0 0 j e r v → (size_t v + i ≤ j) × (e + i ≤ j + 1)
unfolding size_t
few_quiet at i (read x) j e r f h = omega arith
few_quiet at i reported j e r f h = omega arith
few_quiet at i absent j e r f h = omega arith

bounded : {p : Reader Term} {L T N D N' D' : List ℕ} {c : Counters} {v_r : Parsed} {r : Counters} → laws.Law p (place L T) (Cost (place L T) 0 (all_clean (place L T)) c.at 0 0) c.at c.end 0 0 → c.at ≤ count T
    → Spared N N' c r → Said p L T N D N' D' c v_r r → TermTold p L T N D N' D' c v_r r
bounded {p} {L} {T} {c = c} law on w h =
    let f = laws.forward p (place L T) c.at c.end in
    let s = run p (place L T) c.at c.end in
    let q = few_quiet (place L T) c.at s.value s.cursor (0 + length s.raised) _ f (law_run law) in
    record {
      told = h;
      past = w;
      on = omega (arith, f, h.at);
      within = omega (arith, laws.within p (place L T) (count T) c.at c.end (λ j k x e. below L T j k x e) on, h.at);
      few = omega (arith, q.0, h.at, h.held.total);
      quiet = omega (arith, q.1, h.at, h.seen);
    }

-- a term that is not there consumes nothing and raises nothing
absent_nothing : (L T : List ℕ) (room i l : ℕ) → (run (parse_prefix fuel room) (place L T) i l).value ≡ absent
    → ((run (parse_prefix fuel room) (place L T) i l).cursor ≡ i) × (length (run (parse_prefix fuel room) (place L T) i l).raised ≡ 0)
absent_nothing L T room i l e =
    let q = rw e at (law_run (prefix_cost (place L T) 0 (all_clean (place L T)) fuel room i l 0 0)) in
    (q.0, omega (arith, q.1))

pub absent_quiet : {L T N D N₁ D₁ : List ℕ} {c : Counters} (room : ℕ) {v_r : Parsed} {r : Counters} → PrefixTold L T N D N₁ D₁ c room v_r r → v_r ≡ Err errors.Absent
    → (r.at ≡ c.at) × (r.diagnostics ≡ c.diagnostics)
absent_quiet {L} {T} {c = c} room g w =
    let n = absent_nothing L T room c.at c.end (what_absent _ (sym g.told.what ∙ w)) in
    (g.told.at ∙ n.0, omega (arith, g.told.seen, n.1))

-- ---- parse_prefix

opened : (room : ℕ) → (room ≡ 0 → ⊥) → parse_prefix_term fuel (parse_prefix fuel (room - 1)) ≡ parse_prefix fuel room
unfolding parse_prefix
opened zero h = absurd (h refl)
opened (suc r) h = rw sub-one

module _ {L T N D : List ℕ} {c : Counters} (room : ℕ) (asks : NodeRoom T N c 0 0 1) where
  prefix_told : {N' D' : List ℕ} {v_r : Parsed} {r : Counters} → Spared N N' c r → Said (parse_prefix fuel room) L T N D N' D' c v_r r → PrefixTold L T N D N' D' c room v_r r
  prefix_told w h = bounded (prefix_cost (place L T) 0 (all_clean (place L T)) fuel room c.at c.end 0 0) asks.room.within w h

  pub prefix_full : {D' : List ℕ} {v_r : Parsed} {r : Counters} → room ≡ 0 → DepthTold T D D' c v_r r → PrefixTold L T N D N D' c room v_r r
  unfolding parse_prefix
  prefix_full z h = prefix_told (λ j b. refl) (rw z (h.told L N))

  module _ (more : room ≡ 0 → ⊥) where
    pub prefix_end : token_at T c.at ≡ None → PrefixTold L T N D N D c room (Err errors.Absent) c
    unfolding parse_prefix_term leaf_term
    prefix_end e = prefix_told (λ j b. refl) (renamed (opened room more) (done e (done e (done e (done e (done e (done e (done e (done e (done e absent_told))))))))))

    module _ {k : Token} (t : token_at T c.at ≡ Some k) where
      module _ {N' D' : List ℕ} {v_r : Parsed} {r : Counters} {q : Counters} (over : Over c k q) where
        -- its first token has left room for a record
        behind_one : {p : Reader Term} → BehindTold p L T N D N' D' q v_r r → Spared N N' c r
        behind_one h j b = h.past j (omega (arith, b, ap (λ z. z.at) (stepped_over asks over), ap (λ z. z.nodes) (stepped_over asks over)))

        pub prefix_unary : is_unary k (text_of L k.start k.end) ≡ true → BehindTold (unary_term (room - 1) k) L T N D N' D' q v_r r → PrefixTold L T N D N' D' c room v_r r
        unfolding parse_prefix_term
        prefix_unary u h = prefix_told (behind_one h) (renamed (opened room more) (hit t u refl (rw (stepped_over asks over) at h).told))

        pub prefix_plus : is_unary k (text_of L k.start k.end) ≡ false → k.kind ≡ Kinds.plus → BehindTold (plus_term (room - 1) k) L T N D N' D' q v_r r → PrefixTold L T N D N' D' c room v_r r
        unfolding parse_prefix_term
        prefix_plus u e h = prefix_told (behind_one h) (renamed (opened room more) (miss t u (hit t (rw e) refl (rw (stepped_over asks over) at h).told)))

        pub prefix_group : is_unary k (text_of L k.start k.end) ≡ false → k.kind ≡ Kinds.left_paren → BehindTold (group_term (room - 1) k) L T N D N' D' q v_r r → PrefixTold L T N D N' D' c room v_r r
        unfolding parse_prefix_term parse_expression
        prefix_group u e h = prefix_told (behind_one h) (renamed (opened room more) (miss t u (miss t (rw e) (hit t (rw e) refl (rw (stepped_over asks over) at h).told))))

      pub prefix_leaf : {N' D' : List ℕ} {v_r : Parsed} {r : Counters} → is_unary k (text_of L k.start k.end) ≡ false → (k.kind ≡ Kinds.plus → ⊥) → (k.kind ≡ Kinds.left_paren → ⊥)
          → TokenTold leaf_term L k N D N' D' c v_r r → PrefixTold L T N D N' D' c room v_r r
      unfolding parse_prefix_term
      prefix_leaf u e f h = prefix_told h.past (renamed (opened room more) (miss t u (miss t (ne_eqb _ _ e) (miss t (ne_eqb _ _ f) (h.told T t)))))

-- ---- behind a term or an expression: the reader p there answers r

module _ {p : Reader Term} {L T N D N₁ D₁ : List ℕ} {c : Counters} {v_r : Parsed} {r : Counters} (g : TermTold p L T N D N₁ D₁ c v_r r) where
  abbrev first : Reading Term
  first = run p (place L T) c.at c.end

  pub is_read : {x : Span} → v_r ≡ Ok x → (e : Expr) × (first.value ≡ read e) × (x ≡ span_e e)
  is_read w = what_read _ _ (sym g.told.what ∙ w)

  pub is_reported : v_r ≡ Err errors.Reported → first.value ≡ reported
  is_reported w = what_reported _ (sym g.told.what ∙ w)

  pub is_absent : v_r ≡ Err errors.Absent → first.value ≡ absent
  is_absent w = what_absent _ (sym g.told.what ∙ w)

  -- at most one node and one diagnostic more
  pub behind : {q : Reader Term} {N₂ D₂ : List ℕ} {v_s : Parsed} {s : Counters} → Said q L T N D N₂ D₂ c v_s s → ((j : ℕ) → r.nodes < j → drop (10 * j) N₂ ≡ drop (10 * j) N₁)
      → s.at ≡ r.at → s.nodes ≤ r.nodes + 1 → s.diagnostics ≤ r.diagnostics + 1 → BehindTold q L T N D N₂ D₂ c v_s s
  behind t w a n d = record {
    told = t;
    past = λ j b. w j (omega (arith, b, g.few)) ∙ g.past j (omega (arith, b));
    on = omega (arith, g.on);
    within = omega (arith, g.within);
    few = omega (arith, g.few);
    quiet = omega (arith, g.quiet);
  }

  -- what the term is, the whole is
  pub passed_on : (tail : Term → Reader Term) (v : Term) → first.value ≡ v → answer v ≡ tail v → Said (p >>= tail) L T N D N₁ D₁ c v_r r
  passed_on tail v e eq = bound g.told e (renamed eq (answered (g.told.what ∙ ap parsed_of e) refl (held_as g.told e)))

  -- the term has failed, and the whole with it
  fails_on : (tail : Term → Reader Term) → v_r ≡ Err errors.Reported → answer reported ≡ tail reported → BehindTold (p >>= tail) L T N D N₁ D₁ c (Err errors.Reported) r
  fails_on tail w eq = subst (λ z. BehindTold (p >>= tail) L T N D N₁ D₁ c z r) w (behind (passed_on tail reported (is_reported w) eq) (λ j b. refl) refl (omega arith) (omega arith))

  -- it has failed or is not there, told with one diagnostic more
  told_more : 10 * c.nodes ≤ length N → (tail : Term → Reader Term) {x y : Diagnostic} (v : Term) → first.value ≡ v → size_t v ≡ 0 → raise x (answer reported) ≡ tail v → y ≡ x
      → {D₂ : List ℕ} {v_q : Parsed} {q : Counters} → v_q ≡ Err errors.Reported → Raised D₁ D₂ r y q → BehindTold (p >>= tail) L T N D N₁ D₂ c v_q q
  unfolding parsed_of size_t
  told_more long tail v e z eq f w h =
      let back : r.nodes ≡ c.nodes = omega (arith, (held_as g.told e).total, z) in
      behind (bound g.told e (renamed eq (raised (raised_as f h) (answered w refl (held_none reported refl (raised_same h ∙ back) (kept g.told.held long)))))) (λ j b. refl)
      (ap (λ z. z.at) h.counters) (omega (arith, raised_same h)) (omega (arith, ap (λ z. z.diagnostics) h.counters))

  -- it has failed or is not there, where it had to stand behind the token k
  pub fails_behind : {k : Token} → 10 * c.nodes ≤ length N → (tail : Term → Reader Term) → answer reported ≡ tail reported → raise (expression_expected (span_of k)) (answer reported) ≡ tail absent
      → (e : TermError) {D₂ : List ℕ} {v_s : Parsed} {q : Counters} → ExpectedTold D₁ D₂ r v_r k v_s q → v_s ≡ Err e → BehindTold (p >>= tail) L T N D N₁ D₂ c (Err e) q
  unfolding size_t
  fails_behind long tail a b errors.Reported (stood n w d s) h = rw (d, s) (fails_on tail (sym w ∙ h) a)
  fails_behind long tail a b errors.Absent (stood n w d s) h = absurd (n (sym w ∙ h))
  fails_behind long tail a b e (missing w m) h = rw (← h) (told_more long tail absent (is_absent w) refl b refl m.what (deep_raised m))

  -- it is read
  pub read_on : {k : Token} {D₂ : List ℕ} {v_s : Parsed} {q : Counters} {x : Span} → ExpectedTold D₁ D₂ r v_r k v_s q → v_s ≡ Ok x → TermTold p L T N D N₁ D₂ c (Ok x) q
  read_on (stood n w d s) h = let z = sym w ∙ h in rw (d, s, ← z) g
  read_on (missing w m) h = absurd (apart h m.what)

-- a tree that was read has a node
module _ {p : Reader Term} {L T N D N₁ D₁ : List ℕ} {c : Counters} {v_r : Parsed} {r : Counters} (g : TermTold p L T N D N₁ D₁ c v_r r) where
  pub read_some : {x : Span} → v_r ≡ Ok x → 0 < r.nodes
  unfolding size_t
  read_some w = let y = is_read g w in omega (arith, size_pos y.0, (held_as g.told y.1).total)

  pub read_on_some : {k : Token} {D₂ : List ℕ} {v_s : Parsed} {q : Counters} {x : Span} → ExpectedTold D₁ D₂ r v_r k v_s q → v_s ≡ Ok x → 0 < q.nodes
  read_on_some (stood n w d s) h = omega (arith, ap (λ z. z.nodes) s, read_some (sym w ∙ h))
  read_on_some (missing w m) h = absurd (apart h m.what)

-- ---- behind a minus, a tilde or a plus

stored_unary : (P : List ℕ) (n x o : ℕ) (e : Expr) (s : Span) → x ≡ n + size e → (P ++ nodes n e) ++ node_record 5 o (x - 1) 65535 s (words 4 0) ≡ P ++ nodes n (unary o e s)
unfolding nodes words
stored_unary P n x o e s h = rw h (simp append_assoc)

module _ {L T N D N₁ D₁ : List ℕ} {c : Counters} (room : ℕ) {i n d : ℕ} {v_r : Parsed} {r : Counters} (asks : NodeRoom T N c i n d) (g : PrefixTold L T N D N₁ D₁ c room v_r r) where
  long : 10 * c.nodes ≤ length N
  long = omega (arith, asks)

  module _ (k : Token) where
    pub unary_reads : {x : Span} {N₂ : List ℕ} {o : ℕ} {q : Counters} → v_r ≡ Ok x → o ≡ unary_operator k.kind
        → NodeTold N₁ N₂ r (node_record 5 o (r.nodes - 1) 65535 (span k.start x.end) (words 4 0)) q
        → BehindTold (unary_term room k) L T N D N₂ D₁ c (Ok (span k.start x.end)) q
    unfolding negated parsed_of size_t nodes_t size span_e
    unary_reads {x} {N₂} {o} {q} w u p =
        let y = is_read g w in
        let h : Held N N₁ c.nodes (read y.0) r = held_as g.told y.1 in
        behind g
        (bound g.told y.1 (counted p.at p.end p.seen (answered (ap (λ z. Ok (span k.start z.end)) y.2) refl record {
          total = omega (arith, p.put.next, h.total);
          bytes =
              p.put.bytes
              ∙ ap (λ z. z ++ node_record 5 o (r.nodes - 1) 65535 (span k.start x.end) (words 4 0)) h.bytes
              ∙ stored_unary (take (10 * c.nodes) N) c.nodes r.nodes o y.0 (span k.start x.end) h.total
              ∙ ap₂ (λ a z. take (10 * c.nodes) N ++ nodes c.nodes (unary a y.0 (span k.start z.end))) u y.2;
        })))
        p.put.past p.at (omega (arith, p.put.next)) (omega (arith, p.seen))

    pub unary_fails : (e : TermError) {D₂ : List ℕ} {v_s : Parsed} {q : Counters} → ExpectedTold D₁ D₂ r v_r k v_s q → v_s ≡ Err e → BehindTold (unary_term room k) L T N D N₁ D₂ c (Err e) q
    unfolding negated
    unary_fails = fails_behind g long (negated k) refl refl

    plus_reports : {D₂ : List ℕ} {s : Span} {y : Diagnostic} {q : Counters} → v_r ≡ Err errors.Reported → s ≡ span_of k → y ≡ plain DiagnosticKinds.plus_is_not_a_unary_operator s no_span → Raised D₁ D₂ r y q
        → BehindTold (plus_term room k) L T N D N₁ D₂ c (Err errors.Reported) q
    unfolding plussed size_t
    plus_reports w sp f h = told_more g long (plussed k) reported (is_reported g w) refl refl (f ∙ ap (λ z. plain DiagnosticKinds.plus_is_not_a_unary_operator z no_span) sp) refl h

    plus_absents : {D₂ : List ℕ} {s : Span} {y : Diagnostic} {q : Counters} → v_r ≡ Err errors.Absent → s ≡ span_of k → y ≡ plain DiagnosticKinds.plus_is_not_a_unary_operator s no_span → Raised D₁ D₂ r y q
        → BehindTold (plus_term room k) L T N D N₁ D₂ c (Err errors.Reported) q
    unfolding plussed size_t
    plus_absents w sp f h = told_more g long (plussed k) absent (is_absent g w) refl refl (f ∙ ap (λ z. plain DiagnosticKinds.plus_is_not_a_unary_operator z no_span) sp) refl h

    plus_reads : {D₂ : List ℕ} {s x : Span} {y : Diagnostic} {q : Counters} → v_r ≡ Ok x → s ≡ span_of k → y ≡ plain DiagnosticKinds.plus_is_not_a_unary_operator s x → Raised D₁ D₂ r y q
        → BehindTold (plus_term room k) L T N D N₁ D₂ c (Ok x) q
    unfolding plussed parsed_of
    plus_reads w sp f h =
        let y = is_read g w in
        let t : Held N N₁ c.nodes (read y.0) r = held_as g.told y.1 in
        let same = ap (λ z. z.nodes) h.counters in
        behind g
        (bound g.told y.1 (raised (raised_as (f ∙ ap₂ (λ a b. plain DiagnosticKinds.plus_is_not_a_unary_operator a b) sp y.2) (raised_here h)) (answered (ap Ok y.2) h.counters record { total = t.total; bytes = t.bytes })))
        (λ j b. refl) (ap (λ z. z.at) h.counters) (omega (arith, same)) (omega (arith, ap (λ z. z.diagnostics) h.counters))

    -- whatever was read, the span of that or none is told beside the plus
    pub plus_tells : {D₂ : List ℕ} {s w : Span} {y : Diagnostic} {v_q : Parsed} {q : Counters} (u : Parsed) → v_r ≡ u → ResultUnwrapsOrElse u (λ z. (z.start ≡ 0) × (z.end ≡ 0)) w → v_q ≡ result_or u (Err errors.Reported)
        → s ≡ span_of k → y ≡ plain DiagnosticKinds.plus_is_not_a_unary_operator s w → Raised D₁ D₂ r y q → BehindTold (plus_term room k) L T N D N₁ D₂ c v_q q
    plus_tells {s = s} (Ok x) e d v sp f h = rw v (plus_reads e sp (f ∙ ap (plain DiagnosticKinds.plus_is_not_a_unary_operator s) d) h)
    plus_tells {s = s} (Err errors.Reported) e d v sp f h = rw v (plus_reports e sp (f ∙ ap (plain DiagnosticKinds.plus_is_not_a_unary_operator s) (blank d)) h)
    plus_tells {s = s} (Err errors.Absent) e d v sp f h = rw v (plus_absents e sp (f ∙ ap (plain DiagnosticKinds.plus_is_not_a_unary_operator s) (blank d)) h)

  -- ---- an expression whose first term answers r

  expression_told : {N₂ D₂ : List ℕ} {v_q : Parsed} {q : Counters} → Spared N N₂ c q → Said (parse_prefix fuel room >>= climbed fuel (parse_prefix fuel room)) L T N D N₂ D₂ c v_q q → ExpressionTold L T N D N₂ D₂ c room v_q q
  unfolding parse_expression parse_expression_of
  expression_told w h = bounded (expression_cost (place L T) 0 (all_clean (place L T)) room c.at c.end 0 0) asks.room.within w h

  expression_reports : v_r ≡ Err errors.Reported → ExpressionTold L T N D N₁ D₁ c room v_r r
  unfolding climbed
  expression_reports w = expression_told g.past (passed_on g (climbed fuel (parse_prefix fuel room)) reported (is_reported g w) refl)

  expression_absents : v_r ≡ Err errors.Absent → ExpressionTold L T N D N₁ D₁ c room v_r r
  unfolding climbed
  expression_absents w = expression_told g.past (passed_on g (climbed fuel (parse_prefix fuel room)) absent (is_absent g w) refl)

  pub expression_fails : (e : TermError) → v_r ≡ Err e → ExpressionTold L T N D N₁ D₁ c room (Err e) r
  expression_fails errors.Reported w = subst (λ z. ExpressionTold L T N D N₁ D₁ c room z r) w (expression_reports w)
  expression_fails errors.Absent w = subst (λ z. ExpressionTold L T N D N₁ D₁ c room z r) w (expression_absents w)

  pub expression_reads : {x : Span} {N₂ D₂ : List ℕ} {s_q : Span} {q : Counters} → v_r ≡ Ok x → ClimbTold L T N₁ D₁ N₂ D₂ r x 1 room s_q q
      → ExpressionTold L T N D N₂ D₂ c room (Ok s_q) q
  unfolding climbed parsed_of size_t nodes_t
  expression_reads w h =
      let y = is_read g w in
      let t : Held N N₁ c.nodes (read y.0) r = held_as g.told y.1 in
      let s = h.told fuel (omega (arith, fuel_enough, asks)) c.nodes y.0 t.total y.2 in
      expression_told (λ j b. h.past j (omega (arith, b, g.few)) ∙ g.past j (omega (arith, b, h.on)))
      (bound g.told y.1 (bound s refl (answered (ap Ok s.what) refl record {
        total = s.held.total;
        bytes = s.held.bytes
            ∙ ap (λ z. z ++ drop (10 * size y.0) (nodes c.nodes (run (parse_expression_from fuel (parse_prefix fuel room) 1 y.0) (place L T) r.at r.end).value)) t.bytes
            ∙ grown_behind (take (10 * c.nodes) N) (climb_grows c.nodes fuel (parse_prefix fuel room) 1 y.0 (place L T) r.at r.end);
      })))
