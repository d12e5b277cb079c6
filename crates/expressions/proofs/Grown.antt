-- The climb only adds to its left side: the left side's records stand before those that it adds, whatever they are.
-- Assumes nothing.
use Rattle.std.specs.Prelude.{◌≡◌, List, [], ◌++◌, ℕ, zero, suc, ◌+◌, ◌*◌, drop}
use Rattle.std.proofs.Common.{sym, ◌∙◌, ap, append_assoc, append-nil, drop_at}
use Rattle.names.specs.Places.{Place}
use Rattle.names.specs.declared.tokens.Token.{Token}
use Rattle.records.specs.declared.spans.Span.{Span}
use Rattle.records.specs.Spans.{span}
use Rattle.expressions.specs.Trees.{Expr, binary, span_e, size}
use Rattle.expressions.specs.Reader.{Reading, Reader, answer, run, ◌>>=◌}
use Rattle.expressions.specs.Expressions.{Term, read, reported, absent, precedence, binary_operator, operator, operated, parse_expression_from}
use Rattle.expressions.specs.Records.{nodes, length_nodes}
use Rattle.expressions.specs.Laws.{met_one}

-- the records of v begin with those of e, where both begin at node b
pub record Grown (b : ℕ) (e v : Expr) : Type 0 where
  pub rest : List ℕ
  pub is : nodes b v ≡ nodes b e ++ rest

pub grown_is : {b : ℕ} {e v : Expr} → Grown b e v → nodes b v ≡ nodes b e ++ drop (10 * size e) (nodes b v)
grown_is {b} {e} h =
    h.is ∙ ap (λ z. nodes b e ++ z) (sym (ap (drop (10 * size e)) h.is ∙ drop_at (nodes b e) h.rest (10 * size e) (length_nodes b e)))

-- behind what stands before e
pub grown_behind : (P : List ℕ) {b : ℕ} {e v : Expr} → Grown b e v → (P ++ nodes b e) ++ drop (10 * size e) (nodes b v) ≡ P ++ nodes b v
grown_behind P {b} {e} h = append_assoc P (nodes b e) _ ∙ ap (λ z. P ++ z) (sym (grown_is h))

-- nothing is added where v is e
pub grown_none : (P : List ℕ) (b : ℕ) (e : Expr) → P ≡ P ++ drop (10 * size e) (nodes b e)
grown_none P b e =
    sym (ap (λ z. P ++ z) (ap (drop (10 * size e)) (sym (append-nil (nodes b e))) ∙ drop_at (nodes b e) [] (10 * size e) (length_nodes b e)) ∙ append-nil P)

grown_self : {b : ℕ} {e : Expr} → Grown b e e
grown_self {b} {e} = record { rest = []; is = sym (append-nil (nodes b e)) }

grown_left : {b o : ℕ} {e r v : Expr} {s : Span} → Grown b (binary o e r s) v → Grown b e v
unfolding nodes
grown_left {b} {e = e} h = record { rest = _; is = h.is ∙ append_assoc (nodes b e) _ h.rest }

-- one turn of the climb, whose later turns grow
grown_turn : (b : ℕ) (again : ℕ → Expr → Reader Expr) (min : ℕ) (e : Expr) (k : Token) (at : ℕ → Place) (j m : ℕ) (t : Term)
    → ((v : Expr) (i l : ℕ) → Grown b v (run (again min v) at i l).value) → Grown b e (run (operated again min e k t) at j m).value
unfolding run operated
grown_turn b again min e k at j m (read r) h =
    let Q = run (again (precedence k.kind + 1) r) at j m in
    grown_left (h (binary (binary_operator k.kind) e Q.value (span (span_e e).start (span_e Q.value).end)) Q.cursor Q.end)
grown_turn b again min e k at j m reported h = grown_self
grown_turn b again min e k at j m absent h = grown_self

pub climb_grows : (b g : ℕ) (p : Reader Term) (min : ℕ) (e : Expr) (at : ℕ → Place) (i l : ℕ) → Grown b e (run (parse_expression_from g p min e) at i l).value
unfolding run parse_expression_from
climb_grows b zero p min e at i l = grown_self
climb_grows b (suc g) p min e at i l =
    met_one (λ (s : Reading Expr). Grown b e s.value) (operator min) (λ k x. run (p >>= operated (parse_expression_from g p) min e k) at (i + 1) k.end) (λ u. run (answer e) at i l) (at i)
    (λ k x h q. let s = run p at (i + 1) k.end in grown_turn b (parse_expression_from g p) min e k at s.cursor s.end s.value (λ v j m. climb_grows b g p min v at j m))
    (λ q. grown_self)
