-- The law that an offset fits: where no token starts or ends past m, no offset that a reading leaves is past m.
-- Assumes nothing.
use Rattle.std.specs.Prelude.{◌≡◌, refl, Bool, List, eqb, leb, ltb, length}
use Rattle.std.proofs.Math.Bool.{true, false}
use Prim.Native.Nat.{ℕ, zero, suc, ◌+◌, ◌≤◌}
use Rattle.std.proofs.Common.{Option, Some, None, Result, Ok, Err, arith, ltb-true}
use Rattle.names.specs.Choice.{pick}
use Rattle.names.specs.Places.{Place, stands}
use Rattle.names.specs.Registers.{reserved}
use Rattle.names.specs.Sizes.{run_of, size_of}
use Rattle.names.specs.declared.tokens.Token.{Token}
use Rattle.names.specs.declared.sizes.SizeSuffix.{SizeSuffix}
use Rattle.names.specs.declared.numbers.NumberError.{NumberError}
use Rattle.records.specs.DiagnosticKinds
use Rattle.records.specs.Spans.{span_of}
use Rattle.records.specs.declared.spans.Span.{Span}
use Rattle.records.specs.declared.diagnostics.Diagnostic.{Diagnostic}
use Rattle.expressions.specs.Trees.{Expr, number, character_literal, symbol, current_address, unary, binary, span_e, with_span}
use Rattle.expressions.specs.Reader.{Test, Reading, Reader, answer, here, raise, bump, peek, choose, run, ◌>>=◌}
use Rattle.expressions.specs.Expressions.{Term, read, reported, absent, Suffix, suffixed, bare, known, suffix_run, take_size_suffix, operated, parse_expression_from, climbed, parse_expression_of, negated, plussed, valued, named, grouped, number_term, leaf_term, parse_prefix_term, too_deep, parse_prefix, parse_expression, expression_from, fuel}
use Rattle.expressions.specs.Laws.{Every, every_append, met_one}

-- ---- what lies within m

abbrev pub SpanIn : ℕ → Span → Type 0
SpanIn m s = (s.start ≤ m) × (s.end ≤ m)

-- the spans of every node, and its own
unfoldable pub TreeIn : ℕ → Expr → Type 0
TreeIn m (number b v s) = SpanIn m s
TreeIn m (character_literal q o s) = SpanIn m o × SpanIn m s
TreeIn m (symbol o s) = SpanIn m o × SpanIn m s
TreeIn m (current_address s) = SpanIn m s
TreeIn m (unary o e s) = TreeIn m e × SpanIn m s
TreeIn m (binary o l r s) = TreeIn m l × TreeIn m r × SpanIn m s

abbrev pub TermIn : ℕ → Term → Type 0
TermIn m (read e) = TreeIn m e
TermIn m reported = Unit {0}
TermIn m absent = Unit {0}

abbrev pub SuffixIn : ℕ → Suffix → Type 0
SuffixIn m (suffixed n s) = SpanIn m s
SuffixIn m bare = Unit {0}

-- the text of kind 10 is two registers
abbrev pub DiagnosticIn : ℕ → Diagnostic → Type 0
DiagnosticIn m d = SpanIn m d.span × SpanIn (pick (eqb d.kind DiagnosticKinds.register_range_out_of_order) 15 m) d.text × SpanIn m d.related

-- no token starts or ends past m
pub record TokensIn (m : ℕ) (at : ℕ → Place) : Type 0 where
  pub tokens : (j : ℕ) (k : Token) (x : List ℕ) → at j ≡ stands k x → SpanIn m (span_of k)

-- ---- the law of a reader

-- what a reading leaves: P of its answer, the end of the last token, and each diagnostic
abbrev Left : {A : Type 0} → ℕ → (A → Type 0) → Reading A → Type 0
Left m P s = P s.value × (s.end ≤ m) × Every (DiagnosticIn m) s.raised

pub record Fits {A : Type 0} (m : ℕ) (P : A → Type 0) (p : Reader A) : Type 0 where
  pub all : (at : ℕ → Place) → TokensIn m at → (i l : ℕ) → l ≤ m → Left m P (run p at i l)

module _ {A : Type 0} {m : ℕ} {P : A → Type 0} where
  pub answers : {a : A} → P a → Fits m P (answer a)
  unfolding run
  answers h = record { all = λ at w i l g. (h, g, tt) }

  pub from_here : {q : ℕ → ℕ → Reader A} → ((i l : ℕ) → l ≤ m → Fits m P (q i l)) → Fits m P (here q)
  unfolding run
  from_here h = record { all = λ at w i l g. (h i l g).all at w i l g }

  pub raises : {d : Diagnostic} {p : Reader A} → DiagnosticIn m d → Fits m P p → Fits m P (raise d p)
  unfolding run
  raises n h = record { all = λ at w i l g. let z = h.all at w i l g in (z.0, z.1, (n, z.2)) }

  pub steps : {t : Test} {y : Token → List ℕ → Reader A} {n : Unit {0} → Reader A}
      → ((k : Token) (x : List ℕ) → SpanIn m (span_of k) → Fits m P (y k x)) → Fits m P (n tt) → Fits m P (bump t y n)
  unfolding run
  steps {t = t} {y = y} {n = n} h g = record {
    all = λ at w i l b.
        met_one (Left m P) t (λ k x. run (y k x) at (i + 1) k.end) (λ u. run (n u) at i l) (at i)
        (λ k x e q. let z = w.tokens i k x e in (h k x z).all at w (i + 1) k.end z.1) (λ q. g.all at w i l b);
  }

  pub sees : {a : ℕ} {t : Test} {y : Token → List ℕ → Reader A} {n : Unit {0} → Reader A}
      → ((k : Token) (x : List ℕ) → SpanIn m (span_of k) → Fits m P (y k x)) → Fits m P (n tt) → Fits m P (peek a t y n)
  unfolding run
  sees {a = a} {t = t} {y = y} {n = n} h g = record {
    all = λ at w i l b.
        met_one (Left m P) t (λ k x. run (y k x) at i l) (λ u. run (n u) at i l) (at (i + a)) (λ k x e q. (h k x (w.tokens (i + a) k x e)).all at w i l b) (λ q. g.all at w i l b);
  }

  pub chooses : (b : Bool) {p q : Reader A} → Fits m P p → Fits m P q → Fits m P (choose b p q)
  chooses true h g = h
  chooses false h g = g

  pub then : {B : Type 0} {Q : B → Type 0} {p : Reader B} {q : B → Reader A} → Fits m Q p → ((b : B) → Q b → Fits m P (q b)) → Fits m P (p >>= q)
  unfolding run
  then {p = p} h k = record {
    all = λ at w i l b.
        let s = run p at i l in
        let y = h.all at w i l b in
        let z = (k s.value y.0).all at w s.cursor s.end y.1 in
        (z.0, z.1, every_append (DiagnosticIn m) s.raised _ y.2 z.2);
  }

-- ---- the readers of expressions

module _ {m : ℕ} where
  -- the root's span
  pub root : (e : Expr) → TreeIn m e → SpanIn m (span_e e)
  unfolding span_e TreeIn
  root (number b v s) h = h
  root (character_literal q o s) h = h.1
  root (symbol o s) h = h.1
  root (current_address s) h = h
  root (unary o e s) h = h.1
  root (binary o l r s) h = h.2

  pub widened : (e : Expr) (t : Span) → TreeIn m e → SpanIn m t → TreeIn m (with_span e t)
  unfolding with_span TreeIn
  widened (number b v s) t h g = g
  widened (character_literal q o s) t h g = (h.0, g)
  widened (symbol o s) t h g = (h.0, g)
  widened (current_address s) t h g = g
  widened (unary o e s) t h g = (h.0, g)
  widened (binary o l r s) t h g = (h.0, h.1, g)

  behind_first : (s e : ℕ) → e ≤ m → pick (ltb s e) (s + 1) e ≤ m
  behind_first s e h = go (ltb s e) refl
    where
      go : (b : Bool) → ltb s e ≡ b → pick b (s + 1) e ≤ m
      go true q = omega (arith, ltb-true s e q)
      go false q = h

  known_fits : (k : Token) (z : Option SizeSuffix) → SpanIn m (span_of k) → Fits m (SuffixIn m) (known k z)
  unfolding known
  known_fits k (Some n) h = answers h
  known_fits k None h = raises (omega (arith, behind_first k.start k.end h.1)) (answers h)

  pub suffix_fits : (from : ℕ) → from ≤ m → Fits m (SuffixIn m) (take_size_suffix from)
  unfolding take_size_suffix suffix_run
  suffix_fits from low = steps (λ k x h. chooses (leb 2 (length (run_of x))) (raises (omega arith) (answers h)) (known_fits k (size_of (run_of x)) h)) (answers tt)

  climb_fits : (f : ℕ) (t : Reader Term) → Fits m (TermIn m) t → (min : ℕ) (left : Expr) → TreeIn m left → Fits m (TreeIn m) (parse_expression_from f t min left)
  unfolding parse_expression_from operated TreeIn
  climb_fits zero t ht min left h = answers h
  climb_fits (suc f) t ht min left h = steps (λ k x q. then ht (elim [
    | read y ↦ λ g. then (climb_fits f t ht _ y g) λ e b. climb_fits f t ht min _ (h, b, ((root left h).0, (root e b).1))
    | reported ↦ λ g. answers h
    | absent ↦ λ g. raises (omega arith) (answers h)
  ])) (answers h)

  expression_of_fits : (f : ℕ) (t : Reader Term) → Fits m (TermIn m) t → Fits m (TermIn m) (parse_expression_of f t)
  unfolding parse_expression_of climbed
  expression_of_fits f t ht = then ht (elim [
    | read e ↦ λ h. then (climb_fits f t ht 1 e h) λ y g. answers g
    | reported ↦ λ h. answers h
    | absent ↦ λ h. answers h
  ])

  -- a number's value is no offset
  pub valued_fits : (k : Token) (n : Result ℕ NumberError) → SpanIn m (span_of k) → Fits m (λ v. Unit {0}) (valued k n)
  unfolding valued
  valued_fits k (Ok v) h = answers tt
  valued_fits k (Err NumberError.TooLarge) h = raises (omega arith) (answers tt)
  valued_fits k (Err NumberError.Invalid) h = answers tt

  named_fits : (k : Token) (b : Bool) → SpanIn m (span_of k) → Fits m (TermIn m) (named k b)
  unfolding named TreeIn
  named_fits k true h = raises (omega arith) (answers tt)
  named_fits k false h = answers (h, h)

  leaf_fits : Fits m (TermIn m) leaf_term
  unfolding leaf_term number_term TreeIn
  leaf_fits =
      steps (λ k x h. answers h)
      (steps (λ k x h. then (valued_fits k _ h) λ v g. answers h)
      (steps (λ k x h. answers (h, h))
      (steps (λ k x h. named_fits k (reserved x) h) (steps (λ k x h. answers (h, h)) (steps (λ k x h. answers tt) (answers tt))))))

  term_fits : (f : ℕ) (t : Reader Term) → Fits m (TermIn m) t → Fits m (TermIn m) (parse_prefix_term f t)
  unfolding parse_prefix_term negated plussed grouped TreeIn
  term_fits f t ht =
      steps (λ k x h. then ht (elim [
        | read e ↦ λ g. answers (g, (h.0, (root e g).1))
        | reported ↦ λ g. answers tt
        | absent ↦ λ g. raises (omega arith) (answers tt)
      ]))
      (steps (λ k x h. then ht (elim [
        | read e ↦ λ g. raises (omega (arith, root e g)) (answers g)
        | reported ↦ λ g. raises (omega arith) (answers tt)
        | absent ↦ λ g. raises (omega arith) (answers tt)
      ]))
      (steps (λ k x h. then (expression_of_fits f t ht) (elim [
        | read e ↦ λ g. steps (λ c y q. answers (widened e _ g (h.0, q.1))) (raises (omega arith) (answers tt))
        | reported ↦ λ g. answers tt
        | absent ↦ λ g. raises (omega arith) (answers tt)
      ]))
      leaf_fits))

  prefix_fits : (f room : ℕ) → Fits m (TermIn m) (parse_prefix f room)
  unfolding parse_prefix too_deep
  prefix_fits f zero = from_here λ i l h. sees (λ k x g. raises (omega arith) (answers tt)) (raises (omega arith) (answers tt))
  prefix_fits f (suc room) = term_fits f _ (prefix_fits f room)

  pub expression_fits : (room : ℕ) → Fits m (TermIn m) (parse_expression room)
  unfolding parse_expression
  expression_fits room = expression_of_fits fuel _ (prefix_fits fuel _)

  pub from_fits : (room : ℕ) (left : Expr) → TreeIn m left → Fits m (TreeIn m) (expression_from room left)
  unfolding expression_from
  from_fits room left h = climb_fits fuel _ (prefix_fits fuel room) 1 left h
