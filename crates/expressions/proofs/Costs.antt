-- What each reader of expressions costs and leaves: how many nodes and diagnostics for the tokens it consumes, how far it has looked,
-- and that it does not fail in silence.
-- Assumes nothing.
use Rattle.std.specs.Prelude.{◌≡◌, refl, Bool, List, eqb, leb, length}
use Rattle.std.proofs.Common.{Option, Some, None, Result, Ok, Err, sym, ◌∙◌, eqb-true}
use Rattle.std.proofs.Math.Bool.{true, false}
use Prim.Native.Nat.{ℕ, zero, suc, ◌+◌, ◌≤◌, ◌<◌, max}
use native.Mathlib.Omega.{arith}
use Rattle.names.specs.Kinds
pub use Rattle.names.specs.Laws.{true_false}
use Rattle.names.specs.Places.{Place, stands}
use Rattle.names.specs.Registers.{reserved}
use Rattle.names.specs.Sizes.{run_of, size_of}
use Rattle.names.specs.declared.tokens.Token.{Token}
use Rattle.names.specs.declared.sizes.SizeSuffix.{SizeSuffix}
use Rattle.names.specs.declared.numbers.NumberError.{NumberError}
use Rattle.records.specs.Spans.{span_of}
use Rattle.expressions.specs.Trees.{Expr, number, character_literal, symbol, current_address, unary, binary, with_span, size}
use Rattle.records.specs.declared.spans.Span.{Span}
use Rattle.expressions.specs.Reader.{Reader}
use Rattle.expressions.specs.Expressions.{Term, read, reported, absent, Suffix, known, suffix_run, take_size_suffix, operated, parse_expression_from, climbed, parse_expression_of, is_unary, negated, plussed, valued, named, grouped, number_term, leaf_term, parse_prefix_term, too_deep, parse_prefix, parse_expression, expression_from, fuel}
use Rattle.expressions.specs.Laws.{holds, All, all_choose, Law, call, PlusBefore}

pub size_with_span : (e : Expr) (t : Span) → size (with_span e t) ≡ size e
unfolding size with_span
size_with_span (number b v s) t = refl
size_with_span (character_literal q o s) t = refl
size_with_span (symbol o s) t = refl
size_with_span (current_address s) t = refl
size_with_span (unary o e s) t = refl
size_with_span (binary o l r s) t = refl

pub size_pos : (e : Expr) → 0 < size e
unfolding size
size_pos (number b v s) = omega arith
size_pos (character_literal q o s) = omega arith
size_pos (symbol o s) = omega arith
size_pos (current_address s) = omega arith
size_pos (unary o e s) = omega arith
size_pos (binary o l r s) = omega arith

-- w is 1 only where no Error token stands at all, so that d + w ≤ e says: something was raised, unless one stands somewhere
pub record Clean (at : ℕ → Place) (w : ℕ) : Type 0 where
  pub small : w ≤ 1
  pub none : (j : ℕ) (k : Token) (x : List ℕ) → at j ≡ stands k x → eqb k.kind Kinds.error ≡ true → w ≡ 0

-- whatever stands there
pub all_clean : (at : ℕ → Place) → Clean at 0
all_clean at = record { small = omega arith; none = λ j k x h q. refl }

module _ (at : ℕ → Place) (w : ℕ) (clean : Clean at w) where
  -- what a term reader that starts at i, with d diagnostics raised and r the farthest place seen, leaves
  abbrev pub Cost : ℕ → ℕ → ℕ → ℕ → ℕ → ℕ → Term → Type 0
  Cost i d r j e s (read x) = (i < j) × (i + size x ≤ j) × (e + i ≤ d + j) × (s ≤ max r j)
  Cost i d r j e s reported = (e + i ≤ d + j + 1) × (d + w ≤ e) × (s ≤ max r j)
  Cost i d r j e s absent = (j ≡ i) × (e ≡ d) × (s ≤ max r j)

  -- a tree that goes on from one of m nodes
  abbrev pub Spent : ℕ → ℕ → ℕ → ℕ → ℕ → ℕ → ℕ → Expr → Type 0
  Spent m i d r j e s x = (size x + i ≤ m + j) × (e + i ≤ d + j) × (s ≤ max r j)

  abbrev pub Costs : Reader Term → Type 0
  Costs t = (i l d r : ℕ) → Law t at (Cost i d r) i l d r

  -- a suffix raises at most as much as it consumes
  abbrev pub Taken : ℕ → ℕ → ℕ → ℕ → ℕ → ℕ → Suffix → Type 0
  Taken i d r j e s x = (e + i ≤ d + j) × (s ≤ max r j)

  known_cost : (k : Token) (z : Option SizeSuffix) (i l d r : ℕ) → All (known k z) at (Taken i d r) (i + 1) l d r
  unfolding All known
  known_cost k (Some n) i l d r = omega arith
  known_cost k None i l d r = omega arith

  suffix_run_cost : (from : ℕ) (k : Token) (run : List ℕ) (i l d r : ℕ) → All (suffix_run from k run) at (Taken i d r) (i + 1) l d r
  unfolding All suffix_run
  suffix_run_cost from k run i l d r = all_choose (leb 2 (length run)) _ _ _ _ _ _ _ _ (omega arith) (known_cost k (size_of run) i l d r)

  pub suffix_cost : (from i l d r : ℕ) → Law (take_size_suffix from) at (Taken i d r) i l d r
  unfolding All take_size_suffix
  suffix_cost from i l d r = record { all = ((λ k x h q. suffix_run_cost from k (run_of x) i _ d r), λ q. omega arith) }

  pub climb_cost : (f : ℕ) (t : Reader Term) → Costs t → (min : ℕ) (left : Expr) (i l d r : ℕ)
      → Law (parse_expression_from f t min left) at (Spent (size left) i d r) i l d r
  unfolding All parse_expression_from operated size
  climb_cost zero t ht min left i l d r = record { all = omega arith }
  climb_cost (suc f) t ht min left i l d r = record {
    all = (
      (λ k x h q. call (ht _ _ _ _) λ j e s. elim [
        | read y ↦ λ a b c g m. call (climb_cost f t ht _ _ _ _ _ _) λ j₂ e₂ s₂ y₂ a₂ b₂ c₂ g₂ m₂. call (climb_cost f t ht _ _ _ _ _ _) (omega arith)
        | reported ↦ omega arith
        | absent ↦ omega arith
      ]),
      omega arith,
    );
  }

  pub expression_of_cost : (f : ℕ) (t : Reader Term) → Costs t → Costs (parse_expression_of f t)
  unfolding All parse_expression_of climbed
  expression_of_cost f t ht i l d r = record {
    all = call (ht _ _ _ _) λ j e s. elim [
      | read x ↦ λ a b c g m. call (climb_cost f t ht _ _ _ _ _ _) (omega arith)
      | reported ↦ omega arith
      | absent ↦ omega arith
    ];
  }

  -- ---- the terms, where t is a term one level down

  -- `Parser::number` raises at most one
  abbrev pub Valued : ℕ → ℕ → ℕ → ℕ → ℕ → ℕ → ℕ → Type 0
  Valued i d r j e s v = (j ≡ i) × (e ≤ d + 1) × (s ≤ max r j)

  pub valued_cost : (k : Token) (n : Result ℕ NumberError) (i l d r : ℕ) → Law (valued k n) at (Valued i d r) i l d r
  unfolding All valued
  valued_cost k (Ok v) i l d r = record { all = omega arith }
  valued_cost k (Err NumberError.TooLarge) i l d r = record { all = omega arith }
  valued_cost k (Err NumberError.Invalid) i l d r = record { all = omega arith }

  named_cost : (k : Token) (b : Bool) (i l d r : ℕ) → All (named k b) at (Cost i d r) (i + 1) l d r
  unfolding All named size
  named_cost k true i l d r = omega (arith, clean.small)
  named_cost k false i l d r = omega arith

  plus_before : {i j : ℕ} {k : Token} {x : List ℕ} → at i ≡ stands k x → eqb k.kind Kinds.plus ≡ true → i < j → PlusBefore at (span_of k) j
  plus_before {i} {k = k} {x = x} h q g = record { place = i; before = g; token = k; text = x; found = h; plus = eqb-true k.kind Kinds.plus q; spans = refl }

  leaf_cost : (i l d r : ℕ) → Law leaf_term at (Cost i d r) i l d r
  unfolding All leaf_term number_term size
  leaf_cost i l d r =
      let sm = clean.small in
      record {
        all = (
          (λ k x h q. omega arith),
          λ _. (
            (λ k x h q. call (valued_cost k _ _ _ _ _) (omega arith)),
            λ _. (
              (λ k x h q. omega arith),
              λ _. (
                (λ k x h q. named_cost k (reserved x) i _ d r),
                λ _. ((λ k x h q. omega arith), λ _. ((λ k x h q. omega (arith, clean.none i k x h q)), λ _. omega arith)),
              ),
            ),
          ),
        );
      }

  pub term_cost : (f : ℕ) (t : Reader Term) → Costs t → Costs (parse_prefix_term f t)
  unfolding All parse_prefix_term negated plussed grouped size
  term_cost f t ht i l d r =
      let sm = clean.small in
      record {
        all = (
          (λ k x h q. call (ht _ _ _ _) λ j e s. elim [ read y ↦ omega arith | reported ↦ omega arith | absent ↦ omega arith ]),
          λ _. (
            (λ k x h q. call (ht _ _ _ _) λ j e s. elim [
              | read y ↦ λ a b c g m. (plus_before h q (omega arith), omega arith)
              | reported ↦ λ a b c g m. (plus_before h q (omega arith), omega arith)
              | absent ↦ λ a b c g m. (plus_before h q (omega arith), omega arith)
            ]),
            λ _. (
              (λ k x h q. call (expression_of_cost f t ht _ _ _ _) λ j e s. elim [
                | read y ↦ λ a b c g m. ((λ k₂ x₂ h₂ q₂. rw size_with_span (omega arith)), λ _. omega arith)
                | reported ↦ omega arith
                | absent ↦ omega arith
              ]),
              λ _. (leaf_cost i l d r).all,
            ),
          ),
        );
      }

  pub prefix_cost : (f room : ℕ) → Costs (parse_prefix f room)
  unfolding All parse_prefix too_deep
  prefix_cost f zero i l d r = let sm = clean.small in record { all = ((λ k x h q. omega arith), λ _. omega arith) }
  prefix_cost f (suc room) i l d r = term_cost f _ (prefix_cost f room) i l d r

  pub expression_cost : (room : ℕ) → Costs (parse_expression room)
  unfolding parse_expression
  expression_cost room = expression_of_cost fuel _ (prefix_cost fuel _)

  pub from_cost : (room : ℕ) (left : Expr) (i l d r : ℕ) → Law (expression_from room left) at (Spent (size left) i d r) i l d r
  unfolding expression_from
  from_cost room left i l d r = climb_cost fuel _ (prefix_cost fuel room) 1 left i l d r

  -- ---- an expression that begins with a minus consumes it, and a term too where it is read

  abbrev pub Signed : ℕ → ℕ → ℕ → ℕ → ℕ → ℕ → Term → Type 0
  Signed i d r j e s (read x) = (i + 2 ≤ j) × (i + size x ≤ j) × (e + i ≤ d + j) × (s ≤ max r j)
  Signed i d r j e s reported = (i + 1 ≤ j) × (e + i ≤ d + j + 1) × (d + w ≤ e) × (s ≤ max r j)
  Signed i d r j e s absent = ⊥

  module _ {i : ℕ} {k : Token} {x : List ℕ} (h : at i ≡ stands k x) (q : eqb k.kind Kinds.minus ≡ true) where
    seen : holds is_unary (at i) ≡ true
    unfolding holds is_unary
    seen = rw (h, holds, q)

    unary_prefix : (f room l d r : ℕ) → Law (parse_prefix f (suc room)) at (Signed i d r) i l d r
    unfolding All parse_prefix parse_prefix_term negated size
    unary_prefix f room l d r =
        let sm = clean.small in
        record {
          all = (
            (λ k x h q. call (prefix_cost f room _ _ _ _) λ j e s. elim [ read y ↦ omega arith | reported ↦ omega arith | absent ↦ omega arith ]),
            λ no-unary. absurd (true_false (sym seen ∙ no-unary)),
          );
        }

    pub unary_expression : (room l d r : ℕ) → Law (parse_expression (suc room)) at (Signed i d r) i l d r
    unfolding All parse_expression parse_expression_of climbed
    unary_expression room l d r = record {
      all = call (unary_prefix fuel _ l d r) λ j e s. elim [
        | read y ↦ λ a b c g m. call (climb_cost fuel _ (prefix_cost fuel _) _ _ _ _ _ _) (omega arith)
        | reported ↦ omega arith
        | absent ↦ λ a b c g m. absurd g
      ];
    }
