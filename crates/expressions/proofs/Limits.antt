-- A higher nesting limit changes nothing of an expression that raises no NestingTooDeep.
-- Assumes nothing.
use Rattle.std.specs.Prelude.{refl}
use Prim.Native.Nat.{ℕ, zero, suc, ◌+◌, ◌≤◌}
use Rattle.std.proofs.Common.{arith}
use Rattle.names.specs.Places.{Place}
use Rattle.records.specs.declared.diagnostics.Diagnostic.{Diagnostic}
use Rattle.expressions.specs.Trees.{Expr}
use Rattle.records.specs.Diagnostics.{nesting_too_deep}
use Rattle.records.specs.Spans.{empty, span_of}
use Rattle.expressions.specs.Reader.{any, Reading, Reader, answer, raise, run}
use Rattle.expressions.specs.Expressions.{Term, read, reported, absent, operated, parse_expression_from, climbed, parse_expression_of, parse_prefix_term, too_deep, parse_prefix, fuel, parse_expression, expression_from}
use Rattle.expressions.specs.Laws.{met_one, Every}
use Rattle.expressions.specs.Alike.{Alike, same_alike, bind_alike, bump_alike}
use Rattle.expressions.specs.Limits.{NotTooDeep}

-- ---- two readers of a term, alike wherever they begin

module _ (P : Diagnostic → Type 0) (at : ℕ → Place) (p q : Reader Term) (h : (i l : ℕ) → Alike P at i l p q) (f : ℕ) where
  climb_alike : (g min : ℕ) (left : Expr) (i l : ℕ) → Alike P at i l (parse_expression_from g p min left) (parse_expression_from g q min left)
  unfolding parse_expression_from operated
  climb_alike zero min left i l = same_alike
  climb_alike (suc g) min left i l =
      bump_alike (λ k x e c. bind_alike (h (i + 1) k.end) λ j m. elim [
        | read y ↦ λ b. bind_alike (climb_alike g _ y j m) λ j₂ m₂ y₂ b₂. climb_alike g min _ j₂ m₂
        | reported ↦ λ b. same_alike
        | absent ↦ λ b. same_alike
      ]) same_alike

  expression_of_alike : (i l : ℕ) → Alike P at i l (parse_expression_of f p) (parse_expression_of f q)
  unfolding parse_expression_of climbed
  expression_of_alike i l = bind_alike (h i l) λ j m. elim [
    | read left ↦ λ b. bind_alike (climb_alike f 1 left j m) λ j₂ m₂ e b₂. same_alike
    | reported ↦ λ b. same_alike
    | absent ↦ λ b. same_alike
  ]

  prefix_term_alike : (i l : ℕ) → Alike P at i l (parse_prefix_term f p) (parse_prefix_term f q)
  unfolding parse_prefix_term
  prefix_term_alike i l =
      bump_alike (λ k x e c. bind_alike (h _ _) λ j m t b. same_alike)
      (bump_alike (λ k x e c. bind_alike (h _ _) λ j m t b. same_alike)
      (bump_alike (λ k x e c. bind_alike (expression_of_alike _ _) λ j m t b. same_alike) same_alike))

-- ---- the limit

-- where no term may be opened, NestingTooDeep is raised
too_deep_lem : (at : ℕ → Place) (i l : ℕ) → Every NotTooDeep (run too_deep at i l).raised → ⊥
unfolding run too_deep
too_deep_lem at i l = met_one (λ (s : Reading Term). Every NotTooDeep s.raised → ⊥) any (λ k x. run (raise (nesting_too_deep (span_of k)) (answer reported)) at i l) (λ u. run (raise (nesting_too_deep (empty l)) (answer reported)) at i l) (at (i + 0)) (λ k x h q c. c.0 refl) (λ q c. c.0 refl)

module _ (at : ℕ → Place) where
  prefix_higher : (f m n : ℕ) → m ≤ n → (i l : ℕ) → Alike NotTooDeep at i l (parse_prefix f m) (parse_prefix f n)
  unfolding parse_prefix
  prefix_higher f zero n le i l = record { same = λ c. absurd (too_deep_lem at i l c) }
  prefix_higher f (suc m) zero le i l = absurd (omega arith)
  prefix_higher f (suc m) (suc n) le i l = prefix_term_alike NotTooDeep at _ _ (prefix_higher f m n (omega arith)) f i l

  pub expression_higher : {m n : ℕ} → m ≤ n → (i l : ℕ) → Alike NotTooDeep at i l (parse_expression m) (parse_expression n)
  unfolding parse_expression
  expression_higher {m} {n} le i l = expression_of_alike NotTooDeep at _ _ (prefix_higher fuel m n le) fuel i l

  pub expression_from_higher : {m n : ℕ} → m ≤ n → (left : Expr) (i l : ℕ) → Alike NotTooDeep at i l (expression_from m left) (expression_from n left)
  unfolding expression_from
  expression_from_higher {m} {n} le left i l = climb_alike NotTooDeep at _ _ (prefix_higher fuel m n le) fuel fuel 1 left i l
