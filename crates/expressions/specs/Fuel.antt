-- The fuel of the climb never decides: whatever stands for more turns than there are tokens reads the same.
-- Assumes nothing.
use Rattle.std.specs.Prelude.{◌≡◌, refl, List}
use Prim.Native.Nat.{ℕ, zero, suc, ◌+◌, ◌≤◌, ◌<◌}
use Rattle.std.proofs.Common.{arith}
use Rattle.names.specs.Places.{Place, stands}
use Rattle.names.specs.declared.tokens.Token.{Token}
use Rattle.expressions.specs.Trees.{Expr}
use Rattle.expressions.specs.Reader.{Test, Reading, Reader, answer, bump, ◌>>=◌, run}
use Rattle.expressions.specs.Expressions.{Term, read, reported, absent, operator, operated, parse_expression_from, parse_prefix, fuel}
use Rattle.expressions.specs.Laws.{met_one}
use Rattle.expressions.specs.Alike.{Alike, Any, alike_run, flip, same_alike, bind_alike, bump_alike}

-- past the tokens nothing is stepped over
pub bump_past : {A : Type 0} {at : ℕ → Place} {i l : ℕ} {t : Test} {y : Token → List ℕ → Reader A} {n : Unit {0} → Reader A}
    → ((k : Token) (x : List ℕ) → at i ≡ stands k x → ⊥) → Alike Any at i l (bump t y n) (n tt)
unfolding run
bump_past {A} {at = at} {i = i} {l = l} {t = t} {y = y} {n = n} h = record {
  same = λ c. met_one (λ (s : Reading A). s ≡ run (n tt) at i l) t (λ k x. run (y k x) at (i + 1) k.end) (λ u. run (n u) at i l) (at i) (λ k x e q. absurd (h k x e)) (λ q. refl);
}

-- ---- the climb

module _ (at : ℕ → Place) (count : ℕ) (ends : (j : ℕ) (k : Token) (x : List ℕ) → at j ≡ stands k x → j < count) (t : Reader Term) where
  climb_fuel : (f g min : ℕ) (left : Expr) (i l : ℕ) → count ≤ f + i → count ≤ g + i
      → Alike Any at i l (parse_expression_from f t min left) (parse_expression_from g t min left)
  unfolding parse_expression_from operated
  climb_fuel zero zero min left i l a b = same_alike
  climb_fuel zero (suc g) min left i l a b = flip (bump_past (λ k x e. omega (arith, ends i k x e)))
  climb_fuel (suc f) zero min left i l a b = bump_past (λ k x e. omega (arith, ends i k x e))
  climb_fuel (suc f) (suc g) min left i l a b =
      bump_alike (λ k x e q. bind_alike same_alike λ j m. elim [
        | read y ↦ λ h. bind_alike (climb_fuel f g _ y j m (omega arith) (omega arith)) λ j₂ m₂ y₂ h₂. climb_fuel f g min _ j₂ m₂ (omega arith) (omega arith)
        | reported ↦ λ h. same_alike
        | absent ↦ λ h. same_alike
      ]) same_alike

-- one turn of the loop of `parse_expression_from`, where `again` reads on
unfoldable pub turn : (ℕ → Expr → Reader Expr) → Reader Term → ℕ → Expr → Reader Expr
turn again prefix min left = bump (operator min) (λ k x. prefix >>= operated again min left k) λ u. answer left

-- the fuel is enough for the longest list, 255 tokens
pub fuel_enough : 1023 ≤ fuel
unfolding fuel
fuel_enough = omega arith

-- the climb satisfies its own equation, for every list that has no more tokens than the fuel
pub climb_equation : (at : ℕ → Place) (count : ℕ) → ((j : ℕ) (k : Token) (x : List ℕ) → at j ≡ stands k x → j < count) → count ≤ fuel
    → (room min : ℕ) (left : Expr) (i l : ℕ)
    → run (parse_expression_from fuel (parse_prefix fuel room) min left) at i l
    ≡ run (turn (parse_expression_from fuel (parse_prefix fuel room)) (parse_prefix fuel room) min left) at i l
unfolding parse_expression_from turn
climb_equation at count ends few room min left i l =
    alike_run (climb_fuel at count ends (parse_prefix fuel room) fuel (suc fuel) min left i l (omega arith) (omega arith))
