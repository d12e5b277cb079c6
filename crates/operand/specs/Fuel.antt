-- The fuel of the register list never decides.
-- Assumes nothing.
use Rattle.std.specs.Prelude.{◌≡◌, List, [], ◌∷◌, ◌++◌, Some, None}
use Rattle.std.proofs.Common.{◌∙◌, ap, arith}
use Prim.Native.Nat.{ℕ, zero, suc, ◌+◌, ◌≤◌, ◌<◌}
use Rattle.names.specs.Places.{Place, stands}
use Rattle.names.specs.declared.tokens.Token.{Token}
use Rattle.expressions.specs.declared.reading.Setting.{Setting}
use Rattle.expressions.specs.Reader.{Reader, after, answer, bind, run}
use Rattle.expressions.specs.Expressions.{fuel}
use Rattle.expressions.specs.Alike.{Alike, Any, alike_run, flip, same_alike, bind_alike, bump_alike}
use Rattle.expressions.specs.Fuel.{bump_past}
use Rattle.operand.specs.Operands.{RegisterListItem, single}
use Rattle.operand.specs.declared.forms.Register.{Register}
use Rattle.operand.specs.Operand.{or_none, ◌>>=?◌, list_item, listed, next_item, list_loop}

then : {A : Type 0} {at : ℕ → Place} {i l : ℕ} {p q r : Reader A} → Alike Any at i l p q → Alike Any at i l q r → Alike Any at i l p r
then f g = record { same = λ c. alike_run f ∙ alike_run g }

-- a reader that only answers leaves the next one where it was
answer_bind : {A B : Type 0} {at : ℕ → Place} {i l : ℕ} {p : Reader B} {f : B → Reader A} (b : B) → Alike Any at i l p (answer b) → Alike Any at i l (bind p f) (f b)
unfolding run
answer_bind {at = at} {i = i} {l = l} {f = f} b h = record { same = λ c. ap (λ r. after r.raised (run (f r.value) at r.cursor r.end)) (alike_run h) }

module _ (at : ℕ → Place) (count : ℕ) (ends : (j : ℕ) (k : Token) (x : List ℕ) → at j ≡ stands k x → j < count) (s : Setting) where
  -- past the tokens the list ends
  list_past : (g : ℕ) (items : List RegisterListItem) (r : Register) (i l : ℕ) → count ≤ i
      → Alike Any at i l (list_item r >>=? next_item (list_loop g s) s items) (listed s (items ++ (single r ∷ [])))
  unfolding list_item next_item or_none
  list_past g items r i l h =
      then (answer_bind (Some (single r)) (bump_past (λ k x e. omega (arith, ends i k x e)))) (bump_past (λ k x e. omega (arith, ends i k x e)))

  list_fuel : (f g : ℕ) (items : List RegisterListItem) (r : Register) (i l : ℕ) → count ≤ f + i → count ≤ g + i
      → Alike Any at i l (list_loop f s items r) (list_loop g s items r)
  unfolding list_loop next_item or_none
  list_fuel zero zero items r i l a b = same_alike
  list_fuel zero (suc g) items r i l a b = flip (list_past g items r i l (omega arith))
  list_fuel (suc f) zero items r i l a b = list_past f items r i l (omega arith)
  list_fuel (suc f) (suc g) items r i l a b = bind_alike same_alike λ j m. elim [
    | Some x ↦ λ h. bump_alike
        (λ k y e q. bump_alike (λ t z e₂ q₂. list_fuel f g _ _ (j + 1 + 1) _ (omega arith) (omega arith)) same_alike)
        same_alike
    | None ↦ λ h. same_alike
  ]

-- the list loop satisfies its own equation, for every list that has no more tokens than the fuel
pub list_equation : (at : ℕ → Place) (count : ℕ) → ((j : ℕ) (k : Token) (x : List ℕ) → at j ≡ stands k x → j < count) → count ≤ fuel
    → (s : Setting) (items : List RegisterListItem) (r : Register) (i l : ℕ)
    → run (list_loop fuel s items r) at i l ≡ run (list_item r >>=? next_item (list_loop fuel s) s items) at i l
unfolding list_loop
list_equation at count ends few s items r i l = alike_run (list_fuel at count ends s fuel (suc fuel) items r i l (omega arith) (omega arith))
