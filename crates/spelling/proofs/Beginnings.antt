-- Where a spelling's first token leads: to a group, a name, or an expression.
-- Assumes nothing.
use Rattle.std.specs.Prelude.{◌≡◌, true, false, ℕ, ◌+◌, eqb, Some}
use Rattle.std.proofs.Math.Path.{refl}
use Rattle.std.proofs.Common.{sym, ◌∙◌, ap, arith}
use borrow.Author.Tests.{eqb-true}
use Rattle.names.specs.Kinds
use Rattle.names.specs.Places.{Place}
use Rattle.expressions.specs.Trees.{Expr}
use Rattle.expressions.specs.declared.reading.Setting.{Setting}
use Rattle.expressions.specs.Reader.{is}
use Rattle.expressions.specs.Laws.{holds}
use Rattle.expressions.proofs.Costs.{true_false}
use Rattle.operand.specs.Operands.{Operand}
use Rattle.operand.specs.Operand
use Rattle.operand.specs.Operand.{a_register, operand_from}
use Rattle.spelling.specs.Signs.{Sign, Name, ordinary}
use Rattle.spelling.specs.Expressions.{Spells, a_number, a_literal, a_name, a_local, a_unary, a_group, own_group, tighter, joined}
use Rattle.spelling.specs.Expressions as E
use Rattle.spelling.specs.Spelling.{Expression}
use Rattle.spelling.proofs.Readings.{Reads, steps, passes, misses, either_way, other, kinded, same_sign}
use Rattle.spelling.proofs.Climbs.{unary_sign}
use Rattle.spelling.proofs.Looks.{starts}

different : {at : ℕ → Place} {k n i : ℕ} → Sign at k i → Sign at n i → eqb k n ≡ false → eqb n n ≡ true → ⊥
different {n = n} s t q r = true_false (sym r ∙ ap (λ k. eqb k n) (sym (same_sign s t)) ∙ q)

-- ---- a minus, a parenthesis and a register begin no expression

module _ (s : Setting) {at : ℕ → Place} {own : ℕ} where
  group_inner : {m room i j : ℕ} {e : Expr} → Spells at (ordinary s.mark) own m room i j e → Sign at Kinds.left_paren i → holds a_register (at (i + 1)) ≡ false
  group_inner (a_number t w) g = absurd (different t g refl refl)
  group_inner (a_literal t) g = absurd (different t g refl refl)
  group_inner (a_name t q) g = absurd (different t g refl refl)
  group_inner (a_local t) g = absurd (different t g refl refl)
  group_inner (E.an_address t) g = absurd (different t g refl refl)
  group_inner (a_unary t u h) g = absurd (different t g (unary_sign u) refl)
  group_inner (a_group b t h c) g = (starts {s = s} h).looks.registers
  group_inner (own_group t h c) g = (starts {s = s} h).looks.registers
  group_inner (tighter h) g = group_inner h g
  group_inner (joined h t b f) g = group_inner h g

  minus_group : {m room i j : ℕ} {e : Expr} → Spells at (ordinary s.mark) own m room i j e → Sign at Kinds.minus i → Sign at Kinds.left_paren (i + 1)
      → holds a_register (at (i + 1 + 1)) ≡ false
  minus_group (a_number t w) m g = absurd (different t m refl refl)
  minus_group (a_literal t) m g = absurd (different t m refl refl)
  minus_group (a_name t q) m g = absurd (different t m refl refl)
  minus_group (a_local t) m g = absurd (different t m refl refl)
  minus_group (E.an_address t) m g = absurd (different t m refl refl)
  minus_group (a_unary t u h) m g = group_inner h g
  minus_group (a_group b t h c) m g = absurd (different t m refl refl)
  minus_group (own_group t h c) m g = absurd (different t m refl refl)
  minus_group (tighter h) m g = minus_group h m g
  minus_group (joined h t b f) m g = minus_group h m g

module _ (s : Setting) (at : ℕ → Place) (own : ℕ) {j l : ℕ} {y : Operand} where
  pub begins_group : (t : Sign at Kinds.left_paren own) → ((l : ℕ) → Reads (Operand.parse_parenthesised_operand s t.token) at (own + 1) l j (Some y))
      → Reads (operand_from s) at own l j (Some y)
  unfolding operand_from
  begins_group t h =
      misses (omega arith) (other t Kinds.comma refl) (passes (other t Kinds.hash refl) (steps t.there (kinded t Kinds.left_paren refl) (h _)))

  pub begins_name : (t : Name at own) → Reads (Operand.name_or_expression s) at own l j (Some y) → Reads (operand_from s) at own l j (Some y)
  unfolding operand_from
  begins_name t h =
      misses (omega arith) (other t Kinds.comma refl) (passes (other t Kinds.hash refl) (passes (other t Kinds.left_paren refl)
      (misses (omega arith) (other t Kinds.minus refl) h)))

  -- an expression that does not begin with a parenthesis
  pub begins_expression : {n : ℕ} {e : Expr} → Expression s at (ordinary s.mark) own own n e → holds (is Kinds.left_paren) (at own) ≡ false
      → Reads (Operand.parse_expression_operand s) at own l j (Some y) → Reads (operand_from s) at own l j (Some y)
  unfolding operand_from Operand.minus_operand Operand.name_or_expression
  begins_expression e p h =
      let b = starts {s = s} e in
      misses (omega arith) (other b.sign Kinds.comma b.comma) (passes (other b.sign Kinds.hash b.hash) (passes p
      (either_way (omega arith)
      (λ k x at₁ q. either_way refl
      (λ k₂ x₂ at₂ q₂. misses (omega arith)
      (minus_group s e (record { token = k; text = x; there = at₁; of = eqb-true _ _ q }) (record { token = k₂; text = x₂; there = at₂; of = eqb-true _ _ q₂ })) h)
      λ q₂. h)
      λ q. passes b.looks.registers (passes b.special h))))
