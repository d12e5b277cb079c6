-- Expressions as operands.
-- Assumes nothing.
use Rattle.std.specs.Prelude.{◌≡◌, true, false, List, ℕ, zero, suc, ◌+◌, ◌≤◌, eqb, Some, None}
use native.Mathlib.Omega.{arith}
use Rattle.names.specs.Kinds
use Rattle.names.specs.Places.{Place, stands}
use Rattle.names.specs.declared.tokens.Token.{Token}
use Rattle.expressions.specs.Trees.{Expr, size}
use Rattle.expressions.specs.Reader.{any}
use Rattle.expressions.specs.Expressions.{read, reported, absent, suffixed, bare, parse_expression}
use Rattle.expressions.specs.Laws.{holds, All, Law, call}
use Rattle.expressions.proofs.Costs.{Clean, true_false, Signed, suffix_cost, expression_cost, unary_expression}
use Rattle.operand.specs.Operands.{displaced}
use Rattle.operand.specs.Operand
use Rattle.expressions.specs.declared.reading.Setting.{Setting}
use Rattle.operand.specs.Records.{size_d, size_o}
use Rattle.operand.proofs.Costs.Malformed.{Left, sm}
use Rattle.operand.proofs.Costs.Bases.{base_cost}

module _ (at : ℕ → Place) (w : ℕ) (clean : Clean at w) where
  pub finish_cost : (z : Setting) (x : Expr) (i l d r : ℕ) → Law (Operand.finish_expression_operand z x) at (Left at w clean size_o 0 (size x) 0 i d r) i l d r
  unfolding All Operand.finish_expression_operand Operand.absolute_size size_o
  finish_cost z x i l d r = record { all = call (suffix_cost at w clean _ _ _ _ _) λ j e s. elim [ suffixed n t ↦ omega arith | bare ↦ omega arith ] }

  -- behind the expression x
  operand_cost : (z : Setting) (x : Expr) (i l d r : ℕ) → Law (Operand.displaced_or_absolute z x) at (Left at w clean size_o 0 (size x) 0 i d r) i l d r
  unfolding All Operand.displacement_tail size_d
  operand_cost z x i l d r = record {
    all = (
      (λ k y h p. call (base_cost at w clean z k (displaced x 0) _ _ _ _) λ j e s. elim [ Some x ↦ omega arith | None ↦ omega arith ]),
      λ p. (finish_cost z x _ _ _ _).all,
    );
  }

  pub expression_operand_cost : (z : Setting) (i l d r : ℕ) → Law (Operand.parse_expression_operand z) at (Left at w clean size_o 1 0 0 i d r) i l d r
  unfolding All Operand.parse_expression_operand Operand.or_absent Operand.no_expression
  expression_operand_cost z i l d r =
      let h = sm at w clean in
      record {
        all = call (expression_cost at w clean _ _ _ _ _) λ j e s. elim [
          | read x ↦ λ a b c g m. call (operand_cost z x _ _ _ _) λ j₂ e₂ s₂. elim [ Some x ↦ omega arith | None ↦ omega arith ]
          | reported ↦ omega arith
          | absent ↦ λ a b c g m. ((λ k x h p. omega arith), λ p. omega arith)
        ];
      }

  -- one that begins with a minus
  module _ {i : ℕ} {k : Token} {x : List ℕ} (h : at i ≡ stands k x) (q : eqb k.kind Kinds.minus ≡ true) where
    signed_cost : (room l d r : ℕ) → 1 ≤ room → Law (parse_expression room) at (Signed at w clean i d r) i l d r
    signed_cost zero l d r g = absurd (omega arith)
    signed_cost (suc room) l d r g = unary_expression at w clean h q room l d r

    pub signed_operand_cost : (z : Setting) (l d r : ℕ) → 1 ≤ z.limit → r ≤ i + 2 → Law (Operand.parse_expression_operand z) at (Left at w clean size_o 1 0 0 i d i) i l d r
    unfolding All Operand.parse_expression_operand Operand.or_absent
    signed_operand_cost z l d r lim near = record {
      all = call (signed_cost z.limit l d r lim) λ j e s. elim [
        | read x ↦ λ a b c g m. call (operand_cost z x _ _ _ _) λ j₂ e₂ s₂. elim [ Some x ↦ omega arith | None ↦ omega arith ]
        | reported ↦ omega arith
        | absent ↦ λ a b c g m. absurd g
      ];
    }

    there : holds any (at i) ≡ false → ⊥
    unfolding holds
    there n = true_false (rw h at n)
