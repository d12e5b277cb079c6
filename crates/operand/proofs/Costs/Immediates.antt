-- An immediate.
-- Assumes nothing.
use Rattle.std.specs.Prelude.{ℕ, eqb, Some, None}
use native.Mathlib.Omega.{arith}
use Rattle.names.specs.Places.{Place}
use Rattle.names.specs.declared.tokens.Token.{Token}
use Rattle.records.specs.Problems
use Rattle.records.specs.Shapes
use Rattle.expressions.specs.Expressions.{read, reported, absent, suffixed, bare}
use Rattle.expressions.specs.Laws.{All, all_choose, Law, call}
use Rattle.expressions.proofs.Costs.{Clean, suffix_cost, expression_cost}
use Rattle.operand.specs.Operand
use Rattle.expressions.specs.declared.reading.Setting.{Setting}
use Rattle.operand.specs.Records.{size_o}
use Rattle.operand.proofs.Costs.Malformed.{Left, sm, malformed_cost}

module _ (at : ℕ → Place) (w : ℕ) (clean : Clean at w) where
  pub immediate_cost : (z : Setting) (hash : Token) (i l d r : ℕ) → Law (Operand.parse_immediate z hash) at (Left at w clean size_o 0 0 0 i d r) i l d r
  unfolding All Operand.parse_immediate Operand.or_absent Operand.immediate_size size_o
  immediate_cost z hash i l d r = record {
    all = call (expression_cost at w clean _ _ _ _ _) λ j e s. elim [
      | read x ↦ λ a b c g m. call (suffix_cost at w clean _ _ _ _ _) λ j₂ e₂ s₂. elim [
        | suffixed n t ↦ λ a₂ b₂ c₂ g₂ m₂. all_choose (eqb n 3) _ _ _ _ _ _ _ _ (omega arith) (all_choose (eqb n 0) _ _ _ _ _ _ _ _ (omega arith) (call (malformed_cost at w clean size_o z Shapes.immediate Problems.immediate_carries_no_size 0 0 0 _ _ _ _) λ j₃ e₃ s₃. elim [ Some x ↦ omega arith | None ↦ omega arith ]))
        | bare ↦ omega arith
      ]
      | reported ↦ omega arith
      | absent ↦ let h = sm at w clean in omega arith
    ];
  }
