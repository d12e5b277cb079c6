-- Memory indirect.
-- Assumes nothing.
use Rattle.std.specs.Prelude.{ℕ, Option, Some, None}
use native.Mathlib.Omega.{arith}
use Rattle.names.specs.Places.{Place}
use Rattle.names.specs.declared.tokens.Token.{Token}
use Rattle.records.specs.Problems
use Rattle.records.specs.Shapes
use Rattle.expressions.specs.Expressions.{read, reported, absent, suffixed, bare}
use Rattle.expressions.specs.Laws.{All, Law, call}
use Rattle.expressions.proofs.Costs.{Clean, suffix_cost, expression_cost}
use Rattle.operand.specs.Operand
use Rattle.expressions.specs.declared.reading.Setting.{Setting}
use Rattle.operand.specs.Operand.{Inner, Outer}
use Rattle.operand.specs.Records.{size_d, size_o}
use Rattle.operand.proofs.Costs.Malformed.{Left, unclosed_cost, stepped_cost, close_cost}
use Rattle.operand.proofs.Costs.Indexes.{index_cost}
use Rattle.operand.proofs.Costs.Full.{registers_cost}
use Rattle.operand.specs.declared.forms.IndexRegister.{IndexRegister}

module _ (at : ℕ → Place) (w : ℕ) (clean : Clean at w) where
  pub displacement_cost : (z : Setting) (i l d r : ℕ) → Law (Operand.parse_sized_displacement z) at (Left at w clean size_d 0 0 0 i d r) i l d r
  unfolding All Operand.parse_sized_displacement Operand.or_absent Operand.sized size_d
  displacement_cost z i l d r = record {
    all = call (expression_cost at w clean _ _ _ _ _) λ j e s. elim [
      | read x ↦ λ a b c g m. call (suffix_cost at w clean _ _ _ _ _) λ j₂ e₂ s₂. elim [ suffixed n t ↦ omega arith | bare ↦ omega arith ]
      | reported ↦ omega arith
      | absent ↦ λ a b c g m. call (stepped_cost at w clean size_d z Shapes.memory_indirect Problems.a_displacement_missing 0 0 0 _ _ _ _) λ j₂ e₂ s₂. elim [ Some x ↦ omega arith | None ↦ omega arith ]
    ];
  }

  abbrev size_i : Inner → ℕ
  size_i n = size_d n.displacement

  abbrev size_u : Outer → ℕ
  size_u u = size_d u.displacement

  pub inner_cost : (z : Setting) (i l d r : ℕ) → Law (Operand.parse_inner z) at (Left at w clean size_i 0 0 1 i d r) i l d r
  unfolding All Operand.parse_inner Operand.or_none Operand.inner_displaced size_d
  inner_cost z i l d r = record {
    all = (
      (λ k x h p. omega arith),
      λ p. (
        (λ k x h p₂. call (registers_cost at w clean z Shapes.memory_indirect _ _ _ _) λ j e s. elim [ Some x ↦ omega arith | None ↦ omega arith ]),
        λ p₂. call (displacement_cost z _ _ _ _) λ j e s. elim [
          | Some y ↦ λ a b c g m. (
            (λ t x h p₃. call (registers_cost at w clean z Shapes.memory_indirect _ _ _ _) λ j₂ e₂ s₂. elim [ Some x ↦ omega arith | None ↦ omega arith ]),
            λ p₃. omega arith,
          )
          | None ↦ omega arith
        ],
      ),
    );
  }

  outer_index_cost : (z : Setting) (v : Option IndexRegister) (i l d r : ℕ) → Law (Operand.outer_index z v) at (Left at w clean size_u 0 0 0 i d r) i l d r
  unfolding All Operand.outer_index Operand.outer_indexed Operand.or_none size_d
  outer_index_cost z (Some x) i l d r = stepped_cost at w clean size_u z Shapes.memory_indirect Problems.index_twice 0 0 0 i l d r
  outer_index_cost z None i l d r = record {
    all = call (index_cost at w clean z Shapes.memory_indirect _ _ _ _) λ j e s. elim [
      | Some v ↦ λ a b c g m. (
        (λ t x h p. call (displacement_cost z _ _ _ _) λ j₂ e₂ s₂. elim [ Some x ↦ omega arith | None ↦ omega arith ]),
        λ p. omega arith,
      )
      | None ↦ omega arith
    ];
  }

  pub outer_cost : (z : Setting) (v : Option IndexRegister) (i l d r : ℕ) → Law (Operand.parse_outer z v) at (Left at w clean size_u 0 0 0 i d r) i l d r
  unfolding All Operand.parse_outer Operand.or_none size_d
  outer_cost z v i l d r = record {
    all = (
      (λ c y h p. (
        (λ t x h₂ p₂. call (outer_index_cost z v _ _ _ _) λ j e s. elim [ Some x ↦ omega arith | None ↦ omega arith ]),
        λ p₂. call (displacement_cost z _ _ _ _) λ j e s. elim [ Some x ↦ omega arith | None ↦ omega arith ],
      )),
      λ p. omega arith,
    );
  }

  pub memory_cost : (z : Setting) (k : Token) (i l d r : ℕ) → Law (Operand.parse_memory_indirect z k) at (Left at w clean size_o 1 0 0 i d r) i l d r
  unfolding All Operand.parse_memory_indirect Operand.or_none size_o
  memory_cost z k i l d r = record {
    all = call (inner_cost z _ _ _ _) λ j e s. elim [
      | Some n ↦ λ a b c g m. (
        (λ t x h p. call (outer_cost z _ _ _ _ _) λ j₂ e₂ s₂. elim [
          | Some u ↦ λ a₂ b₂ c₂ g₂ m₂. call (close_cost at w clean z k Shapes.memory_indirect _ _ _ _) λ j₃ e₃ s₃. elim [ Some x ↦ omega arith | None ↦ omega arith ]
          | None ↦ omega arith
        ]),
        λ p. call (unclosed_cost at w clean size_o z k Shapes.memory_indirect Problems.bracket_missing 1 0 0 _ _ _ _) λ j₂ e₂ s₂. elim [ Some x ↦ omega arith | None ↦ omega arith ],
      )
      | None ↦ omega arith
    ];
  }
