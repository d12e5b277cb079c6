-- The full index: its registers may have looked one place past the cursor, which a parenthesis or a bracket then takes.
-- Assumes nothing.
use Rattle.std.specs.Prelude.{ℕ, Option, Some, None}
use native.Mathlib.Omega.{arith}
use Rattle.names.specs.Places.{Place}
use Rattle.names.specs.declared.tokens.Token.{Token}
use Rattle.records.specs.Problems
use Rattle.records.specs.Shapes
use Rattle.expressions.specs.Laws.{All, Law, call}
use Rattle.expressions.proofs.Costs.{Clean}
use Rattle.operand.specs.Operands.{Displacement}
use Rattle.operand.specs.declared.forms.BaseRegister.{BaseRegister}
use Rattle.operand.specs.declared.forms.Registers.{Registers}
use Rattle.operand.specs.Operand
use Rattle.expressions.specs.declared.reading.Setting.{Setting}
use Rattle.operand.specs.Records.{size_d, size_o}
use Rattle.operand.proofs.Costs.Malformed.{Left, nil, stepped_cost, close_cost}
use Rattle.operand.proofs.Costs.Indexes.{index_cost}

module _ (at : ℕ → Place) (w : ℕ) (clean : Clean at w) where
  abbrev Registered : ℕ → ℕ → ℕ → ℕ → ℕ → ℕ → Option Registers → Type 0
  Registered i d r j e s v = Left at w clean (nil at w clean) 1 0 1 i d r j e s v

  after_register_cost : (z : Setting) (shape : ℕ) (b : BaseRegister) (i l d r : ℕ) → Law (Operand.after_base_register z shape b) at (Left at w clean (nil at w clean) 0 0 1 i d r) i l d r
  unfolding All Operand.after_base_register Operand.or_none
  after_register_cost z shape b i l d r = record {
    all = (
      (λ t x h p. (
        (λ c y h₂ p₂. call (index_cost at w clean z shape _ _ _ _) λ j e s. elim [ Some x ↦ omega arith | None ↦ omega arith ]),
        λ p₂. omega arith,
      )),
      λ p. omega arith,
    );
  }

  no_base_cost : (z : Setting) (shape i l d r : ℕ) → Law (Operand.no_base z shape) at (Registered i d r) i l d r
  unfolding All Operand.no_base Operand.or_none
  no_base_cost z shape i l d r = record {
    all = (
      (λ t x h p. call (index_cost at w clean z shape _ _ _ _) λ j e s. elim [ Some x ↦ omega arith | None ↦ omega arith ]),
      λ p. call (stepped_cost at w clean (nil at w clean) z shape Problems.base_or_index_missing 1 0 1 _ _ _ _) λ j e s. elim [ Some x ↦ omega arith | None ↦ omega arith ],
    );
  }

  pub registers_cost : (z : Setting) (shape i l d r : ℕ) → Law (Operand.parse_base_and_index_registers z shape) at (Registered i d r) i l d r
  unfolding All Operand.parse_base_and_index_registers
  registers_cost z shape i l d r = record {
    all = (
      (λ t x h p. call (after_register_cost z shape _ _ _ _ _) λ j e s. elim [ Some x ↦ omega arith | None ↦ omega arith ]),
      λ p. (
        (λ t x h p₂. call (after_register_cost z shape _ _ _ _ _) λ j e s. elim [ Some x ↦ omega arith | None ↦ omega arith ]),
        λ p₂. (
          (λ t x h p₃. call (no_base_cost z shape _ _ _ _) λ j e s. elim [ Some x ↦ omega arith | None ↦ omega arith ]),
          λ p₃. (
            (λ t x h p₄. call (after_register_cost z shape _ _ _ _ _) λ j e s. elim [ Some x ↦ omega arith | None ↦ omega arith ]),
            λ p₄. (
              (λ t x h p₅. call (after_register_cost z shape _ _ _ _ _) λ j e s. elim [ Some x ↦ omega arith | None ↦ omega arith ]),
              λ p₅. call (no_base_cost z shape _ _ _ _) λ j e s. elim [ Some x ↦ omega arith | None ↦ omega arith ],
            ),
          ),
        ),
      ),
    );
  }

  pub full_index_cost : (z : Setting) (k : Token) (y : Displacement) (i l d r : ℕ) → Law (Operand.parse_full_index z k y) at (Left at w clean size_o 1 (size_d y) 0 i d r) i l d r
  unfolding All Operand.parse_full_index Operand.or_none size_o size_d
  full_index_cost z k y i l d r = record {
    all = call (registers_cost z Shapes.index _ _ _ _) λ j e s. elim [
      | Some v ↦ λ a b c g m. call (close_cost at w clean z k Shapes.index _ _ _ _) λ j₂ e₂ s₂. elim [ Some x ↦ omega arith | None ↦ omega arith ]
      | None ↦ omega arith
    ];
  }
