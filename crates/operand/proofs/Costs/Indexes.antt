-- An index register.
-- Assumes nothing.
use Rattle.std.specs.Prelude.{Bool, ℕ, Some, None}
use native.Mathlib.Omega.{arith}
use Rattle.names.specs.Places.{Place}
use Rattle.records.specs.Problems
use Rattle.expressions.specs.Expressions.{suffixed, bare}
use Rattle.expressions.specs.Laws.{All, all_choose, Law, call}
use Rattle.expressions.proofs.Costs.{Clean, suffix_cost, valued_cost}
use Rattle.operand.specs.declared.forms.Register.{Register}
use Rattle.operand.specs.declared.forms.IndexRegister.{IndexRegister}
use Rattle.operand.specs.Operand
use Rattle.expressions.specs.declared.reading.Setting.{Setting}
use Rattle.operand.proofs.Costs.Malformed.{Left, nil, malformed_cost, stepped_cost}

module _ (at : ℕ → Place) (w : ℕ) (clean : Clean at w) where
  scale_cost : (z : Setting) (shape : ℕ) (x : IndexRegister) (i l d r : ℕ) → Law (Operand.index_scale z shape x) at (Left at w clean (nil at w clean) 0 0 0 i d r) i l d r
  unfolding All Operand.index_scale Operand.scaled
  scale_cost z shape x i l d r = record {
    all = (
      (λ k y h p. (
        (λ t y₂ h₂ p₂. call (valued_cost at w clean t _ _ _ _ _) λ j e s v a b c g m.
            all_choose (Operand.scale_of v) _ _ _ _ _ _ _ _ (omega arith)
            (call (malformed_cost at w clean (nil at w clean) z shape Problems.bad_scale 0 0 0 _ _ _ _) λ j₂ e₂ s₂. elim [ Some x ↦ omega arith | None ↦ omega arith ])),
        λ p₂. call (stepped_cost at w clean (nil at w clean) z shape Problems.bad_scale 0 0 0 _ _ _ _) λ j e s. elim [ Some x ↦ omega arith | None ↦ omega arith ],
      )),
      λ p. omega arith,
    );
  }

  index_register_cost : (z : Setting) (shape : ℕ) (q : Register) (b : Bool) (i l d r : ℕ) → Law (Operand.index_register z shape q b) at (Left at w clean (nil at w clean) 0 0 0 i d r) i l d r
  unfolding All Operand.index_register Operand.index_size
  index_register_cost z shape q b i l d r = record {
    all = call (suffix_cost at w clean _ _ _ _ _) λ j e s. elim [
      | suffixed n t ↦ λ a b c g m. call (scale_cost z shape _ _ _ _ _) λ j₂ e₂ s₂. elim [ Some x ↦ omega arith | None ↦ omega arith ]
      | bare ↦ λ a b c g m. call (scale_cost z shape _ _ _ _ _) λ j₂ e₂ s₂. elim [ Some x ↦ omega arith | None ↦ omega arith ]
    ];
  }

  pub index_cost : (z : Setting) (shape i l d r : ℕ) → Law (Operand.parse_index_register z shape) at (Left at w clean (nil at w clean) 1 0 0 i d r) i l d r
  unfolding All Operand.parse_index_register
  index_cost z shape i l d r = record {
    all = (
      (λ t x h p. call (index_register_cost z shape _ _ _ _ _ _) λ j e s. elim [ Some x ↦ omega arith | None ↦ omega arith ]),
      λ p. (
        (λ t x h p₂. call (index_register_cost z shape _ _ _ _ _ _) λ j e s. elim [ Some x ↦ omega arith | None ↦ omega arith ]),
        λ p₂. (stepped_cost at w clean (nil at w clean) z shape Problems.index_missing 1 0 0 _ _ _ _).all,
      ),
    );
  }
