-- Register lists, and a register as an operand.
-- Assumes nothing.
use Rattle.std.specs.Prelude.{◌≡◌, refl, Bool, true, false, leb, ltb, length, Some, None}
use mathlib.Core.List.{List, []}
use Prim.Native.Nat.{ℕ, zero, suc, ◌+◌}
use native.Mathlib.Omega.{arith}
use Rattle.std.proofs.Math.ListN.{length-append}
use Rattle.names.specs.Places.{Place}
use Rattle.names.specs.Choice.{pick}
use Rattle.records.specs.Problems
use Rattle.records.specs.declared.spans.Span.{Span}
use Rattle.expressions.specs.declared.reading.Setting.{Setting}
use Rattle.expressions.specs.Laws.{All, all_choose, Law, call}
use Rattle.expressions.proofs.Costs.{Clean}
use Rattle.operand.specs.Operands.{RegisterListItem, Operand}
use Rattle.operand.specs.declared.forms.Register.{Register}
use Rattle.operand.specs.Operands as O
use Rattle.operand.specs.Operand
use Rattle.operand.specs.Records.{size_o}
use Rattle.operand.proofs.Costs.Malformed.{Left, nil, sm}

direct_size : (q : Register) (z : Span) → size_o (Operand.register_direct q z) ≡ 0
unfolding size_o Operand.register_direct
direct_size q z = go (leb 8 q.index)
  where
    go : (b : Bool) → size_o (pick b (O.address_register_direct q z) (O.data_register_direct q z)) ≡ 0
    go true = refl
    go false = refl

module _ (at : ℕ → Place) (w : ℕ) (clean : Clean at w) where
  expected_cost : {A : Type 0} (f : A → ℕ) (sign c m g i l d r : ℕ) → Law (Operand.register_expected {A = A} sign) at (Left at w clean f c m g i d r) i l d r
  unfolding All Operand.register_expected
  expected_cost f sign c m g i l d r = let h = sm at w clean in record { all = ((λ k x h q. omega arith), λ q. omega arith) }

  item_cost : (q : Register) (i l d r : ℕ) → Law (Operand.list_item q) at (Left at w clean (nil at w clean) 0 0 0 i d r) i l d r
  unfolding All Operand.list_item Operand.ranged
  item_cost q i l d r = record {
    all = (
      (λ k x h p. (
        (λ t y h₂ p₂. all_choose (ltb (Operand.register_from t y).index q.index) _ _ _ _ _ _ _ _ (omega arith) (omega arith)),
        λ p₂. call (expected_cost (nil at w clean) Problems.after_minus 0 0 0 _ _ _ _) λ j e s. elim [ Some x ↦ omega arith | None ↦ omega arith ],
      )),
      λ p. omega arith,
    );
  }

  -- the register at i has been consumed, so that every item stands for a token
  list_cost : (f : ℕ) (z : Setting) (items : List RegisterListItem) (q : Register) (i l d r : ℕ)
      → Law (Operand.list_loop f z items q) at (Left at w clean size_o 0 (length items + 1) 0 i d r) i l d r
  unfolding All Operand.list_loop Operand.next_item Operand.or_none Operand.listed size_o
  list_cost zero z items q i l d r = record { all = rw length-append (omega arith) }
  list_cost (suc f) z items q i l d r = record {
    all = call (item_cost q _ _ _ _) λ j e s. elim [
      | Some x ↦ λ a b c g m. (
        (λ k y h p. (
          (λ t y₂ h₂ p₂. call (list_cost f z _ _ _ _ _ _) λ j₂ e₂ s₂. elim [ Some x ↦ rw length-append (omega arith) | None ↦ omega arith ]),
          λ p₂. call (expected_cost size_o Problems.after_slash 0 0 0 _ _ _ _) λ j₂ e₂ s₂. elim [ Some x ↦ omega arith | None ↦ omega arith ],
        )),
        λ p. rw length-append (omega arith),
      )
      | None ↦ omega arith
    ];
  }

  pub register_operand_cost : (z : Setting) (q : Register) (i l d r : ℕ) → Law (Operand.parse_register_operand z q) at (Left at w clean size_o 0 1 0 i d r) i l d r
  unfolding All Operand.parse_register_operand Operand.parse_register_list
  register_operand_cost z q i l d r = record {
    all = (
      (λ k y h p. call (list_cost _ z [] q _ _ _ _) λ j e s. elim [ Some x ↦ omega arith | None ↦ omega arith ]),
      λ p. let z = direct_size q q.span in omega arith,
    );
  }
