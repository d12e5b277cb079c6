-- What each reader of operands costs and leaves, as for expressions. Its parts are those of Operand.antt.
-- Assumes nothing.
pub mod Malformed
pub mod Immediates
pub mod Lists
pub mod Indexes
pub mod Bases
pub mod Full
pub mod Memory
pub mod Absolutes
pub mod Parentheses
use Rattle.std.specs.Prelude.{◌≡◌, true, List, ℕ, ◌+◌, ◌≤◌, max, eqb, Some, None}
use native.Mathlib.Omega.{arith}
use Rattle.names.specs.Kinds
use Rattle.names.specs.Places.{Place, stands}
use Rattle.names.specs.declared.tokens.Token.{Token}
use Rattle.expressions.specs.Laws.{All, Law, call}
use Rattle.expressions.proofs.Costs.{Clean}
use Rattle.operand.specs.Operands.{Operand}
use Rattle.operand.specs.Operand
use Rattle.expressions.specs.declared.reading.Setting.{Setting}
use Rattle.operand.specs.Records.{size_o}
pub use Malformed.{Left, nil, malformed_cost, unclosed_cost, not_address_cost, stepped_cost, close_cost}
use Malformed.{sm}
pub use Immediates.{immediate_cost}
use Lists.{register_operand_cost}
pub use Indexes.{index_cost}
use Bases.{predecrement_cost}
pub use Full.{registers_cost}
pub use Memory.{displacement_cost, inner_cost, outer_cost}
use Absolutes.{expression_operand_cost, signed_operand_cost}
use Parentheses.{parenthesised_operand_cost}

module _ (at : ℕ → Place) (w : ℕ) (clean : Clean at w) where
  minus_cost : (z : Setting) (a : Token) (x : List ℕ) (i l d r : ℕ) → 1 ≤ z.limit → at i ≡ stands a x → eqb a.kind Kinds.minus ≡ true → r ≤ i
      → Law (Operand.minus_operand z a) at (Left at w clean size_o 1 0 0 i d i) i l d r
  unfolding All Operand.minus_operand
  minus_cost z a x i l d r lim h q near = record {
    all = (
      (λ b y h₂ q₂. (
        (λ t v h₃ q₃. (predecrement_cost at w clean z a b t x y v i l d (max (max r (i + 1)) (i + 2)) h h₂ h₃ (omega arith)).all),
        λ n. (signed_operand_cost at w clean h q z l d (max (max r (i + 1)) (i + 2)) lim (omega arith)).all,
      )),
      λ n. (signed_operand_cost at w clean h q z l d (max r (i + 1)) lim (omega arith)).all,
    );
  }

  name_cost : (z : Setting) (i l d r : ℕ) → Law (Operand.name_or_expression z) at (Left at w clean size_o 1 0 0 i d r) i l d r
  unfolding All Operand.name_or_expression size_o
  name_cost z i l d r = record {
    all = (
      (λ t x h p. call (register_operand_cost at w clean z _ _ _ _ _) λ j e s. elim [ Some x ↦ omega arith | None ↦ omega arith ]),
      λ p. ((λ t x h p₂. omega arith), λ p₂. (expression_operand_cost at w clean z _ _ _ _).all),
    );
  }

  pub operand_from_cost : (z : Setting) (i l d r : ℕ) → 1 ≤ z.limit → r ≤ i → Law (Operand.operand_from z) at (Left at w clean size_o 1 0 0 i d i) i l d r
  unfolding All Operand.operand_from
  operand_from_cost z i l d r lim near =
      let g = sm at w clean in
      record {
        all = (
          (λ k x h p. omega arith),
          λ p. (
            (λ k x h p₂. call (immediate_cost at w clean z k _ _ _ _) λ j e s. elim [ Some x ↦ omega arith | None ↦ omega arith ]),
            λ p₂. (
              (λ k x h p₃. call (parenthesised_operand_cost at w clean z k _ _ _ _) λ j e s. elim [ Some x ↦ omega arith | None ↦ omega arith ]),
              λ p₃. (
                (λ k x h p₄. (minus_cost z k x i l d (max (max r (i + 0)) (i + 0)) lim (let e : i + 0 ≡ i = omega arith in rw e at h) p₄ (omega arith)).all),
                λ p₄. call (name_cost z _ _ _ _) λ j e s. elim [ Some x ↦ omega arith | None ↦ omega arith ],
              ),
            ),
          ),
        );
      }
