-- What a reader leaves, and what a malformed operand does.
-- Assumes nothing.
use Rattle.std.specs.Prelude.{ℕ, ◌+◌, ◌≤◌, max, Option, Some, None}
use native.Mathlib.Omega.{arith}
use Rattle.names.specs.Places.{Place}
use Rattle.names.specs.declared.tokens.Token.{Token}
use Rattle.records.specs.Problems
use Rattle.expressions.specs.declared.reading.Setting.{Setting}
use Rattle.expressions.specs.Laws.{All, Law, call}
use Rattle.expressions.proofs.Costs.{Clean}
use Rattle.operand.specs.Operand

module _ (at : ℕ → Place) (w : ℕ) (clean : Clean at w) where
  -- what a reader that starts at i, with d diagnostics raised and r the farthest place seen, leaves.
  -- f: the nodes of an answer. c: what it consumes at least. m: the nodes that it was given. g: how far past the cursor it may have looked
  abbrev pub Left : {A : Type 0} → (A → ℕ) → ℕ → ℕ → ℕ → ℕ → ℕ → ℕ → ℕ → ℕ → ℕ → Option A → Type 0
  Left f c m g i d r j e s (Some x) = (i + c ≤ j) × (f x + i ≤ m + j) × (e + i ≤ d + j) × (s ≤ max r (j + g))
  Left f c m g i d r j e s None = (e + i ≤ d + j + 1) × (d + w ≤ e) × (s ≤ max r (j + 1))

  -- an answer without nodes
  abbrev pub nil : {A : Type 0} → A → ℕ
  nil x = 0

  abbrev pub sm : w ≤ 1
  sm = clean.small

  pub malformed_cost : {A : Type 0} (f : A → ℕ) (z : Setting) (shape problem c m g i l d r : ℕ) → Law (Operand.malformed {A = A} z shape problem) at (Left f c m g i d r) i l d r
  unfolding All Operand.malformed
  malformed_cost f z shape problem c m g i l d r = let h = sm in record { all = omega arith }

  pub unclosed_cost : {A : Type 0} (f : A → ℕ) (z : Setting) (k : Token) (shape problem c m g i l d r : ℕ) → Law (Operand.unclosed {A = A} z k shape problem) at (Left f c m g i d r) i l d r
  unfolding All Operand.unclosed
  unclosed_cost f z k shape problem c m g i l d r = let h = sm in record { all = omega arith }

  pub not_address_cost : {A : Type 0} (f : A → ℕ) (z : Setting) (shape : ℕ) (k : Token) (c m g i l d r : ℕ) → Law (Operand.not_an_address_register {A = A} z shape k) at (Left f c m g i d r) i l d r
  unfolding All Operand.not_an_address_register
  not_address_cost f z shape k c m g i l d r = let h = sm in record { all = omega arith }

  pub stepped_cost : {A : Type 0} (f : A → ℕ) (z : Setting) (shape problem c m g i l d r : ℕ) → Law (Operand.stepped_over {A = A} z shape problem) at (Left f c m g i d r) i l d r
  unfolding All Operand.stepped_over
  stepped_cost f z shape problem c m g i l d r = record {
    all = (
      (λ k x h q. call (malformed_cost f z shape problem c m g _ _ _ _) λ j e s. elim [ Some x ↦ omega arith | None ↦ omega arith ]),
      λ q. (malformed_cost f z shape problem c m g _ _ _ _).all,
    );
  }

  pub close_cost : (z : Setting) (k : Token) (shape i l d r : ℕ) → Law (Operand.expect_close z k shape) at (Left nil 1 0 0 i d r) i l d r
  unfolding All Operand.expect_close
  close_cost z k shape i l d r = record { all = ((λ k x h q. omega arith), λ q. (unclosed_cost nil z k shape Problems.paren_missing 1 0 0 _ _ _ _).all) }
