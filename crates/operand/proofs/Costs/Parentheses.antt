-- Behind a parenthesis.
-- Assumes nothing.
use Rattle.std.specs.Prelude.{ℕ, ◌+◌, ◌≤◌, max, Option, Some, None}
use native.Mathlib.Omega.{arith}
use Rattle.names.specs.Places.{Place}
use Rattle.names.specs.declared.tokens.Token.{Token}
use Rattle.records.specs.Spans.{span}
use Rattle.expressions.specs.Trees.{Expr, size}
use Rattle.expressions.specs.Reader.{Reader}
use Rattle.expressions.specs.Expressions.{read, reported, absent, Suffix, suffixed, bare}
use Rattle.expressions.specs.Laws.{All, Law, call}
use Rattle.expressions.proofs.Costs.{Clean, size_with_span, suffix_cost, expression_cost, from_cost}
use Rattle.operand.specs.Operands.{displaced, undisplaced, Operand}
use Rattle.operand.specs.Operand
use Rattle.expressions.specs.declared.reading.Setting.{Setting}
use Rattle.operand.specs.Records.{size_d, size_o}
use Rattle.operand.proofs.Costs.Malformed.{Left, sm}
use Rattle.operand.proofs.Costs.Bases.{base_cost}
use Rattle.operand.proofs.Costs.Full.{full_index_cost}
use Rattle.operand.proofs.Costs.Memory.{memory_cost}
use Rattle.operand.proofs.Costs.Absolutes.{finish_cost}

module _ (at : ℕ → Place) (w : ℕ) (clean : Clean at w) where
  -- a reader that may start a full index has looked at the place behind the cursor
  near : {v : Reader (Option Operand)} (m i l d s : ℕ) (r : ℕ) → s ≤ max r (i + 1) → Law v at (Left at w clean size_o 1 m 0 i d s) i l d s → All v at (Left at w clean size_o 1 m 0 i d r) i l d s
  near m i l d s r b h = call h λ j e s. elim [ Some x ↦ omega arith | None ↦ omega arith ]

  starts_cost : (z : Setting) (p q : Unit {0} → Reader (Option Operand)) (m i l d r : ℕ)
      → ((s : ℕ) → Law (p tt) at (Left at w clean size_o 1 m 0 i d s) i l d s) → ((s : ℕ) → Law (q tt) at (Left at w clean size_o 1 m 0 i d s) i l d s)
      → Law (Operand.starts_a_full_index z p q) at (Left at w clean size_o 1 m 0 i d r) i l d r
  unfolding All Operand.starts_a_full_index
  starts_cost z p q m i l d r f g = record {
    all = (
      (λ t x h k. ((λ u y h₂ k₂. near m i l d _ r (omega arith) (f _)), λ n. near m i l d _ r (omega arith) (g _))),
      λ n. (
        (λ t x h k. ((λ u y h₂ k₂. near m i l d _ r (omega arith) (f _)), λ n₂. near m i l d _ r (omega arith) (g _))),
        λ n₂. ((λ t x h k. ((λ u y h₂ k₂. near m i l d _ r (omega arith) (f _)), λ n₃. near m i l d _ r (omega arith) (g _))), λ n₃. near m i l d _ r (omega arith) (g _)),
      ),
    );
  }

  starts_base_cost : (p q : Unit {0} → Reader (Option Operand)) (m i l d r : ℕ)
      → ((s : ℕ) → Law (p tt) at (Left at w clean size_o 1 m 0 i d s) i l d s) → ((s : ℕ) → Law (q tt) at (Left at w clean size_o 1 m 0 i d s) i l d s)
      → Law (Operand.starts_a_base p q) at (Left at w clean size_o 1 m 0 i d r) i l d r
  unfolding All Operand.starts_a_base
  starts_base_cost p q m i l d r f g = record {
    all = (
      (λ t x h k. (
        (λ u y h₂ k₂. ((λ v b h₃ k₃. near m i l d _ r (omega arith) (f _)), λ n. near m i l d _ r (omega arith) (g _))),
        λ n. near m i l d _ r (omega arith) (f _),
      )),
      λ n. near m i l d _ r (omega arith) (g _),
    );
  }

  unexpected_cost : (k : Token) (c m g i l d r : ℕ) → Law (Operand.unexpected k) at (Left at w clean size_o c m g i d r) i l d r
  unfolding All Operand.unexpected
  unexpected_cost k c m g i l d r =
      let h = sm at w clean in
      record {
        all = (
          (λ t x h q. omega (arith, clean.none (i + 0) t x h q)),
          λ n. ((λ t x h q. omega arith), λ n₂. omega arith),
        );
      }

  grouped_cost : (z : Setting) (k : Token) (n : ℕ) (x : Expr) (i l d r : ℕ) → Law (Operand.grouped_operand z k n x) at (Left at w clean size_o 0 (size x) 0 i d r) i l d r
  unfolding All Operand.displacement_tail size_d
  grouped_cost z k n x i l d r = record {
    all = (
      (λ t y h p. call (base_cost at w clean z t (displaced x 0) _ _ _ _) λ j e s. elim [ Some x ↦ omega arith | None ↦ omega arith ]),
      λ p. call (from_cost at w clean _ _ _ _ _ _) λ j e s y a b c g m. call (finish_cost at w clean z y _ _ _ _) λ j₂ e₂ s₂. elim [ Some v ↦ omega (arith, size_with_span x (span k.start n)) | None ↦ omega arith ],
    );
  }

  -- the comma behind the size has been seen
  sized_base_cost : (z : Setting) (k : Token) (x : Expr) (v : Suffix) (i l d r : ℕ) → Law (Operand.sized_base z k x v) at (Left at w clean size_o 1 (size x) 0 i d r) i l d r
  unfolding All Operand.sized_base Operand.over size_d
  sized_base_cost z k x (suffixed n t) i l d r = record {
    all = (
      (λ t y h p. call (full_index_cost at w clean z k (displaced x n) _ _ _ _) λ j e s. elim [ Some x ↦ omega arith | None ↦ omega arith ]),
      λ p. (full_index_cost at w clean z k (displaced x n) _ _ _ _).all,
    );
  }
  sized_base_cost z k x bare i l d r = record {
    all = (
      (λ t y h p. call (full_index_cost at w clean z k (displaced x 0) _ _ _ _) λ j e s. elim [ Some x ↦ omega arith | None ↦ omega arith ]),
      λ p. (full_index_cost at w clean z k (displaced x 0) _ _ _ _).all,
    );
  }

  after_expression_cost : (z : Setting) (k : Token) (x : Expr) (i l d r : ℕ) → Law (Operand.after_expression z k x) at (Left at w clean size_o 1 (size x) 0 i d r) i l d r
  unfolding All Operand.after_expression size_d
  after_expression_cost z k x i l d r = record {
    all = (
      (λ t y h p. call
          (starts_cost z _ _ (size x) _ _ _ _ (λ s. full_index_cost at w clean z k (displaced x 0) _ _ _ s) (λ s. base_cost at w clean z k (displaced x 0) _ _ _ s))
          λ j e s. elim [ Some x ↦ omega arith | None ↦ omega arith ]),
      λ p. (
        (λ t y h p₂. call (grouped_cost z k _ x _ _ _ _) λ j e s. elim [ Some x ↦ omega arith | None ↦ omega arith ]),
        λ p₂. (
          (λ t y h p₃. (
            (λ u v h₂ p₄. call (suffix_cost at w clean _ _ _ _ _) λ j e s b a c g f m. call (sized_base_cost z k x b _ _ _ _) λ j₂ e₂ s₂. elim [ Some x ↦ omega arith | None ↦ omega arith ]),
            λ p₄. call (unexpected_cost k 1 (size x) 0 _ _ _ _) λ j e s. elim [ Some x ↦ omega arith | None ↦ omega arith ],
          )),
          λ p₃. call (unexpected_cost k 1 (size x) 0 _ _ _ _) λ j e s. elim [ Some x ↦ omega arith | None ↦ omega arith ],
        ),
      ),
    );
  }

  parenthesised_cost : (z : Setting) (k : Token) (i l d r : ℕ) → Law (Operand.parenthesised z k) at (Left at w clean size_o 1 0 0 i d r) i l d r
  unfolding All Operand.parenthesised Operand.or_absent
  parenthesised_cost z k i l d r =
      let h = sm at w clean in
      record {
        all = call (expression_cost at w clean _ _ _ _ _) λ j e s. elim [
          | read x ↦ λ a b c g m. call (after_expression_cost z k x _ _ _ _) λ j₂ e₂ s₂. elim [ Some x ↦ omega arith | None ↦ omega arith ]
          | reported ↦ omega arith
          | absent ↦ omega arith
        ];
      }

  pub parenthesised_operand_cost : (z : Setting) (k : Token) (i l d r : ℕ) → Law (Operand.parse_parenthesised_operand z k) at (Left at w clean size_o 1 0 0 i d r) i l d r
  unfolding All Operand.parse_parenthesised_operand size_d
  parenthesised_operand_cost z k i l d r = record {
    all = (
      (λ t x h p. call (memory_cost at w clean z k _ _ _ _) λ j e s. elim [ Some x ↦ omega arith | None ↦ omega arith ]),
      λ p. (starts_cost z _ _ 0 _ _ _ _ (λ s. full_index_cost at w clean z k undisplaced _ _ _ s)
          (λ s. starts_base_cost _ _ 0 _ _ _ s (λ s₂. base_cost at w clean z k undisplaced _ _ _ s₂) (λ s₂. parenthesised_cost z k _ _ _ s₂))).all,
    );
  }
