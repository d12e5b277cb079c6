-- An address register or the program counter in parentheses.
-- Assumes nothing.
use Rattle.std.specs.Prelude.{◌≡◌, refl, Bool, true, false, List, ℕ, ◌+◌, ◌≤◌, leb, Some, None}
use native.Mathlib.Omega.{arith}
use Rattle.names.specs.Places.{Place, stands}
use Rattle.names.specs.declared.tokens.Token.{Token}
use Rattle.names.specs.Choice.{pick}
use Rattle.records.specs.Problems
use Rattle.records.specs.Shapes
use Rattle.records.specs.Spans.{span}
use Rattle.records.specs.declared.spans.Span.{Span}
use Rattle.expressions.specs.Reader.{Reader}
use Rattle.expressions.specs.Laws.{holds, All, all_choose, Law, call}
use Rattle.expressions.proofs.Costs.{Clean, true_false}
use Rattle.operand.specs.Operands.{Displacement, displaced, undisplaced, Operand}
use Rattle.operand.specs.declared.forms.Register.{Register}
use Rattle.operand.specs.declared.forms.IndexRegister.{IndexRegister}
use Rattle.operand.specs.declared.forms.BaseRegister.{BaseRegister}
use Rattle.operand.specs.Operands as O
use Rattle.operand.specs.Operand
use Rattle.expressions.specs.declared.reading.Setting.{Setting}
use Rattle.operand.specs.Records.{size_d, size_o}
use Rattle.operand.proofs.Costs.Malformed.{Left, malformed_cost, unclosed_cost, not_address_cost, close_cost}
use Rattle.operand.proofs.Costs.Indexes.{index_cost}

indexed_size : (y : Displacement) (b : BaseRegister) (f : IndexRegister → Span → Operand) → ((x : IndexRegister) (z : Span) → size_o (f x z) ≡ size_d y)
    → (x : IndexRegister) (z : Span) (c : Bool) → size_o (pick c (O.full_index y b (Some x) 0 undisplaced z) (f x z)) ≡ size_d y
unfolding size_o size_d
indexed_size y b f e x z true = omega arith
indexed_size y b f e x z false = e x z

module _ (at : ℕ → Place) (w : ℕ) (clean : Clean at w) where
  -- ---- predecrement, whose three tokens have been seen

  over_cost : {A : Type 0} (p : Reader A) (Q : ℕ → ℕ → ℕ → A → Type 0) (i l d r : ℕ) (k : Token) (x : List ℕ) → at i ≡ stands k x
      → ((m : ℕ) → All p at Q (i + 1) m d r) → All (Operand.over p) at Q i l d r
  unfolding All Operand.over holds
  over_cost p Q i l d r k x h f = ((λ t y g q. f t.end), λ n. absurd (true_false (rw h at n)))

  predecrement_close_cost : (z : Setting) (a b t : Token) (q : Register) (i l d r : ℕ) → r ≤ i + 2
      → All (Operand.predecrement_close z a b t q) at (Left at w clean size_o 1 0 0 i d i) (i + 1 + 1 + 1) l d r
  unfolding All Operand.predecrement_close Operand.or_none size_o
  predecrement_close_cost z a b t q i l d r near =
      all_choose (leb 8 q.index) _ _ _ _ _ _ _ _
      (call (close_cost at w clean z b Shapes.predecrement _ _ _ _) λ j e s. elim [ Some x ↦ omega arith | None ↦ omega arith ])
      (call (not_address_cost at w clean size_o z Shapes.predecrement t 0 0 0 _ _ _ _) λ j e s. elim [ Some x ↦ omega arith | None ↦ omega arith ])

  pub predecrement_cost : (z : Setting) (a b t : Token) (x y v : List ℕ) (i l d r : ℕ) → at i ≡ stands a x → at (i + 1) ≡ stands b y → at (i + 2) ≡ stands t v → r ≤ i + 2
      → Law (Operand.parse_predecrement z a b t v) at (Left at w clean size_o 1 0 0 i d i) i l d r
  unfolding Operand.parse_predecrement
  predecrement_cost z a b t x y v i l d r f g h near = record {
    all =
        over_cost _ _ i l d r a x f λ m.
        over_cost _ _ (i + 1) m d r b y g λ m₂.
        over_cost _ _ (i + 1 + 1) m₂ d r t v (let e : i + 1 + 1 ≡ i + 2 = omega arith in rw e h) λ m₃.
        predecrement_close_cost z a b t _ i m₃ d r near;
  }

  -- ---- base and index

  -- the index x, and then the parenthesis
  indexed_cost : (z : Setting) (k : Token) (shape : ℕ) (y : Displacement) (b : BaseRegister) (f : IndexRegister → Span → Operand)
      → ((x : IndexRegister) (z : Span) → size_o (f x z) ≡ size_d y) → (x : IndexRegister) (i l d r : ℕ)
      → Law (Operand.close_index z k shape b x y f) at (Left at w clean size_o 1 (size_d y) 0 i d r) i l d r
  unfolding All Operand.or_none Operand.indexed_operand
  indexed_cost z k shape y b f e x i l d r = record {
    all = call (close_cost at w clean z k shape _ _ _ _) λ j e₂ s. elim [
      | Some n ↦ λ a c g h m. let z = indexed_size y b f e x (span z.start n) x.suppressed in omega arith
      | None ↦ omega arith
    ];
  }

  closed_base_cost : (z : Setting) (q : Register) (y : Displacement) (close : Token) (i l d r : ℕ) → Law (Operand.closed_base z q y close) at (Left at w clean size_o 0 (size_d y) 0 i d r) i l d r
  unfolding All Operand.closed_base size_o size_d
  closed_base_cost z q (displaced e n) close i l d r = record { all = omega arith }
  closed_base_cost z q undisplaced close i l d r = record { all = ((λ k x h p. omega arith), λ p. omega arith) }

  closed_counter_cost : (z : Setting) (y : Displacement) (close : Token) (i l d r : ℕ) → Law (Operand.closed_counter z y close) at (Left at w clean size_o 0 (size_d y) 0 i d r) i l d r
  unfolding All Operand.closed_counter size_o size_d
  closed_counter_cost z (displaced e n) close i l d r = record { all = omega arith }
  closed_counter_cost z undisplaced close i l d r = malformed_cost at w clean size_o z Shapes.pc_displacement Problems.the_displacement_missing 0 0 0 i l d r

  after_base_cost : (z : Setting) (k : Token) (y : Displacement) (q : Register) (i l d r : ℕ) → Law (Operand.after_base z k y q) at (Left at w clean size_o 0 (size_d y) 0 i d r) i l d r
  unfolding All Operand.after_base size_o Operand.or_none
  after_base_cost z k y q i l d r = record {
    all = (
      (λ t x h p. call (closed_base_cost z q y t _ _ _ _) λ j e s. elim [ Some x ↦ omega arith | None ↦ omega arith ]),
      λ p. (
        (λ t x h p₂. call (index_cost at w clean z Shapes.index _ _ _ _) λ j e s. elim [
          | Some v ↦ λ a b c g m. call (indexed_cost z k Shapes.index y (BaseRegister.Address q) (λ x. O.index y q x) (λ x z. refl) v _ _ _ _) λ j₂ e₂ s₂. elim [ Some x ↦ omega arith | None ↦ omega arith ]
          | None ↦ omega arith
        ]),
        λ p₂. (unclosed_cost at w clean size_o z k _ Problems.paren_missing 0 _ 0 _ _ _ _).all,
      ),
    );
  }

  after_counter_cost : (z : Setting) (k : Token) (y : Displacement) (i l d r : ℕ) → Law (Operand.after_counter z k y) at (Left at w clean size_o 0 (size_d y) 0 i d r) i l d r
  unfolding All Operand.after_counter size_o Operand.or_none
  after_counter_cost z k y i l d r = record {
    all = (
      (λ t x h p. call (closed_counter_cost z y t _ _ _ _) λ j e s. elim [ Some x ↦ omega arith | None ↦ omega arith ]),
      λ p. (
        (λ t x h p₂. call (index_cost at w clean z Shapes.pc_index _ _ _ _) λ j e s. elim [
          | Some v ↦ λ a b c g m. call (indexed_cost z k Shapes.pc_index y BaseRegister.ProgramCounter (λ x. O.pc_index y x) (λ x z. refl) v _ _ _ _) λ j₂ e₂ s₂. elim [ Some x ↦ omega arith | None ↦ omega arith ]
          | None ↦ omega arith
        ]),
        λ p₂. (unclosed_cost at w clean size_o z k Shapes.pc_displacement Problems.paren_missing 0 _ 0 _ _ _ _).all,
      ),
    );
  }

  pub base_cost : (z : Setting) (k : Token) (y : Displacement) (i l d r : ℕ) → Law (Operand.parse_base_and_index z k y) at (Left at w clean size_o 1 (size_d y) 0 i d r) i l d r
  unfolding All Operand.parse_base_and_index
  base_cost z k y i l d r = record {
    all = (
      (λ t x h p. call (after_base_cost z k y _ _ _ _ _) λ j e s. elim [ Some x ↦ omega arith | None ↦ omega arith ]),
      λ p. (
        (λ t x h p₂. call (after_counter_cost z k y _ _ _ _) λ j e s. elim [ Some x ↦ omega arith | None ↦ omega arith ]),
        λ p₂. (
          (λ t x h p₃. call (not_address_cost at w clean size_o z _ t 0 0 0 _ _ _ _) λ j e s. elim [ Some x ↦ omega arith | None ↦ omega arith ]),
          λ p₃. (unclosed_cost at w clean size_o z k _ Problems.base_missing 1 _ 0 _ _ _ _).all,
        ),
      ),
    );
  }
