-- An operand behind a parenthesis that is read in silence is spelled so.
-- Assumes nothing.
use Rattle.std.specs.Prelude.{◌≡◌, Bool, true, false, List, ℕ, ◌+◌, ◌≤◌, ◌<◌, Option, Some, None}
use Rattle.std.proofs.Math.Path.{refl}
use Rattle.std.proofs.Common.{sym, ◌∙◌, ap, add-zero}
use native.Mathlib.Omega.{arith}
use Rattle.std.proofs.Math.Dec.{eqb}
use Rattle.names.specs.Choice.{pick}
use Rattle.names.specs.Kinds
use Rattle.names.specs.Places.{Place, stands}
use Rattle.names.specs.declared.tokens.Token.{Token}
use Rattle.records.specs.Shapes
use Rattle.records.specs.Spans.{span}
use Rattle.expressions.specs.Trees.{Expr}
use Rattle.expressions.specs.declared.reading.Setting.{Setting}
use Rattle.expressions.specs.Reader.{is, any}
use Rattle.expressions.specs.Expressions.{read, reported, absent, Suffix, fuel}
use Rattle.expressions.specs.Laws.{holds}
use Rattle.expressions.proofs.Costs.{true_false}
use Rattle.operand.specs.Operands.{Displacement, displaced, undisplaced, Operand}
use Rattle.operand.specs.Operands as O
use Rattle.operand.specs.Operand
use Rattle.operand.specs.Operand.{starts_a_base}
use Rattle.operand.specs.declared.forms.Register.{Register}
use Rattle.operand.specs.declared.forms.IndexRegister.{IndexRegister}
use Rattle.operand.specs.declared.forms.BaseRegister.{BaseRegister}
use Rattle.operand.specs.declared.forms.Registers.{Registers}
use Rattle.spelling.specs.Signs.{Sign, CounterAt, unreserved}
use Rattle.spelling.specs.Expressions.{own_group}
use Rattle.spelling.specs.Spelling
use Rattle.spelling.specs.Spelling.{no_size, a_size, AddressAt, Indexes, BaseAndIndex, Expression, Opening, Spelling}
use Rattle.spelling.specs.Silence.{Silent, Quiet}
use Rattle.spelling.proofs.Silence.{call}
use Rattle.spelling.proofs.Sound.{signed, expression_spelled, from_spelled}
use Rattle.spelling.proofs.Found.{found_address, found_counter, SuffixAt, a_suffix, no_suffix, suffix_sound, index_sound, bases_sound}
use Rattle.spelling.proofs.Enclosed.{inside_sound, behind_sound}
use Rattle.spelling.proofs.Hits.{full_found, starts_sound}

module _ (s : Setting) (at : ℕ → Place) (count : ℕ) (ends : (j : ℕ) (k : Token) (x : List ℕ) → at j ≡ stands k x → j < count) (few : count ≤ fuel) (own : ℕ) where
  abbrev pub Plain : ℕ → ℕ → Expr → Type 0
  Plain i j e = Expression s at unreserved own i j e

  abbrev pub Found : ℕ → ℕ → Option Operand → Type 0
  Found j m (Some y) = Spelling s at unreserved own j y
  Found j m None = Unit {0}

  -- the parenthesis that closes
  pub data CloseAt (i : ℕ) : ℕ → ℕ → Type 0 where
    close_at : (c : Sign at Kinds.right_paren i) → CloseAt i (i + 1) c.token.end

  abbrev pub CloseFound : ℕ → ℕ → Option ℕ → Type 0
  CloseFound i j (Some e) = CloseAt i j e
  CloseFound i j None = Unit {0}

  pub close_sound : (k : Token) (shape i l : ℕ) → Quiet (Operand.expect_close s k shape) at (λ j m v. CloseFound i j v) i l
  unfolding Silent Operand.expect_close Operand.unclosed
  close_sound k shape i l = record { all = ((λ c x e q w. close_at (signed Kinds.right_paren e q)), λ q. tt) }

  -- ---- behind a base: 5, 6, 8 to 11, and an index that is suppressed

  address_closed : {i n z : ℕ} {r : Register} {d : Displacement} {x : IndexRegister} → Opening s at unreserved own i d → AddressAt at i r → Sign at Kinds.comma (i + 1)
      → Indexes s at (i + 1 + 1) n x → {m : ℕ} → CloseAt n m z → (b : Bool) → x.suppressed ≡ b
      → Spelling s at unreserved own m (pick b (O.full_index d (BaseRegister.Address r) (Some x) 0 undisplaced (span s.start z)) (O.index d r x (span s.start z)))
  address_closed h p k x (close_at c) true e = Spelling.suppressed_index h p k x e c
  address_closed h p k x (close_at c) false e = Spelling.index h p k x e c

  counter_closed : {i n z : ℕ} {d : Displacement} {x : IndexRegister} → Opening s at unreserved own i d → CounterAt at i → Sign at Kinds.comma (i + 1)
      → Indexes s at (i + 1 + 1) n x → {m : ℕ} → CloseAt n m z → (b : Bool) → x.suppressed ≡ b
      → Spelling s at unreserved own m (pick b (O.full_index d BaseRegister.ProgramCounter (Some x) 0 undisplaced (span s.start z)) (O.pc_index d x (span s.start z)))
  counter_closed h p k x (close_at c) true e = Spelling.counter_suppressed_index h p k x e c
  counter_closed h p k x (close_at c) false e = Spelling.counter_index h p k x e c

  address_indexed : {i : ℕ} {r : Register} {d : Displacement} (k : Token) (l : ℕ) → Opening s at unreserved own i d → AddressAt at i r → Sign at Kinds.comma (i + 1)
      → Quiet (Operand.base_and_index s k Shapes.index (BaseRegister.Address r) d (λ x. O.index d r x)) at Found (i + 1 + 1) l
  unfolding Silent Operand.or_none Operand.indexed_operand
  address_indexed k l h p c = record {
    all = call (index_sound s at Shapes.index _ l) λ n m. elim [
      | Some x ↦ λ a g. call (close_sound k Shapes.index n m) λ n₂ m₂. elim [ Some z ↦ λ b f. address_closed h p c g.0 f x.suppressed refl | None ↦ λ b f. tt ]
      | None ↦ λ a g. tt
    ];
  }

  counter_indexed : {i : ℕ} {d : Displacement} (k : Token) (l : ℕ) → Opening s at unreserved own i d → CounterAt at i → Sign at Kinds.comma (i + 1)
      → Quiet (Operand.base_and_index s k Shapes.pc_index BaseRegister.ProgramCounter d (λ x. O.pc_index d x)) at Found (i + 1 + 1) l
  unfolding Silent Operand.or_none Operand.indexed_operand
  counter_indexed k l h p c = record {
    all = call (index_sound s at Shapes.pc_index _ l) λ n m. elim [
      | Some x ↦ λ a g. call (close_sound k Shapes.pc_index n m) λ n₂ m₂. elim [ Some z ↦ λ b f. counter_closed h p c g.0 f x.suppressed refl | None ↦ λ b f. tt ]
      | None ↦ λ a g. tt
    ];
  }

  -- `)` behind the base
  base_closed : {i : ℕ} {r : Register} {d : Displacement} (l : ℕ) → Opening s at unreserved own i d → AddressAt at i r → (c : Sign at Kinds.right_paren (i + 1))
      → Quiet (Operand.closed_base s r d c.token) at Found (i + 1 + 1) l
  unfolding Silent Operand.closed_base
  base_closed l (Spelling.alone t) p c = record { all = ((λ k x e q w. Spelling.postincrement t p c (signed Kinds.plus e q)), λ q. Spelling.indirect t p c) }
  base_closed l (Spelling.displacing h) p c = record { all = Spelling.displacement h p c }

  counter_shut : {i : ℕ} {d : Displacement} (l : ℕ) → Opening s at unreserved own i d → CounterAt at i → (c : Sign at Kinds.right_paren (i + 1))
      → Quiet (Operand.closed_counter s d c.token) at Found (i + 1 + 1) l
  unfolding Silent Operand.closed_counter Operand.malformed
  counter_shut l (Spelling.alone t) p c = record { all = tt }
  counter_shut l (Spelling.displacing h) p c = record { all = Spelling.counter_displacement h p c }

  pub base_sound : {i : ℕ} {d : Displacement} (k : Token) (l : ℕ) → Opening s at unreserved own i d → Quiet (Operand.parse_base_and_index s k d) at Found i l
  unfolding Silent Operand.parse_base_and_index Operand.after_base Operand.after_counter Operand.unclosed Operand.not_an_address_register
  base_sound k l h = record {
    all = (
      (λ t x e q w. let p = found_address e q in (
        (λ c y e₂ q₂ w₂. (base_closed c.end h p (signed Kinds.right_paren e₂ q₂)).all),
        λ _. ((λ c y e₂ q₂ w₂. (address_indexed k c.end h p (signed Kinds.comma e₂ q₂)).all), λ _. tt),
      )),
      λ _. (
        (λ t x e q w. let p = found_counter e q in (
          (λ c y e₂ q₂ w₂. (counter_shut c.end h p (signed Kinds.right_paren e₂ q₂)).all),
          λ _. ((λ c y e₂ q₂ w₂. (counter_indexed k c.end h p (signed Kinds.comma e₂ q₂)).all), λ _. tt),
        )),
        λ _. ((λ t x e q w. tt), λ _. tt),
      ),
    );
  }

  -- ---- 12: full

  full_closed : {n m z : ℕ} {d : Displacement} {r : Registers} → CloseAt n m z
      → ((c : Sign at Kinds.right_paren n) → Spelling s at unreserved own (n + 1) (O.full_index d r.base r.index 0 undisplaced (span s.start c.token.end)))
      → Spelling s at unreserved own m (O.full_index d r.base r.index 0 undisplaced (span s.start z))
  full_closed (close_at c) f = f c

  full_sound : (i : ℕ) (d : Displacement) (k : Token) (l : ℕ)
      → ((n : ℕ) (r : Registers) → BaseAndIndex s at i n r → (c : Sign at Kinds.right_paren n)
      → Spelling s at unreserved own (n + 1) (O.full_index d r.base r.index 0 undisplaced (span s.start c.token.end)))
      → Quiet (Operand.parse_full_index s k d) at Found i l
  unfolding Silent Operand.parse_full_index Operand.or_none
  full_sound i d k l f = record {
    all = call (bases_sound s at Shapes.index i l) λ n m. elim [
      | Some r ↦ λ a g. call (close_sound k Shapes.index n m) λ n₂ m₂. elim [ Some z ↦ λ b h. full_closed {r = r} h (f n r g) | None ↦ λ b h. tt ]
      | None ↦ λ a g. tt
    ];
  }

  memory_closed : {j n m z indirection : ℕ} {d u : Displacement} {r : Registers} {x : Option IndexRegister} → Sign at Kinds.left_paren own → Sign at Kinds.left_bracket (own + 1)
      → Spelling.Inside s at unreserved own (own + 1 + 1) j d r → Sign at Kinds.right_bracket j → Spelling.Behind s at unreserved own r.index (j + 1) n x indirection u → CloseAt n m z
      → Spelling s at unreserved own m (O.full_index d r.base x indirection u (span s.start z))
  memory_closed t b h k g (close_at c) = Spelling.memory_indirect t b h k g c

  memory_sound : (k : Token) (l : ℕ) → Sign at Kinds.left_paren own → Sign at Kinds.left_bracket (own + 1) → Quiet (Operand.parse_memory_indirect s k) at Found (own + 1 + 1) l
  unfolding Silent Operand.parse_memory_indirect Operand.or_none Operand.unclosed
  memory_sound k l t b = record {
    all = call (inside_sound s at count ends few own (own + 1 + 1) l (omega arith)) λ n m. elim [
      | Some v ↦ λ a g. (
        (λ c x e q w. call (behind_sound s at count ends few own (n + 1) c.end v.registers.index (omega arith)) λ n₂ m₂. elim [
          | Some u ↦ λ a₂ h. call (close_sound k Shapes.memory_indirect n₂ m₂) λ n₃ m₃. elim [ Some z ↦ λ a₃ f. memory_closed t b g (signed Kinds.right_bracket e q) h f | None ↦ λ a₃ f. tt ]
          | None ↦ λ a₂ h. tt
        ]),
        λ q. tt,
      )
      | None ↦ λ a g. tt
    ];
  }

  -- ---- 13: absolute

  absolute_sized : {j n : ℕ} (m : ℕ) {e : Expr} {z : Suffix} → Plain own j e → SuffixAt at j n z → Quiet (Operand.absolute_size s e z) at Found n m
  unfolding Silent Operand.absolute_size
  absolute_sized m h (a_suffix t) = record { all = Spelling.absolute h (a_size t) }
  absolute_sized m h (no_suffix q) = record { all = Spelling.absolute h no_size }

  pub finish_sound : {j : ℕ} (e : Expr) (l : ℕ) → Plain own j e → Quiet (Operand.finish_expression_operand s e) at Found j l
  unfolding Silent Operand.finish_expression_operand
  finish_sound e l h = record { all = call (suffix_sound at _ _ l) λ n m z a g. (absolute_sized m h g).all }

  -- ---- behind a parenthesis and an expression

  pub stood : {i : ℕ} {k : Token} {x : List ℕ} → at i ≡ stands k x → holds any (at i) ≡ false → ⊥
  unfolding holds
  stood e q = true_false (rw e at q)

  not_suffix : {i : ℕ} {k : Token} {x : List ℕ} → at i ≡ stands k x → eqb k.kind Kinds.size_suffix ≡ true → holds (is Kinds.size_suffix) (at i) ≡ false → ⊥
  unfolding holds
  not_suffix e q n = true_false (sym q ∙ rw e at n)

  sized_sound : {j n : ℕ} {e : Expr} {z : Suffix} (k : Token) (m : ℕ) → Sign at Kinds.left_paren own → Plain (own + 1) j e → Sign at Kinds.size_suffix j → Sign at Kinds.comma (j + 1)
      → SuffixAt at j n z → Quiet (Operand.sized_base s k e z) at Found n m
  unfolding Silent Operand.sized_base Operand.over
  sized_sound {j} {e = e} k m t h f c (a_suffix {n = size} z) = record {
    all = ((λ k₂ x e₂ q w. (full_sound (j + 1 + 1) (displaced e size) k k₂.end (λ n r b d. Spelling.sized_full t h z c b d)).all), λ q. absurd (stood c.there q));
  }
  sized_sound k m t h f c (no_suffix q) = absurd (not_suffix f.there (ap (λ k. eqb k Kinds.size_suffix) f.of) q)

  after_sound : {j : ℕ} (e : Expr) (t : Sign at Kinds.left_paren own) (l : ℕ) → own < j → Plain (own + 1) j e → Quiet (Operand.after_expression s t.token e) at Found j l
  unfolding Silent Operand.after_expression Operand.displacement_tail Operand.unexpected
  after_sound {j} e t l low h = record {
    all = (
      (λ c x e₂ q w. starts_sound s at _ _ Found (j + 1) c.end
          (λ f. (full_sound (j + 1) (displaced e 0) t.token c.end (λ n r b d. Spelling.displaced_full t h (signed Kinds.comma e₂ q) (full_found s at f b d) d)).all)
          (base_sound t.token c.end (Spelling.displacing (Spelling.inside t h (signed Kinds.comma e₂ q)))).all),
      λ _. (
        (λ c x e₂ q w. (
          (λ p y e₃ q₂ w₂. (base_sound p p.end (Spelling.displacing (Spelling.before (Spelling.group t h (signed Kinds.right_paren e₂ q)) (signed Kinds.left_paren e₃ q₂)))).all),
          λ _. call (from_spelled at count ends own few s.limit _ (j + 1) c.end (omega arith) (own_group t h (signed Kinds.right_paren e₂ q))) λ n m y a g. (finish_sound y m g).all,
        )),
        λ _. (
          (λ c x e₂ q. (
            (λ p y e₃ q₂. call (suffix_sound at _ j l) λ n m z a g. (sized_sound t.token m t h (signed Kinds.size_suffix (rw (add-zero j) at e₂) q) (signed Kinds.comma e₃ q₂) g).all),
            λ _. ((λ p y e₃ q₂. tt), λ _. ((λ p y e₃ q₂. tt), λ _. tt)),
          )),
          λ _. ((λ p y e₃ q₂. tt), λ _. ((λ p y e₃ q₂. tt), λ _. tt)),
        ),
      ),
    );
  }

  pub grouped_sound : (t : Sign at Kinds.left_paren own) (l : ℕ) → Quiet (Operand.parse_parenthesised_operand s t.token) at Found (own + 1) l
  unfolding Silent Operand.parse_parenthesised_operand starts_a_base Operand.parenthesised Operand.or_absent
  grouped_sound t l =
      let based = (base_sound t.token l (Spelling.alone t)).all in
      let expressed : Silent (Operand.parenthesised s t.token) at Found (own + 1) l
      = call (expression_spelled at count ends own few s.limit (own + 1) l (omega arith, λ z. absurd (omega arith))) λ j m. elim [
        | read e ↦ λ a h. (after_sound e t m (omega arith) h.1).all
        | reported ↦ λ a h. absurd h
        | absent ↦ λ a h. tt
      ] in
      record {
        all = (
          (λ b x e q w. (memory_sound t.token b.end t (signed Kinds.left_bracket e q)).all),
          λ _. starts_sound s at _ _ Found (own + 1) l
              (λ f. (full_sound (own + 1) undisplaced t.token l (λ n r b d. Spelling.full t (full_found s at f b d) d)).all)
              ((λ k x e q. ((λ k₂ x₂ e₂ q₂. ((λ k₃ x₃ e₃ q₃. based), λ _. expressed)), λ _. based)), λ _. expressed),
        );
      }
