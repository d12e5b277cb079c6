-- What holds expressions and is read in silence is spelled so: displacements, what stands between brackets and behind them; and register lists.
-- Assumes nothing.
use Rattle.std.specs.Prelude.{◌≡◌, Bool, true, false, List, [], ◌∷◌, ◌++◌, eqb, ltb, Option, Some, None}
use Rattle.std.proofs.Common.{sym, append_assoc, ltb-false}
use Prim.Native.Nat.{ℕ, zero, suc, ◌+◌, ◌≤◌, ◌<◌}
use native.Mathlib.Omega.{arith}
use Rattle.names.specs.Choice.{either}
use Rattle.names.specs.Kinds
use Rattle.names.specs.Places.{Place, nothing, stands}
use Rattle.names.specs.declared.tokens.Token.{Token}
use Rattle.records.specs.Shapes
use Rattle.records.specs.Spans.{span}
use Rattle.expressions.specs.Trees.{Expr}
use Rattle.expressions.specs.declared.reading.Setting.{Setting}
use Rattle.expressions.specs.Reader.{is}
use Rattle.expressions.specs.Expressions.{read, reported, absent, Suffix, fuel}
use Rattle.expressions.specs.Laws.{holds}
use Rattle.expressions.proofs.Costs.{true_false}
use Rattle.operand.specs.Operands.{Displacement, displaced, RegisterListItem, Operand}
use Rattle.operand.specs.Operands as O
use Rattle.operand.specs.Operand
use Rattle.operand.specs.Operand.{register_from, Inner, Outer}
use Rattle.operand.specs.declared.forms.Register.{Register}
use Rattle.spelling.specs.Signs.{Sign, RegisterAt, unreserved}
use Rattle.spelling.specs.Spelling
use Rattle.spelling.specs.Spelling.{Sized, no_size, a_size, Expression, Inside, Behind, Item, a_single, a_range, Items, last, more}
use Rattle.spelling.specs.Silence.{Silent, Quiet}
use Rattle.spelling.proofs.Silence.{call, silent_choose}
use Rattle.spelling.proofs.Sound.{signed, expression_spelled}
use Rattle.spelling.proofs.Found.{found_register, SuffixAt, a_suffix, no_suffix, suffix_sound, index_sound, bases_sound}
use Rattle.operand.specs.declared.forms.IndexRegister.{IndexRegister}

module _ (s : Setting) (at : ℕ → Place) (count : ℕ) (ends : (j : ℕ) (k : Token) (x : List ℕ) → at j ≡ stands k x → j < count) (few : count ≤ fuel) (own : ℕ) where
  abbrev Plain : ℕ → ℕ → Expr → Type 0
  Plain i j e = Expression s at unreserved own i j e

  -- `E.s`
  pub data DisplacementAt : ℕ → ℕ → Displacement → Type 0 where
    displacement_at : {i j n size z : ℕ} {e : Expr} → Plain i j e → Sized at 0 j n size z → DisplacementAt i n (displaced e size)

  abbrev DisplacementFound : ℕ → ℕ → Option Displacement → Type 0
  DisplacementFound i j (Some d) = DisplacementAt i j d
  DisplacementFound i j None = Unit {0}

  displacement_sized : {i j n : ℕ} (m : ℕ) {e : Expr} {z : Suffix} → Plain i j e → SuffixAt at j n z → Quiet (Operand.sized e z) at (λ j m v. DisplacementFound i j v) n m
  unfolding Silent Operand.sized
  displacement_sized m h (a_suffix t) = record { all = displacement_at h (a_size t) }
  displacement_sized m h (no_suffix q) = record { all = displacement_at h no_size }

  displacement_sound : (i l : ℕ) → own < i → Quiet (Operand.parse_sized_displacement s) at (λ j m v. DisplacementFound i j v) i l
  unfolding Silent Operand.parse_sized_displacement Operand.or_absent Operand.stepped_over Operand.malformed
  displacement_sound i l low = record {
    all = call (expression_spelled at count ends own few s.limit i l (omega arith, λ e. absurd (omega arith))) λ j m. elim [
      | read e ↦ λ a h. call (suffix_sound at _ j m) λ n m₂ z b g. (displacement_sized m₂ h.1 g).all
      | reported ↦ λ a h. absurd h
      | absent ↦ λ a h. ((λ k x e q w. tt), λ q. tt)
    ];
  }

  -- I
  abbrev pub InsideFound : ℕ → ℕ → Option Inner → Type 0
  InsideFound i j (Some v) = Inside s at unreserved own i j v.displacement v.registers
  InsideFound i j None = Unit {0}

  inside_displaced : (i j m : ℕ) {d : Displacement} → DisplacementAt i j d → Quiet (Operand.inner_displaced s d) at (λ j m v. InsideFound i j v) j m
  unfolding Silent Operand.inner_displaced Operand.or_none
  inside_displaced i j m (displacement_at h sz) = record {
    all = (
      (λ k x e q w. call (bases_sound s at Shapes.memory_indirect (j + 1) k.end) λ n m₂. elim [ Some r ↦ λ a g. Spelling.both h sz (signed Kinds.comma e q) g | None ↦ λ a g. tt ]),
      λ q. Spelling.displacement h sz,
    );
  }

  pub inside_sound : (i l : ℕ) → own < i → Quiet (Operand.parse_inner s) at (λ j m v. InsideFound i j v) i l
  unfolding Silent Operand.parse_inner Operand.or_none Operand.inner_displaced
  inside_sound i l low = record {
    all = (
      (λ k x e q. Spelling.empty),
      λ _. (
        (λ k x e q. call (bases_sound s at Shapes.memory_indirect i l) λ n m. elim [ Some r ↦ λ a g. Spelling.bases g | None ↦ λ a g. tt ]),
        λ _. call (displacement_sound i l low) λ n m. elim [ Some d ↦ λ a g. (inside_displaced i n m g).all | None ↦ λ a g. tt ],
      ),
    );
  }

  -- T
  abbrev pub BehindFound : Option IndexRegister → ℕ → ℕ → Option Outer → Type 0
  BehindFound x i j (Some u) = Behind s at unreserved own x i j u.index u.indirection u.displacement
  BehindFound x i j None = Unit {0}

  behind_index : (i l : ℕ) (x : Option IndexRegister) → own ≤ i → Sign at Kinds.comma i → Quiet (Operand.outer_index s x) at (λ j m v. BehindFound x i j v) (i + 1) l
  unfolding Silent Operand.outer_index Operand.outer_indexed Operand.or_none Operand.stepped_over Operand.malformed
  behind_index i l (Some y) low c = record { all = ((λ k x e q w. tt), λ q. tt) }
  behind_index i l None low c = record {
    all = call (index_sound s at Shapes.memory_indirect (i + 1) l) λ n m. elim [
      | Some y ↦ λ a g. (
        (λ k x e q w. call (displacement_sound (n + 1) k.end (omega arith)) λ n₂ m₂. elim [ Some d ↦ λ b f. behind_both c g.0 (signed Kinds.comma e q) f | None ↦ λ b f. tt ]),
        λ q. Spelling.index c g.0,
      )
      | None ↦ λ a g. tt
    ];
  }
    where
      behind_both : {n n₂ : ℕ} {y : _} {d : Displacement} → Sign at Kinds.comma i → Spelling.Indexes s at (i + 1) n y → Sign at Kinds.comma n → DisplacementAt (n + 1) n₂ d
          → Behind s at unreserved own None i n₂ (Some y) 2 d
      behind_both c x k (displacement_at h sz) = Spelling.both c x k h sz

  behind_displaced : {i j : ℕ} {x : Option IndexRegister} {d : Displacement} → Sign at Kinds.comma i → DisplacementAt (i + 1) j d → Behind s at unreserved own x i j x 1 d
  behind_displaced c (displacement_at h sz) = Spelling.displacement c h sz

  pub behind_sound : (i l : ℕ) (x : Option IndexRegister) → own ≤ i → Quiet (Operand.parse_outer s x) at (λ j m v. BehindFound x i j v) i l
  unfolding Silent Operand.parse_outer Operand.or_none
  behind_sound i l x low = record {
    all = (
      (λ k y e q w. (
        (λ t z e₂ q₂. (behind_index i k.end x low (signed Kinds.comma e q)).all),
        λ _. call (displacement_sound (i + 1) k.end (omega arith)) λ n m. elim [ Some d ↦ λ a g. behind_displaced (signed Kinds.comma e q) g | None ↦ λ a g. tt ],
      )),
      λ q. Spelling.empty,
    );
  }

-- ---- register lists

-- the signs that follow a register in a list
abbrev pub joins : Token → List ℕ → Bool
joins k x = either (eqb k.kind Kinds.minus) (eqb k.kind Kinds.slash)

unjoined : (at : ℕ → Place) (i : ℕ) → holds (is Kinds.minus) (at i) ≡ false → holds (is Kinds.slash) (at i) ≡ false → holds joins (at i) ≡ true → ⊥
unfolding holds
unjoined at i a b c = go (at i) a b c
  where
    go : (p : Place) → holds (is Kinds.minus) p ≡ false → holds (is Kinds.slash) p ≡ false → holds joins p ≡ true → ⊥
    go nothing a b c = true_false (sym c)
    go (stands k x) a b c = true_false (sym (rw (a, b) at c))

strictly : {i j : ℕ} → i ≤ j → (j ≡ i → ⊥) → i < j
strictly a f = omega arith

module _ (s : Setting) (at : ℕ → Place) where
  -- the item that begins at i; where no range does, no minus follows
  abbrev ItemFound : ℕ → ℕ → ℕ → Option RegisterListItem → Type 0
  ItemFound i j m (Some x) = Item s at i j x m × (i < j) × (j ≡ i + 1 → holds (is Kinds.minus) (at (i + 1)) ≡ false)
  ItemFound i j m None = Unit {0}

  item_sound : (r : Register) (i : ℕ) → RegisterAt at i r → Quiet (Operand.list_item r) at (ItemFound i) (i + 1) r.span.end
  unfolding Silent Operand.list_item Operand.ranged Operand.register_expected register_from
  item_sound r i p = record {
    all = (
      (λ k x e q w. (
        (λ t y e₂ q₂ w₂. silent_choose (ltb (register_from t y).index r.index) _ _ _ _ _ _ (λ f. tt) λ f.
            (a_range p (signed Kinds.minus e q) (found_register e₂ q₂) (ltb-false _ _ f), omega arith, λ z. absurd (omega arith))),
        λ q₂. ((λ t y e₂ q₃. tt), λ q₃. tt),
      )),
      λ q. (a_single p, omega arith, λ z. q),
    );
  }

  -- the list that begins at i, behind the items so far
  pub data ListAt (items : List RegisterListItem) (i : ℕ) : ℕ → Operand → Type 0 where
    list_at : {j e : ℕ} {xs : List RegisterListItem} → Items s at i j xs e → ListAt items i j (O.register_list (items ++ xs) (span s.start e))

  extended : (items : List RegisterListItem) {i j n e : ℕ} {x : RegisterListItem} {y : Operand} → Item s at i j x e → Sign at Kinds.slash j
      → ListAt (items ++ (x ∷ [])) (j + 1) n y → ListAt items i n y
  extended items {x = x} h k (list_at {e = z} {xs = xs} g) = rw (append_assoc items (x ∷ []) xs) (list_at (more h k g))

  abbrev ListFound : ℕ → List RegisterListItem → ℕ → ℕ → Option Operand → Type 0
  ListFound f items i j (Some y) = ListAt items i j y × (i < j) × (1 ≤ f → holds joins (at (i + 1)) ≡ true → i + 1 < j)
  ListFound f items i j None = Unit {0}

  pub list_sound : (f : ℕ) (items : List RegisterListItem) (r : Register) (i : ℕ) → RegisterAt at i r
      → Quiet (Operand.list_loop f s items r) at (λ j m v. ListFound f items i j v) (i + 1) r.span.end
  unfolding Silent Operand.list_loop Operand.next_item Operand.or_none Operand.listed Operand.register_expected register_from
  list_sound zero items r i p = record { all = (list_at (last (a_single p)), omega arith, λ z. absurd (omega arith)) }
  list_sound (suc f) items r i p = record {
    all = call (item_sound r i p) λ j m. elim [
      | Some x ↦ λ a h. (
        (λ k y e q w. (
          (λ t z e₂ q₂ w₂. call (list_sound f (items ++ (x ∷ [])) (register_from t z) (j + 1) (found_register e₂ q₂)) λ n m₂. elim [
            | Some v ↦ λ b g. (extended items h.0 (signed Kinds.slash e q) g.0, omega arith, λ c d. omega (arith, h.1, g.1))
            | None ↦ λ b g. tt
          ]),
          λ q₂. ((λ t z e₂ q₃. tt), λ q₃. tt),
        )),
        λ q. (list_at (last h.0), h.1, λ c d. strictly a λ z. unjoined at (i + 1) (h.2 z) (rw z at q) d),
      )
      | None ↦ λ a h. tt
    ];
  }
