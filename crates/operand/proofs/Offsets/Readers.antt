-- Each reader of an operand leaves only offsets within m, where the operand starts within it.
-- Assumes nothing.
use Rattle.std.specs.Prelude.{◌≡◌, refl, Bool, eqb, leb, ltb, Option, Some, None}
use Rattle.std.proofs.Math.Bool.{true, false}
use mathlib.Core.List.{List, [], ◌∷◌, ◌++◌}
use Prim.Native.Nat.{ℕ, zero, suc, ◌+◌, ◌-◌, ◌≤◌}
use Rattle.std.proofs.Common.{arith, leb-true}
use Rattle.names.specs.Choice.{pick, both}
use Rattle.names.specs.Letters.{bytes, lowered, same}
use Rattle.names.specs.Registers.{pair, register, register_of, suppressing, suppressed, suppressed_of}
use Rattle.names.specs.declared.tokens.Token.{Token}
use Rattle.names.specs.declared.registers.Suppressed.{Suppressed}
use Rattle.records.specs.Problems
use Rattle.records.specs.Shapes
use Rattle.records.specs.Spans.{span, span_of}
use Rattle.records.specs.declared.spans.Span.{Span}
use Rattle.expressions.specs.declared.reading.Setting.{Setting}
use Rattle.expressions.specs.Trees.{Expr}
use Rattle.expressions.specs.Reader.{Reader}
use Rattle.expressions.specs.Expressions.{Suffix, suffixed, bare, read, reported, absent}
use Rattle.expressions.proofs.Offsets.{SpanIn, TreeIn, Fits, answers, from_here, raises, steps, sees, chooses, then, root, widened, suffix_fits, valued_fits, expression_fits, from_fits}
use Rattle.operand.specs.Operands.{Displacement, displaced, undisplaced, RegisterListItem, Operand}
use Rattle.operand.specs.Operands as O
use Rattle.operand.specs.declared.forms.Register.{Register}
use Rattle.operand.specs.declared.forms.IndexRegister.{IndexRegister}
use Rattle.operand.specs.declared.forms.BaseRegister.{BaseRegister}
use Rattle.operand.specs.Operand
use Rattle.operand.specs.Operand.{◌>>=?◌}
use Rattle.operand.specs.Operand.{Inner, Outer}
use Rattle.operand.proofs.Offsets.Operands.{RegisterIn, IndexRegisterIn, BaseIn, IndexIn, RegistersIn, DisplacementIn, ItemIn, ItemsIn, OperandIn, MaybeIn}

-- ---- a name spells one of sixteen registers

abbrev Small : Option ℕ → Type 0
Small (Some r) = r ≤ 15
Small None = Unit {0}

small_pair : (c d : ℕ) → Small (pair c d)
unfolding pair
small_pair c d = go (eqb c 115) (eqb d 112) (leb 48 d) (leb d 55) refl (eqb c 100) (eqb c 97)
  where
    go : (a b e f : Bool) → leb d 55 ≡ f → (g h : Bool)
        → Small (pick a (pick b (Some 15) None) (pick (both e f) (pick g (Some (d - 48)) (pick h (Some (d - 48 + 8)) None)) None))
    go true true e f q g h = omega arith
    go true false e f q g h = tt
    go false b true true q true h = omega (arith, leb-true d 55 q)
    go false b true true q false true = omega (arith, leb-true d 55 q)
    go false b true true q false false = tt
    go false b true false q g h = tt
    go false b false f q g h = tt

small_register : (x : List ℕ) → Small (register x)
unfolding register
small_register [] = tt
small_register (c ∷ []) = tt
small_register (c ∷ d ∷ []) = small_pair c d
small_register (c ∷ d ∷ e ∷ es) = tt

small_index : (x : List ℕ) → Operand.index_of (register_of x) ≤ 15
unfolding register_of Operand.index_of
small_index x = go (register (lowered x)) (small_register (lowered x))
  where
    go : (r : Option ℕ) → Small r → Operand.index_of r ≤ 15
    go (Some n) h = h
    go None h = omega arith

small_suppressed : (x : List ℕ) → Operand.suppressed_index (suppressed_of x) ≤ 15
unfolding suppressed_of suppressed suppressing Operand.suppressed_index
small_suppressed x = letters (lowered x)
  where
    one : (q : Option ℕ) → Small q → Operand.suppressed_index (suppressing q) ≤ 15
    one (Some r) h = h
    one None h = omega arith

    go : (b c : Bool) (cs : List ℕ) → Operand.suppressed_index (pick b (pick c (Some Suppressed.ProgramCounter) (suppressing (register cs))) None) ≤ 15
    go true true cs = omega arith
    go true false cs = one (register cs) (small_register cs)
    go false c cs = omega arith

    letters : (y : List ℕ) → Operand.suppressed_index (suppressed y) ≤ 15
    letters [] = omega arith
    letters (c ∷ cs) = go (eqb c 122) (same cs (bytes "pc")) cs

items_in : (m : ℕ) (xs : List RegisterListItem) (x : RegisterListItem) → ItemsIn m xs → ItemIn m x → ItemsIn m (xs ++ (x ∷ []))
items_in m [] x h g = (g, tt)
items_in m (y ∷ ys) x h g = (h.0, items_in m ys x h.1 g)

-- ---- the Rust's `?`

tries : {m : ℕ} {A B : Type 0} {P : A → Type 0} {Q : B → Type 0} {p : Reader (Option A)} {f : A → Reader (Option B)}
    → Fits m (MaybeIn P) p → ((a : A) → P a → Fits m (MaybeIn Q) (f a)) → Fits m (MaybeIn Q) (p >>=? f)
unfolding Operand.or_none
tries h k = then h (elim [ Some a ↦ λ g. k a g | None ↦ λ g. answers tt ])

module _ {m : ℕ} (s : Setting) (low : s.start ≤ m) where
  -- ---- readers that answer none

  module _ {A : Type 0} {P : A → Type 0} where
    malformed_fits : (shape problem : ℕ) → Fits m (MaybeIn P) (Operand.malformed s shape problem)
    unfolding Operand.malformed
    malformed_fits shape problem = from_here λ i l h. raises (omega arith) (answers tt)

    unclosed_fits : (k : Token) (shape problem : ℕ) → SpanIn m (span_of k) → Fits m (MaybeIn P) (Operand.unclosed s k shape problem)
    unfolding Operand.unclosed
    unclosed_fits k shape problem g = from_here λ i l h. raises (omega arith) (answers tt)

    stepped_fits : (shape problem : ℕ) → Fits m (MaybeIn P) (Operand.stepped_over s shape problem)
    unfolding Operand.stepped_over
    stepped_fits shape problem = steps (λ k x h. malformed_fits shape problem) (malformed_fits shape problem)

    not_address_fits : (shape : ℕ) (k : Token) → SpanIn m (span_of k) → Fits m (MaybeIn P) (Operand.not_an_address_register s shape k)
    unfolding Operand.not_an_address_register
    not_address_fits shape k g = from_here λ i l h. raises (omega arith) (answers tt)

    expected_fits : (sign : ℕ) → Fits m (MaybeIn P) (Operand.register_expected sign)
    unfolding Operand.register_expected
    expected_fits sign = sees (λ k x h. raises (omega arith) (answers tt)) (from_here λ i l h. raises (omega arith) (answers tt))

  over_fits : {A : Type 0} {P : A → Type 0} {p : Reader A} → Fits m P p → Fits m P (Operand.over p)
  unfolding Operand.over
  over_fits h = steps (λ k x g. h) h

  -- an expression, or what is said where none stands
  expressed : {A : Type 0} {Q : A → Type 0} {p : Reader (Option A)} {f : Expr → Reader (Option A)}
      → Fits m (MaybeIn Q) p → ((e : Expr) → TreeIn m e → Fits m (MaybeIn Q) (f e)) → Fits m (MaybeIn Q) (Operand.expression_or s p f)
  unfolding Operand.or_absent
  expressed h k = then (expression_fits _) (elim [ read e ↦ λ g. k e g | reported ↦ λ g. answers tt | absent ↦ λ g. h ])

  close_fits : (k : Token) (shape : ℕ) → SpanIn m (span_of k) → Fits m (MaybeIn (λ e. e ≤ m)) (Operand.expect_close s k shape)
  unfolding Operand.expect_close
  close_fits k shape g = steps (λ c x h. answers h.1) (unclosed_fits k shape Problems.paren_missing g)

  -- ---- immediates

  immediate_fits : (k : Token) → SpanIn m (span_of k) → Fits m (MaybeIn (OperandIn m)) (Operand.parse_immediate s k)
  unfolding Operand.parse_immediate Operand.immediate_size
  immediate_fits k h = expressed (raises (omega arith) (answers tt)) λ e g. then (suffix_fits _ (root e g).0) (elim [
    | suffixed n t ↦ λ q. chooses (eqb n 3) (answers (g, (h.0, q.1))) (chooses (eqb n 0) (answers (g, (h.0, q.1))) (malformed_fits Shapes.immediate Problems.immediate_carries_no_size))
    | bare ↦ λ q. answers (g, (h.0, (root e g).1))
  ])

  -- ---- registers and lists

  item_fits : (r : Register) → r.index ≤ 15 → RegisterIn m r → Fits m (MaybeIn (ItemIn m)) (Operand.list_item r)
  unfolding Operand.list_item Operand.ranged Operand.register_from
  item_fits r small h =
      steps (λ k x g. steps (λ t y q. chooses (ltb (Operand.register_from t y).index r.index)
      (raises (omega (arith, small_index y)) (answers (h, q, (h.0, q.1)))) (answers (h, q, (h.0, q.1)))) (expected_fits Problems.after_minus))
      (answers h)

  list_fits : (f : ℕ) (xs : List RegisterListItem) → ItemsIn m xs → (r : Register) → r.index ≤ 15 → RegisterIn m r → Fits m (MaybeIn (OperandIn m)) (Operand.list_loop f s xs r)
  unfolding Operand.list_loop Operand.next_item Operand.listed Operand.register_from
  list_fits zero xs h r small g = from_here λ i l b. answers (items_in m xs _ h g, (low, b))
  list_fits (suc f) xs h r small g =
      tries (item_fits r small g) λ x q.
      let z = items_in m xs x h q in
      steps (λ k y b. steps (λ t v c. list_fits f _ z _ (small_index v) c) (expected_fits Problems.after_slash)) (from_here λ i l b. answers (z, (low, b)))

  direct_in : (r : Register) → RegisterIn m r → OperandIn m (Operand.register_direct r r.span)
  unfolding Operand.register_direct
  direct_in r h = go (leb 8 r.index)
    where
      go : (b : Bool) → OperandIn m (pick b (O.address_register_direct r r.span) (O.data_register_direct r r.span))
      go true = (h, h)
      go false = (h, h)

  register_operand_fits : (r : Register) → r.index ≤ 15 → RegisterIn m r → Fits m (MaybeIn (OperandIn m)) (Operand.parse_register_operand s r)
  unfolding Operand.parse_register_operand Operand.parse_register_list
  register_operand_fits r small h = sees (λ k x g. list_fits _ [] tt r small h) (answers (direct_in r h))

  -- ---- indexes

  scale_fits : (shape : ℕ) (x : IndexRegister) → IndexRegisterIn m x → Fits m (MaybeIn (IndexRegisterIn m)) (Operand.index_scale s shape x)
  unfolding Operand.index_scale Operand.scaled
  scale_fits shape x h =
      steps (λ k y g. steps (λ t z q. then (valued_fits t _ q) λ v b. chooses (Operand.scale_of v) (answers (h.0, (h.1.0, q.1))) (malformed_fits shape Problems.bad_scale)) (stepped_fits shape Problems.bad_scale))
      (answers h)

  index_register_fits : (shape : ℕ) (r : Register) (b : Bool) → RegisterIn m r → Fits m (MaybeIn (IndexRegisterIn m)) (Operand.index_register s shape r b)
  unfolding Operand.index_register Operand.index_size
  index_register_fits shape r b h = then (suffix_fits _ h.0) (elim [
    | suffixed n t ↦ λ g. scale_fits shape _ (h, (h.0, g.1))
    | bare ↦ λ g. scale_fits shape _ (h, h)
  ])

  index_fits : (shape : ℕ) → Fits m (MaybeIn (IndexRegisterIn m)) (Operand.parse_index_register s shape)
  unfolding Operand.parse_index_register Operand.register_from
  index_fits shape =
      from_here λ i l b.
      steps (λ t x h. index_register_fits shape _ false h) (steps (λ t x h. index_register_fits shape _ true h) (stepped_fits shape Problems.index_missing))

  -- ---- bases

  predecrement_fits : (a k t : Token) (x : List ℕ) → SpanIn m (span_of a) → SpanIn m (span_of k) → SpanIn m (span_of t)
      → Fits m (MaybeIn (OperandIn m)) (Operand.parse_predecrement s a k t x)
  unfolding Operand.parse_predecrement Operand.predecrement_close Operand.register_from
  predecrement_fits a k t x f g h =
      over_fits (over_fits (over_fits (chooses (leb 8 (Operand.register_from t x).index)
      (tries (close_fits k Shapes.predecrement g) λ e q. answers (h, (f.0, q))) (not_address_fits Shapes.predecrement t h))))

  indexed_in : (d : Displacement) (b : BaseRegister) (x : IndexRegister) (f : IndexRegister → Span → Operand) (z : Span) → DisplacementIn m d → BaseIn m b
      → IndexRegisterIn m x → SpanIn m z → OperandIn m (f x z) → (c : Bool) → OperandIn m (pick c (O.full_index d b (Some x) 0 undisplaced z) (f x z))
  indexed_in d b x f z hd hb hx hz h true = (hd, hb, hx, tt, hz)
  indexed_in d b x f z hd hb hx hz h false = h

  base_and_index_fits : (k : Token) (shape : ℕ) (b : BaseRegister) (d : Displacement) (f : IndexRegister → Span → Operand) → SpanIn m (span_of k) → BaseIn m b
      → DisplacementIn m d → ((x : IndexRegister) (z : Span) → IndexRegisterIn m x → SpanIn m z → OperandIn m (f x z))
      → Fits m (MaybeIn (OperandIn m)) (Operand.base_and_index s k shape b d f)
  unfolding Operand.indexed_operand
  base_and_index_fits k shape b d f hk hb hd h =
      tries (index_fits shape) λ x g.
      tries (close_fits k shape hk) λ e q.
      answers (indexed_in d b x f (span s.start e) hd hb g (low, q) (h x _ g (low, q)) x.suppressed)

  closed_base_fits : (r : Register) (d : Displacement) (c : Token) → RegisterIn m r → DisplacementIn m d → SpanIn m (span_of c)
      → Fits m (MaybeIn (OperandIn m)) (Operand.closed_base s r d c)
  unfolding Operand.closed_base
  closed_base_fits r (displaced e n) c h g q = answers (g, h, (low, q.1))
  closed_base_fits r undisplaced c h g q = steps (λ k x b. answers (h, (low, b.1))) (answers (h, (low, q.1)))

  closed_counter_fits : (d : Displacement) (c : Token) → DisplacementIn m d → SpanIn m (span_of c) → Fits m (MaybeIn (OperandIn m)) (Operand.closed_counter s d c)
  unfolding Operand.closed_counter
  closed_counter_fits (displaced e n) c g q = answers (g, (low, q.1))
  closed_counter_fits undisplaced c g q = malformed_fits Shapes.pc_displacement Problems.the_displacement_missing

  base_fits : (k : Token) (d : Displacement) → SpanIn m (span_of k) → DisplacementIn m d → Fits m (MaybeIn (OperandIn m)) (Operand.parse_base_and_index s k d)
  unfolding Operand.parse_base_and_index Operand.after_base Operand.after_counter Operand.register_from
  base_fits k d h g =
      steps (λ t x q. steps (λ c y b. closed_base_fits _ d c q g b)
      (steps (λ c y b. base_and_index_fits k Shapes.index (BaseRegister.Address _) d (λ x. O.index d _ x) h q g λ x z e f. (g, q, e, f)) (unclosed_fits k _ Problems.paren_missing h)))
      (steps (λ t x q. steps (λ c y b. closed_counter_fits d c g b)
      (steps (λ c y b. base_and_index_fits k Shapes.pc_index BaseRegister.ProgramCounter d (λ x. O.pc_index d x) h tt g λ x z e f. (g, e, f)) (unclosed_fits k Shapes.pc_displacement Problems.paren_missing h)))
      (steps (λ t x q. not_address_fits _ t q) (unclosed_fits k _ Problems.base_missing h)))

  -- ---- the full index

  with_index_fits : (shape : ℕ) (b : BaseRegister) → BaseIn m b → Fits m (MaybeIn (RegistersIn m)) (Operand.with_index s shape b)
  with_index_fits shape b h = tries (index_fits shape) λ x g. answers (h, g)

  after_register_fits : (shape : ℕ) (b : BaseRegister) → BaseIn m b → Fits m (MaybeIn (RegistersIn m)) (Operand.after_base_register s shape b)
  unfolding Operand.after_base_register
  after_register_fits shape b h =
      from_here λ i l g. sees (λ t x q. steps (λ c y e. with_index_fits shape b h) (answers (h, tt))) (answers (h, tt))

  no_base_fits : (shape : ℕ) → Fits m (MaybeIn (RegistersIn m)) (Operand.no_base s shape)
  unfolding Operand.no_base
  no_base_fits shape = from_here λ i l g. sees (λ t x h. with_index_fits shape BaseRegister.Omitted tt) (stepped_fits shape Problems.base_or_index_missing)

  registers_fits : (shape : ℕ) → Fits m (MaybeIn (RegistersIn m)) (Operand.parse_base_and_index_registers s shape)
  unfolding Operand.parse_base_and_index_registers Operand.register_from
  registers_fits shape =
      from_here λ i l g.
      steps (λ t x h. after_register_fits shape BaseRegister.ProgramCounter tt)
      (steps (λ t x h. after_register_fits shape BaseRegister.SuppressedProgramCounter tt)
      (sees (λ t x h. no_base_fits shape)
      (steps (λ t x h. after_register_fits shape (BaseRegister.Address _) h)
      (steps (λ t x h. after_register_fits shape (BaseRegister.SuppressedAddress _) (omega (arith, small_suppressed x))) (no_base_fits shape)))))

  full_index_fits : (k : Token) (d : Displacement) → SpanIn m (span_of k) → DisplacementIn m d → Fits m (MaybeIn (OperandIn m)) (Operand.parse_full_index s k d)
  unfolding Operand.parse_full_index
  full_index_fits k d h g = tries (registers_fits Shapes.index) λ r q. tries (close_fits k Shapes.index h) λ e b. answers (g, q.0, q.1, tt, (low, b))

  starts_fits : (p q : Unit {0} → Reader (Option Operand)) → Fits m (MaybeIn (OperandIn m)) (p tt) → Fits m (MaybeIn (OperandIn m)) (q tt)
      → Fits m (MaybeIn (OperandIn m)) (Operand.starts_a_full_index s p q)
  unfolding Operand.starts_a_full_index
  starts_fits p q f g =
      from_here λ i l h.
      sees (λ t x b. sees (λ k y c. f) g) (sees (λ t x b. sees (λ k y c. f) g) (sees (λ t x b. sees (λ k y c. f) g) g))

  -- ---- memory indirect

  displacement_fits : Fits m (MaybeIn (DisplacementIn m)) (Operand.parse_sized_displacement s)
  unfolding Operand.parse_sized_displacement Operand.sized
  displacement_fits = expressed (stepped_fits Shapes.memory_indirect Problems.a_displacement_missing) λ e g. then (suffix_fits _ (root e g).0) (elim [ suffixed n t ↦ λ q. answers g | bare ↦ λ q. answers g ])

  abbrev InnerIn : Inner → Type 0
  InnerIn n = DisplacementIn m n.displacement × RegistersIn m n.registers

  abbrev OuterIn : Outer → Type 0
  OuterIn u = IndexIn m u.index × DisplacementIn m u.displacement

  with_registers_fits : (d : Displacement) → DisplacementIn m d → Fits m (MaybeIn InnerIn) (Operand.with_registers s d)
  with_registers_fits d h = tries (registers_fits Shapes.memory_indirect) λ r g. answers (h, g)

  inner_fits : Fits m (MaybeIn InnerIn) (Operand.parse_inner s)
  unfolding Operand.parse_inner Operand.inner_displaced
  inner_fits =
      from_here λ i l h.
      sees (λ k x g. answers (tt, (tt, tt)))
      (sees (λ k x g. with_registers_fits undisplaced tt)
      (tries displacement_fits λ d g. steps (λ c x q. with_registers_fits d g) (answers (g, (tt, tt)))))

  outer_displacement_fits : (x : Option IndexRegister) (n : ℕ) → IndexIn m x → Fits m (MaybeIn OuterIn) (Operand.outer_displacement s x n)
  outer_displacement_fits x n h = tries displacement_fits λ d g. answers (h, g)

  outer_index_fits : (x : Option IndexRegister) → Fits m (MaybeIn OuterIn) (Operand.outer_index s x)
  unfolding Operand.outer_index Operand.outer_indexed
  outer_index_fits (Some x) = stepped_fits Shapes.memory_indirect Problems.index_twice
  outer_index_fits None = tries (index_fits Shapes.memory_indirect) λ x h. steps (λ c y g. outer_displacement_fits (Some x) 2 h) (answers (h, tt))

  outer_fits : (x : Option IndexRegister) → IndexIn m x → Fits m (MaybeIn OuterIn) (Operand.parse_outer s x)
  unfolding Operand.parse_outer
  outer_fits x h = steps (λ c y g. from_here λ i l q. sees (λ t z b. outer_index_fits x) (outer_displacement_fits x 1 h)) (answers (h, tt))

  memory_fits : (k : Token) → SpanIn m (span_of k) → Fits m (MaybeIn (OperandIn m)) (Operand.parse_memory_indirect s k)
  unfolding Operand.parse_memory_indirect
  memory_fits k h =
      tries inner_fits λ n g.
      steps (λ c x q. tries (outer_fits n.registers.index g.1.1) λ u f. tries (close_fits k Shapes.memory_indirect h) λ e b. answers (g.0, g.1.0, f.0, f.1, (low, b)))
      (unclosed_fits k Shapes.memory_indirect Problems.bracket_missing h)

  -- ---- expressions

  finish_fits : (e : Expr) → TreeIn m e → Fits m (MaybeIn (OperandIn m)) (Operand.finish_expression_operand s e)
  unfolding Operand.finish_expression_operand Operand.absolute_size
  finish_fits e h = then (suffix_fits _ (root e h).0) (elim [ suffixed n t ↦ λ g. answers (h, (low, g.1)) | bare ↦ λ g. answers (h, (low, (root e h).1)) ])

  tail_fits : (e : Expr) (miss : Unit {0} → Reader (Option Operand)) → TreeIn m e → Fits m (MaybeIn (OperandIn m)) (miss tt)
      → Fits m (MaybeIn (OperandIn m)) (Operand.displacement_tail s e miss)
  unfolding Operand.displacement_tail
  tail_fits e miss h g = steps (λ k x q. base_fits k (displaced e 0) q h) g

  expression_operand_fits : Fits m (MaybeIn (OperandIn m)) (Operand.parse_expression_operand s)
  unfolding Operand.parse_expression_operand Operand.no_expression
  expression_operand_fits =
      expressed (sees (λ k x g. raises (omega arith) (answers tt)) (raises (omega arith) (answers tt))) λ e h. tail_fits e _ h (finish_fits e h)

  -- ---- parentheses

  unexpected_fits : (k : Token) → SpanIn m (span_of k) → Fits m (MaybeIn (OperandIn m)) (Operand.unexpected k)
  unfolding Operand.unexpected
  unexpected_fits k h = sees (λ t x g. answers tt) (sees (λ t x g. raises (omega arith) (answers tt)) (raises (omega arith) (answers tt)))

  sized_base_fits : (k : Token) (e : Expr) (x : Suffix) → SpanIn m (span_of k) → TreeIn m e → Fits m (MaybeIn (OperandIn m)) (Operand.sized_base s k e x)
  unfolding Operand.sized_base
  sized_base_fits k e (suffixed n t) h g = over_fits (full_index_fits k (displaced e n) h g)
  sized_base_fits k e bare h g = over_fits (full_index_fits k (displaced e 0) h g)

  after_expression_fits : (k : Token) (e : Expr) → SpanIn m (span_of k) → TreeIn m e → Fits m (MaybeIn (OperandIn m)) (Operand.after_expression s k e)
  unfolding Operand.after_expression
  after_expression_fits k e h g =
      steps (λ c x q. starts_fits _ _ (full_index_fits k (displaced e 0) h g) (base_fits k (displaced e 0) h g))
      (steps (λ c x q. tail_fits e _ g (then (from_fits _ _ (widened e _ g (h.0, q.1))) finish_fits))
      (sees (λ t x q. sees (λ c y b. then (suffix_fits _ (root e g).0) λ x z. sized_base_fits k e x h g) (unexpected_fits k h)) (unexpected_fits k h)))

  parenthesised_fits : (k : Token) → SpanIn m (span_of k) → Fits m (MaybeIn (OperandIn m)) (Operand.parenthesised s k)
  unfolding Operand.parenthesised
  parenthesised_fits k h = expressed (raises (omega arith) (answers tt)) λ e g. after_expression_fits k e h g

  starts_base_fits : (p q : Unit {0} → Reader (Option Operand)) → Fits m (MaybeIn (OperandIn m)) (p tt) → Fits m (MaybeIn (OperandIn m)) (q tt)
      → Fits m (MaybeIn (OperandIn m)) (Operand.starts_a_base p q)
  unfolding Operand.starts_a_base
  starts_base_fits p q f g = sees (λ t x b. sees (λ k y c. sees (λ v z d. f) g) f) g

  parenthesised_operand_fits : (k : Token) → SpanIn m (span_of k) → Fits m (MaybeIn (OperandIn m)) (Operand.parse_parenthesised_operand s k)
  unfolding Operand.parse_parenthesised_operand
  parenthesised_operand_fits k h =
      steps (λ b x g. memory_fits k h)
      (starts_fits _ _ (full_index_fits k undisplaced h tt) (starts_base_fits _ _ (base_fits k undisplaced h tt) (parenthesised_fits k h)))

  -- ---- the operand

  pub operand_from_fits : Fits m (MaybeIn (OperandIn m)) (Operand.operand_from s)
  unfolding Operand.operand_from Operand.minus_operand Operand.name_or_expression Operand.register_from
  operand_from_fits =
      sees (λ k x h. raises (omega arith) (answers tt))
      (steps (λ k x h. immediate_fits k h)
      (steps (λ k x h. parenthesised_operand_fits k h)
      (sees (λ a x h. sees (λ k y g. sees (λ t z q. predecrement_fits a k t z h g q) expression_operand_fits) expression_operand_fits)
      (steps (λ t x h. register_operand_fits _ (small_index x) h) (steps (λ t x h. answers h) expression_operand_fits)))))
