-- Two settings that are read alike: marks that agree wherever a token stands, and limits at which an expression is read alike. Marks.antt and Limits.antt use it.
-- Assumes nothing.
use Rattle.std.specs.Prelude.{◌≡◌, Bool, not, eqb, Option, Some, None}
use Rattle.std.proofs.Math.Path.{refl, ap}
use Rattle.std.proofs.Common.{sym, ◌∙◌, arith}
use mathlib.Core.List.{List, [], ◌∷◌, ◌++◌}
use Prim.Native.Nat.{ℕ, zero, suc, ◌+◌}
use Rattle.names.specs.Choice.{both, either}
use Rattle.names.specs.Places.{Place, stands}
use Rattle.names.specs.Registers.{suppressed_of}
use Rattle.names.specs.declared.tokens.Token.{Token}
use Rattle.names.specs.declared.registers.Suppressed.{Suppressed}
use Rattle.records.specs.Shapes
use Rattle.records.specs.declared.spans.Span.{Span}
use Rattle.records.specs.declared.diagnostics.Diagnostic.{Diagnostic}
use Rattle.expressions.specs.Trees.{Expr}
use Rattle.expressions.specs.Reader.{Reading, Reader, bind, ◌>>=◌}
use Rattle.expressions.specs.Expressions.{Term, read, reported, absent, Suffix, suffixed, bare, parse_expression, expression_from}
use Rattle.expressions.specs.Alike.{Alike, same_alike, path_alike, bind_alike, here_alike, bump_same, peek_same, bump_alike, peek_alike}
use Rattle.expressions.specs.declared.reading.Setting.{Setting}
use Rattle.operand.specs.Operands.{RegisterListItem, Displacement, displaced, undisplaced, Operand}
use Rattle.operand.specs.declared.forms.Register.{Register}
use Rattle.operand.specs.declared.forms.IndexRegister.{IndexRegister}
use Rattle.operand.specs.declared.forms.BaseRegister.{BaseRegister}
use Rattle.operand.specs.Operand
use Rattle.operand.specs.Operand.{◌>>=?◌}
use Rattle.operand.specs.Entry.{Input, refusal, reading_at, answer_of, nodes_after, diagnostics_after, outcome_of, outcome}
use Rattle.operand.specs.Settings.{with_setting}

-- ---- what goes on with an answer: with what was read, a size, an expression

try_alike : {P : Diagnostic → Type 0} {A B : Type 0} {at : ℕ → Place} {i l : ℕ} {p q : Reader (Option B)} {f g : B → Reader (Option A)}
    → Alike P at i l p q → ((j m : ℕ) (b : B) → Alike P at j m (f b) (g b)) → Alike P at i l (p >>=? f) (q >>=? g)
unfolding Operand.or_none
try_alike h k = bind_alike h λ j m. elim [ Some b ↦ λ e. k j m b | None ↦ λ e. same_alike ]

size_alike : {P : Diagnostic → Type 0} {A : Type 0} {at : ℕ → Place} {i l : ℕ} {p : Reader Suffix} {f g : Suffix → Reader A}
    → ((n : ℕ) (w : Span) → f (suffixed n w) ≡ g (suffixed n w)) → f bare ≡ g bare
    → Alike P at i l (bind p f) (bind p g)
size_alike h z = bind_alike same_alike λ j m. elim [ suffixed n w ↦ λ e. path_alike (h n w) | bare ↦ λ e. path_alike z ]

expression_alike : {P : Diagnostic → Type 0} {A : Type 0} {at : ℕ → Place} {i l : ℕ} {r r' : Reader Term} {p q : Reader (Option A)} {f g : Expr → Reader (Option A)}
    → Alike P at i l r r' → ((j m : ℕ) (e : Expr) → Alike P at j m (f e) (g e)) → p ≡ q → Alike P at i l (r >>= Operand.or_absent p f) (r' >>= Operand.or_absent q g)
unfolding Operand.or_absent
expression_alike t h z = bind_alike t λ j m. elim [ read e ↦ λ b. h j m e | reported ↦ λ b. same_alike | absent ↦ λ b. path_alike z ]

-- ---- two settings: marks that agree wherever a token stands, and limits at which an expression is read alike

module _ (P : Diagnostic → Type 0) (at : ℕ → Place) (limit limit' start m n : ℕ)
    (agree : (i : ℕ) (k : Token) (x : List ℕ) → at i ≡ stands k x → eqb m i ≡ eqb n i)
    (expression : (i l : ℕ) → Alike P at i l (parse_expression limit) (parse_expression limit'))
    (expression-from : (e : Expr) (i l : ℕ) → Alike P at i l (expression_from limit e) (expression_from limit' e)) where
  abbrev s : Setting
  s = record { limit = limit; mark = m; start = start }

  abbrev t : Setting
  t = record { limit = limit'; mark = n; start = start }

  -- ---- the tests

  unmarked_same : (i : ℕ) (f : Option Suppressed → Bool) (k : Token) (x : List ℕ) → at i ≡ stands k x → Operand.unmarked s i f k x ≡ Operand.unmarked t i f k x
  unfolding Operand.unmarked
  unmarked_same i f k x h = ap (λ b. both (not b) (Operand.name (λ y. f (suppressed_of y)) k x)) (agree i k x h)

  index_same : (i : ℕ) (k : Token) (x : List ℕ) → at i ≡ stands k x → Operand.an_index s i k x ≡ Operand.an_index t i k x
  unfolding Operand.an_index
  index_same i k x h = ap (λ b. either (Operand.a_register k x) b) (unmarked_same i Operand.is_suppressed_register k x h)

  base_or_index_same : (i : ℕ) (k : Token) (x : List ℕ) → at i ≡ stands k x → Operand.a_base_or_an_index s i k x ≡ Operand.a_base_or_an_index t i k x
  unfolding Operand.a_base_or_an_index
  base_or_index_same i k x h = ap (λ b. either (Operand.a_program_counter k x) (either (Operand.a_register k x) b)) (unmarked_same i Operand.is_suppressed k x h)

  -- a place named from the cursor
  at_zero : (i : ℕ) → at (i + 0) ≡ at i
  at_zero i = let e : i + 0 ≡ i = omega arith in ap at e

  -- ---- immediates and lists, which never look at the mark

  immediate : (k : Token) (i l : ℕ) → Alike P at i l (Operand.parse_immediate s k) (Operand.parse_immediate t k)
  unfolding Operand.parse_immediate Operand.immediate_size Operand.malformed
  immediate k i l = expression_alike (expression i l) (λ j m e. size_alike (λ z w. refl) refl) refl

  list_loop_lem : (f : ℕ) (items : List RegisterListItem) (r : Register) (i l : ℕ) → Alike P at i l (Operand.list_loop f s items r) (Operand.list_loop f t items r)
  unfolding Operand.list_loop Operand.next_item Operand.listed
  list_loop_lem zero items r i l = same_alike
  list_loop_lem (suc f) items r i l =
      try_alike same_alike λ j m x. bump_alike (λ k y e q. bump_alike (λ c z e₂ q₂. list_loop_lem f (items ++ (x ∷ [])) (Operand.register_from c z) _ _) same_alike) same_alike

  register_operand : (r : Register) (i l : ℕ) → Alike P at i l (Operand.parse_register_operand s r) (Operand.parse_register_operand t r)
  unfolding Operand.parse_register_operand Operand.parse_register_list
  register_operand r i l = peek_alike (λ k x. list_loop_lem _ [] r i l) same_alike

  -- ---- indexes

  sized_index_lem : (shape : ℕ) (r : Register) (b : Bool) (i l : ℕ) → Alike P at i l (Operand.index_register s shape r b) (Operand.index_register t shape r b)
  unfolding Operand.index_register Operand.index_size Operand.index_scale Operand.scaled Operand.stepped_over Operand.malformed
  sized_index_lem shape r b i l = size_alike (λ z w. refl) refl

  index_register_lem : (shape i l : ℕ) → Alike P at i l (Operand.parse_index_register s shape) (Operand.parse_index_register t shape)
  unfolding Operand.parse_index_register Operand.stepped_over Operand.malformed
  index_register_lem shape i l =
      here_alike (bump_alike (λ k x e q. sized_index_lem shape _ _ _ _)
      (bump_same (λ k x h. unmarked_same i _ k x h) (λ k x h q. sized_index_lem shape _ _ _ _) same_alike))

  -- ---- base and index

  predecrement : (a k c : Token) (x : List ℕ) (i l : ℕ) → Alike P at i l (Operand.parse_predecrement s a k c x) (Operand.parse_predecrement t a k c x)
  unfolding Operand.parse_predecrement Operand.predecrement_close Operand.expect_close Operand.unclosed Operand.not_an_address_register
  predecrement a k c x i l = same_alike

  comma_index : (k : Token) (shape : ℕ) (b : BaseRegister) (d : Displacement) (f : IndexRegister → Span → Operand) (i l : ℕ)
      → Alike P at i l (Operand.base_and_index s k shape b d f) (Operand.base_and_index t k shape b d f)
  unfolding Operand.expect_close Operand.unclosed
  comma_index k shape b d f i l = try_alike (index_register_lem shape i l) λ j m x. same_alike

  closed_base_lem : (r : Register) (d : Displacement) (k : Token) (i l : ℕ) → Alike P at i l (Operand.closed_base s r d k) (Operand.closed_base t r d k)
  unfolding Operand.closed_base
  closed_base_lem r (displaced e z) k i l = same_alike
  closed_base_lem r undisplaced k i l = same_alike

  closed_counter_lem : (d : Displacement) (k : Token) (i l : ℕ) → Alike P at i l (Operand.closed_counter s d k) (Operand.closed_counter t d k)
  unfolding Operand.closed_counter Operand.malformed
  closed_counter_lem (displaced e z) k i l = same_alike
  closed_counter_lem undisplaced k i l = same_alike

  base_and_index_lem : (p : Token) (d : Displacement) (i l : ℕ) → Alike P at i l (Operand.parse_base_and_index s p d) (Operand.parse_base_and_index t p d)
  unfolding Operand.parse_base_and_index Operand.after_base Operand.after_counter Operand.unclosed Operand.not_an_address_register
  base_and_index_lem p d i l =
      bump_alike (λ k x e q. bump_alike (λ c y e₂ q₂. closed_base_lem _ d c _ _) (bump_alike (λ c y e₂ q₂. comma_index p Shapes.index _ d _ _ _) same_alike))
      (bump_alike (λ k x e q. bump_alike (λ c y e₂ q₂. closed_counter_lem d c _ _) (bump_alike (λ c y e₂ q₂. comma_index p Shapes.pc_index _ d _ _ _) same_alike))
      same_alike)

  -- ---- the full index

  with_index_lem : (shape : ℕ) (b : BaseRegister) (i l : ℕ) → Alike P at i l (Operand.with_index s shape b) (Operand.with_index t shape b)
  with_index_lem shape b i l = bind_alike (index_register_lem shape i l) λ j m z h. same_alike

  after_base_register_lem : (shape : ℕ) (b : BaseRegister) (i l : ℕ) → Alike P at i l (Operand.after_base_register s shape b) (Operand.after_base_register t shape b)
  unfolding Operand.after_base_register
  after_base_register_lem shape b i l =
      here_alike (peek_same 1 (λ k x h. index_same (i + 1) k x h) (λ k x. bump_alike (λ c y e q. with_index_lem shape b _ _) same_alike) same_alike)

  no_base_lem : (shape i l : ℕ) → Alike P at i l (Operand.no_base s shape) (Operand.no_base t shape)
  unfolding Operand.no_base Operand.stepped_over Operand.malformed
  no_base_lem shape i l = here_alike (peek_same 0 (λ k x h. index_same i k x (sym (at_zero i) ∙ h)) (λ k x. with_index_lem shape _ i l) same_alike)

  base_and_index_registers : (shape i l : ℕ) → Alike P at i l (Operand.parse_base_and_index_registers s shape) (Operand.parse_base_and_index_registers t shape)
  unfolding Operand.parse_base_and_index_registers
  base_and_index_registers shape i l =
      here_alike (bump_alike (λ k x e q. after_base_register_lem shape _ _ _)
      (bump_same (λ k x h. unmarked_same i _ k x h) (λ k x h q. after_base_register_lem shape _ _ _)
      (peek_alike (λ k x. no_base_lem shape i l)
      (bump_alike (λ k x e q. after_base_register_lem shape _ _ _)
      (bump_same (λ k x h. unmarked_same i _ k x h) (λ k x h q. after_base_register_lem shape _ _ _) (no_base_lem shape i l))))))

  starts_a_full_index_lem : {A : Type 0} (i l : ℕ) (f g f' g' : Unit {0} → Reader A) → Alike P at i l (f tt) (f' tt) → Alike P at i l (g tt) (g' tt)
      → Alike P at i l (Operand.starts_a_full_index s f g) (Operand.starts_a_full_index t f' g')
  unfolding Operand.starts_a_full_index
  starts_a_full_index_lem i l f g f' g' hit miss =
      here_alike (peek_same 0 (λ k x h. unmarked_same i _ k x (sym (at_zero i) ∙ h)) (λ k x. peek_alike (λ k x. hit) miss)
      (peek_alike (λ k x. peek_alike (λ k x. hit) miss) (peek_alike (λ k x. peek_alike (λ k x. hit) miss) miss)))

  full_index_lem : (p : Token) (d : Displacement) (i l : ℕ) → Alike P at i l (Operand.parse_full_index s p d) (Operand.parse_full_index t p d)
  unfolding Operand.parse_full_index Operand.expect_close Operand.unclosed
  full_index_lem p d i l = try_alike (base_and_index_registers Shapes.index i l) λ j m r. same_alike

  -- ---- memory indirect

  sized_displacement : (i l : ℕ) → Alike P at i l (Operand.parse_sized_displacement s) (Operand.parse_sized_displacement t)
  unfolding Operand.parse_sized_displacement Operand.stepped_over Operand.malformed
  sized_displacement i l = expression_alike (expression i l) (λ j m e. same_alike) refl

  with_registers_lem : (d : Displacement) (i l : ℕ) → Alike P at i l (Operand.with_registers s d) (Operand.with_registers t d)
  with_registers_lem d i l = bind_alike (base_and_index_registers Shapes.memory_indirect i l) λ j m z h. same_alike

  inner : (i l : ℕ) → Alike P at i l (Operand.parse_inner s) (Operand.parse_inner t)
  unfolding Operand.parse_inner Operand.inner_displaced
  inner i l =
      here_alike (peek_alike (λ k x. same_alike)
      (peek_same 0 (λ k x h. base_or_index_same i k x (sym (at_zero i) ∙ h)) (λ k x. with_registers_lem _ i l)
      (try_alike (sized_displacement i l) λ j m d. bump_alike (λ c x e q. with_registers_lem d _ _) same_alike)))

  outer_displacement_lem : (x : Option IndexRegister) (z i l : ℕ) → Alike P at i l (Operand.outer_displacement s x z) (Operand.outer_displacement t x z)
  outer_displacement_lem x z i l = bind_alike (sized_displacement i l) λ j m d h. same_alike

  outer_index_lem : (x : Option IndexRegister) (i l : ℕ) → Alike P at i l (Operand.outer_index s x) (Operand.outer_index t x)
  unfolding Operand.outer_index Operand.outer_indexed Operand.stepped_over Operand.malformed
  outer_index_lem (Some x) i l = same_alike
  outer_index_lem None i l = try_alike (index_register_lem Shapes.memory_indirect i l) λ j m x. bump_alike (λ c y e q. outer_displacement_lem _ 2 _ _) same_alike

  outer : (x : Option IndexRegister) (i l : ℕ) → Alike P at i l (Operand.parse_outer s x) (Operand.parse_outer t x)
  unfolding Operand.parse_outer
  outer x i l =
      bump_alike (λ c y e q. here_alike (peek_same 0 (λ k z h. index_same (i + 1) k z (sym (at_zero (i + 1)) ∙ h)) (λ k z. outer_index_lem x _ _) (outer_displacement_lem x 1 _ _)))
      same_alike

  memory_indirect_lem : (p : Token) (i l : ℕ) → Alike P at i l (Operand.parse_memory_indirect s p) (Operand.parse_memory_indirect t p)
  unfolding Operand.parse_memory_indirect Operand.expect_close Operand.unclosed
  memory_indirect_lem p i l =
      try_alike (inner i l) λ j m x. bump_alike (λ c y e q. try_alike (outer _ _ _) λ j₂ m₂ u. same_alike) same_alike

  -- ---- expressions

  finish : (e : Expr) (i l : ℕ) → Alike P at i l (Operand.finish_expression_operand s e) (Operand.finish_expression_operand t e)
  unfolding Operand.finish_expression_operand Operand.absolute_size
  finish e i l = size_alike (λ z w. refl) refl

  tail : (e : Expr) (i l : ℕ) (f g : Unit {0} → Reader (Option Operand)) → Alike P at i l (f tt) (g tt)
      → Alike P at i l (Operand.displacement_tail s e f) (Operand.displacement_tail t e g)
  unfolding Operand.displacement_tail
  tail e i l f g h = bump_alike (λ k x c q. base_and_index_lem k _ _ _) h

  expression_operand : (i l : ℕ) → Alike P at i l (Operand.parse_expression_operand s) (Operand.parse_expression_operand t)
  unfolding Operand.parse_expression_operand Operand.no_expression
  expression_operand i l = expression_alike (expression i l) (λ j m e. tail e j m _ _ (finish e j m)) refl

  -- ---- parentheses

  sized_base_lem : (p : Token) (e : Expr) (z : Suffix) (i l : ℕ) → Alike P at i l (Operand.sized_base s p e z) (Operand.sized_base t p e z)
  unfolding Operand.sized_base Operand.over
  sized_base_lem p e bare i l = bump_alike (λ k x h q. full_index_lem p _ _ _) (full_index_lem p _ _ _)
  sized_base_lem p e (suffixed z w) i l = bump_alike (λ k x h q. full_index_lem p _ _ _) (full_index_lem p _ _ _)

  after_expression_lem : (p : Token) (e : Expr) (i l : ℕ) → Alike P at i l (Operand.after_expression s p e) (Operand.after_expression t p e)
  unfolding Operand.after_expression
  after_expression_lem p e i l =
      bump_alike (λ c x h q. starts_a_full_index_lem _ _ _ _ _ _ (full_index_lem p _ _ _) (base_and_index_lem p _ _ _))
      (bump_alike (λ c x h q. tail e _ _ _ _ (bind_alike (expression-from _ _ _) λ j m y h₂. finish y j m))
      (peek_alike (λ k x. peek_alike (λ c y. bind_alike same_alike λ j m z h. sized_base_lem p e z j m) same_alike) same_alike))

  parenthesised : (p : Token) (i l : ℕ) → Alike P at i l (Operand.parenthesised s p) (Operand.parenthesised t p)
  unfolding Operand.parenthesised
  parenthesised p i l = expression_alike (expression i l) (λ j m e. after_expression_lem p e j m) refl

  parenthesised_operand : (p : Token) (i l : ℕ) → Alike P at i l (Operand.parse_parenthesised_operand s p) (Operand.parse_parenthesised_operand t p)
  unfolding Operand.parse_parenthesised_operand Operand.starts_a_base
  parenthesised_operand p i l =
      bump_alike (λ k x e q. memory_indirect_lem p _ _)
      (starts_a_full_index_lem i l _ _ _ _ (full_index_lem p _ i l)
      (peek_alike (λ k x. peek_alike (λ k x. peek_alike (λ k x. base_and_index_lem p _ i l) (parenthesised p i l)) (base_and_index_lem p _ i l))
      (parenthesised p i l)))

  -- ---- an operand

  pub operand_from_lem : (i l : ℕ) → Alike P at i l (Operand.operand_from s) (Operand.operand_from t)
  unfolding Operand.operand_from Operand.minus_operand Operand.name_or_expression
  operand_from_lem i l =
      peek_alike (λ k x. same_alike)
      (bump_alike (λ k x e q. immediate k _ _)
      (bump_alike (λ k x e q. parenthesised_operand k _ _)
      (peek_alike (λ k x. peek_alike (λ c y. peek_alike (λ d z. predecrement k c d z i l) (expression_operand i l)) (expression_operand i l))
      (bump_alike (λ k x e q. register_operand _ _ _) (bump_alike (λ k x e q. same_alike) (expression_operand i l))))))

-- the readings are the same, where all that the first one raises is of the sort
pub reading_alike : (P : Diagnostic → Type 0) (at : ℕ → Place) (limit limit' m n : ℕ) → ((i : ℕ) (k : Token) (x : List ℕ) → at i ≡ stands k x → eqb m i ≡ eqb n i)
    → ((i l : ℕ) → Alike P at i l (parse_expression limit) (parse_expression limit'))
    → ((e : Expr) (i l : ℕ) → Alike P at i l (expression_from limit e) (expression_from limit' e))
    → (i : ℕ) → Alike P at i 0 (Operand.parse_operand limit m) (Operand.parse_operand limit' n)
unfolding Operand.parse_operand
reading_alike P at limit limit' m n agree expression expression-from i =
    peek_alike (λ k x. operand_from_lem P at limit limit' k.start m n agree expression expression-from i 0) same_alike

-- refused alike and read alike, it has the same answer, and the same bytes in both stores
pub outcome_alike : (a : Input) (mark limit : ℕ) → refusal a ≡ refusal (with_setting a mark limit) → reading_at a ≡ reading_at (with_setting a mark limit)
    → outcome a ≡ outcome (with_setting a mark limit)
unfolding outcome outcome_of
outcome_alike a mark limit e f = go (refusal a) ∙ ap (outcome_of (with_setting a mark limit)) e
  where
    go : (k : ℕ) → outcome_of a k ≡ outcome_of (with_setting a mark limit) k
    go zero =
        ap (λ (r : Reading (Option Operand)). record { answer = answer_of a.layout r r.value; nodes = nodes_after a.layout r.value a.nodes; diagnostics = diagnostics_after a.layout r a.used a.diagnostics }) f
    go (suc k) = refl
