-- What the proofs of the functions of memory indirect operands share.
-- Assumes nothing.
use mathlib.Core.Path.{◌≡◌, refl, sym, ◌∙◌, ap, ap₂, subst}
use mathlib.Core.Bool.{true, false}
use mathlib.Core.List.{List, [], ◌++◌, append-nil}
use Prim.Native.Nat.{ℕ, ◌+◌, ◌-◌, ◌*◌}
use native.Mathlib.Omega.{arith}
use lib.ListN.{length, take}
use Rattle.names.specs.Places.{place}
use Rattle.names.specs.declared.tokens.Token.{Token}
use Rattle.records.specs.Problems
use Rattle.records.specs.Shapes
use Rattle.records.specs.declared.counters.Counters.{Counters}
use Rattle.records.specs.declared.spans.Span.{Span}
use Rattle.expressions.specs.declared.reading.Setting.{Setting}
use Rattle.expressions.specs.Expressions.{take_size_suffix}
use Rattle.expressions.proofs.Costs.{all_clean, true_false}
use Rattle.expressions.specs.Reader.{Reader, answer, here, peek, run, ◌>>=◌}
use Rattle.expressions.specs.Laws as laws
use Rattle.expressions.specs.Laws.{Law, law_run, holds}
use Rattle.expressions.specs.Trees.{Expr, span_e}
use Rattle.operand.specs.Operands.{Displacement, displaced, undisplaced}
use Rattle.operand.specs.Operands as O
use Rattle.operand.specs.Operand.{◌>>=?◌, an_index, stepped_over, parse_index_register, outer_indexed, outer_index, sized, parse_sized_displacement, Inner, Outer, inner, outer, parse_inner, parse_outer, close_indirect}
use Rattle.operand.specs.Records.{size_d, nodes_d, size_o, nodes_o}
use Rattle.operand.specs.Forms.{sized_of, record_of}
use Rattle.records.specs.Rooms.{Room, NodeRoom}
use Rattle.expressions.specs.Told.{Told, Same}
use Rattle.operand_code.specs.Operands.{HeldBy, Stored}
use Rattle.operand.proofs.Costs.{Left}
use Rattle.operand.proofs.Costs as cost
use Rattle.operand_code.specs.Memory.{indirect_record, StoredD, StoredPart, SizedTold, DisplacementTold, inner_of, inner_d, InnerTold, outer_of, outer_d, OuterTold, StoredBoth, ClosedTold}
use Rattle.operand.specs.declared.forms.Registers.{Registers}
use Rattle.operand.specs.declared.forms.IndexRegister.{IndexRegister}
use Rattle.operand_code.specs.declared.memory_inner.InnerPart.{InnerPart}
use Rattle.operand_code.specs.declared.memory_outer.OuterPart.{OuterPart}
use Rattle.expressions.specs.Paths.{held_as, answered, hereby, passed, unseen}
use Rattle.operand_code.proofs.Rooms.{left_room}
use Rattle.operand_code.proofs.expressed.Trees.{TreeRead}
use Rattle.std.specs.Prelude.{Option, Some, None, is_some, option_map}
use Rattle.operand.specs.declared.forms.OperandRecord.{OperandRecord}
use Rattle.operand.specs.declared.forms.Sized.{Sized}

-- ---- nodes

-- no displacement has none
pub stored_none : (N : List ℕ) (c : Counters) → StoredD N N c.nodes undisplaced c
unfolding nodes_d size_d
stored_none N c = record { bytes = sym (append-nil _); total = omega arith }

-- no node more
pub stored_on : {N N' : List ℕ} {n : ℕ} {y : Displacement} {c c₁ : Counters} → StoredD N N' n y c → c₁.nodes ≡ c.nodes → StoredD N N' n y c₁
stored_on {N' = N'} st h = record { bytes = ap (λ m. take (10 * m) N') h ∙ st.bytes; total = h ∙ st.total }

-- from the first on, whatever the store held before
pub stored_first : {N N' : List ℕ} {n : ℕ} {y : Displacement} {c : Counters} → n ≡ 0 → StoredD N N' n y c → StoredD [] N' 0 y c
stored_first {N} {N'} {y = y} {c = c} e st =
    let g : StoredD N N' 0 y c = subst (λ m. StoredD N N' m y c) e st in
    record { bytes = g.bytes; total = g.total }

-- ---- room

-- behind a reader that has answered a displacement, or what holds one
part_room : {A B : Type 0} {f : Option A → B} {p : Reader (Option A)} {L T N D N₁ D₁ : List ℕ} {c : Counters} {v : B} {c₁ : Counters} (g : A → Displacement) (least far : ℕ) {x : A}
    → Law p (place L T) (Left (place L T) 0 (all_clean (place L T)) (λ z. size_d (g z)) least 0 far c.at 0 0) c.at c.end 0 0
    → (run p (place L T) c.at c.end).value ≡ Some x → NodeRoom T N c 0 0 1 → Told f (StoredPart g N N₁ c.nodes) p L T D D₁ c v c₁ → length N₁ ≡ length N → NodeRoom T N₁ c₁ 0 0 1
part_room g least far law w h t n =
    let q = rw w at (law_run law) in
    record {
      room = left_room (λ z. size_d (g z)) least 0 far law w h.room t;
      nodes_fit = omega (arith, q.1, (held_as t w).total, t.at, h.nodes_fit);
      nodes_long = omega (arith, q.1, (held_as t w).total, t.at, h.nodes_long);
    }

pub displacement_room : (s : Setting) {L T N D N₁ D₁ : List ℕ} {c : Counters} {v : Option (Option Sized)} {r : Counters} {y : Displacement} → NodeRoom T N c 0 0 1 → DisplacementTold (parse_sized_displacement s) L T N D N₁ D₁ c v r
    → (run (parse_sized_displacement s) (place L T) c.at c.end).value ≡ Some y → length N₁ ≡ length N → NodeRoom T N₁ r 0 0 1
displacement_room s {L} {T} {c = c} h t w n = part_room (λ y. y) 0 0 (cost.displacement_cost (place L T) 0 (all_clean (place L T)) s c.at c.end 0 0) w h t.told n

pub inner_room : (s : Setting) {L T N D N₁ D₁ : List ℕ} {c : Counters} {v : Option InnerPart} {r : Counters} {x : Inner} → NodeRoom T N c 0 0 1 → InnerTold (parse_inner s) L T N D N₁ D₁ c v r
    → (run (parse_inner s) (place L T) c.at c.end).value ≡ Some x → length N₁ ≡ length N → NodeRoom T N₁ r 0 0 1
inner_room s {L} {T} {c = c} h t w n = part_room inner_d 0 1 (cost.inner_cost (place L T) 0 (all_clean (place L T)) s c.at c.end 0 0) w h t.told n

pub outer_room : (s : Setting) (i : Option IndexRegister) {L T N D N₁ D₁ : List ℕ} {c : Counters} {v : Option OuterPart} {r : Counters} {x : Outer} → NodeRoom T N c 0 0 1 → OuterTold (parse_outer s i) L T N D N₁ D₁ c v r
    → (run (parse_outer s i) (place L T) c.at c.end).value ≡ Some x → length N₁ ≡ length N → NodeRoom T N₁ r 0 0 1
outer_room s i {L} {T} {c = c} h t w n = part_room outer_d 0 0 (cost.outer_cost (place L T) 0 (all_clean (place L T)) s i c.at c.end 0 0) w h t.told n

-- behind a reader that has written no node
pub same_room : {A B : Type 0} {f : A → B} {p : Reader A} {L T N D D₁ : List ℕ} {c : Counters} {v : B} {c₁ : Counters} → NodeRoom T N c 0 0 1 → Told f (Same c.nodes) p L T D D₁ c v c₁ → Room T c₁ 0 1 → NodeRoom T N c₁ 0 0 1
same_room {p = p} {L = L} {T = T} {c = c} h t q = record {
  room = q;
  nodes_fit = omega (arith, h.nodes_fit, t.held, t.at, laws.forward p (place L T) c.at c.end);
  nodes_long = omega (arith, h.nodes_long, t.held, t.at, laws.forward p (place L T) c.at c.end);
}

-- ---- a displacement

-- the tree e of the last records, with a size
pub sized_told : (e : Expr) (k : ℕ) {L T D N N' : List ℕ} {n : ℕ} {c c₁ : Counters} {s : ℕ} → StoredD N N' n (displaced e 0) c → c₁.nodes ≡ c.nodes
    → s ≡ k → Told (option_map (sized_of n)) (StoredPart (λ y. y) N N' n) (answer (Some (displaced e k))) L T D D c₁ (Some (Some (record { node = c₁.nodes - 1; size = s }))) c₁
unfolding sized_of size_d nodes_d
sized_told e k {N' = N'} st h w =
    answered (ap₂ (λ m z. Some (Some (record { node = m - 1; size = z }))) (h ∙ st.total) w) refl
    (record { bytes = ap (λ m. take (10 * m) N') h ∙ st.bytes; total = h ∙ st.total })

-- behind a tree that was read
pub displacement_read_lem : {L T N D N₁ D₁ D₂ : List ℕ} {c : Counters} {limit : ℕ} {s : Span} {c₁ : Counters} {v : Option (Option Sized)} {r : Counters} (k : TreeRead L T N D N₁ D₁ c limit s c₁) → SizedTold s L T D₁ D₂ c₁ v r
    → Told (option_map (sized_of c.nodes)) (StoredPart (λ y. y) N N₁ c.nodes) (take_size_suffix (span_e k.tree).start >>= sized k.tree) L T D₁ D₂ c₁ v r
unfolding size_d nodes_d
displacement_read_lem {L} {T} {N} {D} {N₁} {D₁} {D₂} {c} {c₁ = c₁} {v = v} {r = r} k h =
    let g : SizedTold (span_e k.tree) L T D₁ D₂ c₁ v r = subst (λ z. SizedTold z L T D₁ D₂ c₁ v r) k.span h in
    g.told N N₁ c.nodes k.tree (record { bytes = k.bytes; total = k.total })

-- ---- between the brackets

pub inner_answered : (x : Registers) (y : Displacement) {d : Option Sized} {N N' : List ℕ} {n : ℕ} {L T D : List ℕ} {c : Counters} {v : Option InnerPart} {r : Counters}
    → sized_of n y ≡ d → v ≡ Some (record { displacement = d; registers = x }) → r ≡ c → StoredD N N' n y c
    → Told (option_map (inner_of n)) (StoredPart inner_d N N' n) (answer (Some (inner y x))) L T D D c v r
unfolding inner_of
inner_answered x y e w u st = answered (w ∙ ap (λ z. Some (record { displacement = z; registers = x })) (sym e)) u st

-- ---- behind the brackets

pub outer_answered : (x : Option IndexRegister) (i : ℕ) (y : Displacement) {d : Option Sized} {N N' : List ℕ} {n : ℕ} {L T D : List ℕ} {c : Counters} {v : Option OuterPart} {r : Counters}
    → sized_of n y ≡ d → v ≡ Some (record { index = x; indirection = i; displacement = d }) → r ≡ c → StoredD N N' n y c
    → Told (option_map (outer_of n)) (StoredPart outer_d N N' n) (answer (Some (outer x i y))) L T D D c v r
unfolding outer_of
outer_answered x i y e w u st = answered (w ∙ ap (λ z. Some (record { index = x; indirection = i; displacement = z })) (sym e)) u st

-- from counters that count n nodes
pub outer_from : {p : Reader (Option Outer)} {L T N D N' D' : List ℕ} {c : Counters} {v : Option OuterPart} {r : Counters} {n : ℕ} → c.nodes ≡ n → OuterTold p L T N D N' D' c v r → Told (option_map (outer_of n)) (StoredPart outer_d N N' n) p L T D D' c v r
outer_from {p} {L} {T} {N} {D} {N'} {D'} {c} {v} {r} e h = subst (λ n. Told (option_map (outer_of n)) (StoredPart outer_d N N' n) p L T D D' c v r) e h.told

-- an index, where there is one between the brackets and where there is none
module _ {E : Type 0} {f : Option Outer → E} {Q : Option Outer → Counters → Type 0} (s : Setting) {L T D D' : List ℕ} {c : Counters} {v : E} {r : Counters} where
  pub outer_twice : (i : Option IndexRegister) → is_some i ≡ true → Told f Q (stepped_over s Shapes.memory_indirect Problems.index_twice) L T D D' c v r → Told f Q (outer_index s i) L T D D' c v r
  unfolding outer_index
  outer_twice (Some x) e h = h
  outer_twice None e h = absurd (true_false (sym e))

  pub outer_once : (i : Option IndexRegister) → is_some i ≡ false → Told f Q (parse_index_register s Shapes.memory_indirect >>=? outer_indexed s) L T D D' c v r → Told f Q (outer_index s i) L T D D' c v r
  unfolding outer_index
  outer_once (Some x) e h = absurd (true_false e)
  outer_once None e h = h

-- an index stands at the cursor, or none
abbrev maybe_index : Setting → Reader (Option Outer) → Reader (Option Outer) → Reader (Option Outer)
maybe_index s p q = here λ i l. peek 0 (an_index s i) (λ t z. p) λ u. q

module _ (s : Setting) (p q : Reader (Option Outer)) {L T N D N' D' : List ℕ} {c : Counters} {v : Option OuterPart} {r : Counters} where
  pub outer_index_here : holds (an_index s c.at) (place L T c.at) ≡ true → OuterTold p L T N D N' D' c v r → OuterTold (maybe_index s p q) L T N D N' D' c v r
  outer_index_here e h = record { told = hereby (passed (subst (λ j. holds (an_index s c.at) (place L T j) ≡ true) (omega arith) e) (λ k x. h.told)) }

  pub outer_no_index : holds (an_index s c.at) (place L T c.at) ≡ false → OuterTold q L T N D N' D' c v r → OuterTold (maybe_index s p q) L T N D N' D' c v r
  outer_no_index e h = record { told = hereby (unseen (subst (λ j. holds (an_index s c.at) (place L T j) ≡ false) (omega arith) e) h.told) }

-- behind the inner part x
pub outer_of_lem : (s : Setting) (x : Inner) {n : InnerPart} {L T N D N' D' : List ℕ} {c : Counters} {v : Option OuterPart} {r : Counters} → inner_of 0 x ≡ n
    → OuterTold (parse_outer s n.registers.index) L T N D N' D' c v r → OuterTold (parse_outer s x.registers.index) L T N D N' D' c v r
unfolding inner_of
outer_of_lem s x {n} {L} {T} {N} {D} {N'} {D'} {c} {v} {r} e h = subst (λ (z : InnerPart). OuterTold (parse_outer s z.registers.index) L T N D N' D' c v r) (sym e) h

-- ---- the operand

-- the parenthesis closes at the end of the span
pub operand_closed : {L T N D : List ℕ} {c c₁ : Counters} {n : InnerPart} {u : OuterPart} {s z : Span} {o : OperandRecord} (x : Inner) (y : Outer) → inner_of 0 x ≡ n
    → outer_of (size_d x.displacement) y ≡ u → StoredBoth N x.displacement y.displacement c → c₁.nodes ≡ c.nodes
    → s ≡ z → o ≡ indirect_record s.start s.end n u
    → Told (option_map record_of) (Stored N) (answer (Some (O.full_index x.displacement x.registers.base y.index y.indirection y.displacement z))) L T D D c₁ (Some o) c₁
unfolding record_of HeldBy nodes_o size_o inner_of outer_of
operand_closed {N = N} {n = n} {u = u} {s = s} {z = z} x y a b st h e w =
    answered (ap Some (w ∙ rw (e, sym a, sym b))) refl
    (sym (ap (λ m. take (10 * m) N) h ∙ st.bytes), sym (h ∙ st.total))

-- both displacements
stored_both : {N N' : List ℕ} {d e : Displacement} {c c₁ : Counters} → StoredD [] N 0 d c → StoredD N N' c.nodes e c₁ → StoredBoth N' d e c₁
stored_both {d = d} {e = e} {c = c} h g =
    let q : c.nodes ≡ size_d d = omega (arith, h.total) in
    record { bytes = g.bytes ∙ ap₂ (λ x y. x ++ nodes_d y e) h.bytes q; total = g.total ∙ ap (λ x. x + size_d e) q }

-- behind both parts
pub operand_behind : (x : Inner) (y : Outer) {s : Setting} {k : Token} {n : InnerPart} {u : OuterPart} {L T N N' D D' : List ℕ} {c c₁ : Counters} {v : Option OperandRecord} {r : Counters} → inner_of 0 x ≡ n → outer_of c.nodes y ≡ u
    → StoredD [] N 0 x.displacement c → StoredD N N' c.nodes y.displacement c₁ → ClosedTold s k L T D D' c₁ n u v r
    → Told (option_map record_of) (Stored N') (close_indirect s k x y) L T D D' c₁ v r
operand_behind x y {N' = N'} {c = c} a b st g h =
    let q : size_d x.displacement ≡ c.nodes = omega (arith, st.total) in
    h.told N' x y a (ap (λ m. outer_of m y) q ∙ b) (stored_both st g)
