-- Every spelling that is closed is read as its operand, up to its end, with no diagnostic.
-- Assumes nothing.
use Rattle.std.specs.Prelude.{◌≡◌, false, List, [], ℕ, ◌+◌, ◌≤◌, ◌<◌, eqb, Option, Some}
use Rattle.std.proofs.Math.Path.{refl}
use Rattle.std.proofs.Common.{sym, ◌∙◌, arith}
use Rattle.std.proofs.Math.Logic.{inl, inr}
use Rattle.std.proofs.lemmas.Bool.{cases_Bool}
use borrow.Author.Tests.{eqb-true, ne_eqb, le-leb, lt-leb}
use Rattle.names.specs.Choice.{pick, either}
use Rattle.names.specs.Kinds
use Rattle.names.specs.Places.{Place, nothing, stands}
use Rattle.names.specs.Cases.{special_number}
use Rattle.names.specs.Registers.{special_of}
use Rattle.names.specs.declared.tokens.Token.{Token}
use Rattle.names.specs.declared.registers.SpecialRegister.{SpecialRegister}
use Rattle.records.specs.Shapes
use Rattle.records.specs.Spans.{span, span_of}
use Rattle.expressions.specs.Trees.{Expr, span_e}
use Rattle.expressions.specs.declared.reading.Setting.{Setting}
use Rattle.expressions.specs.Reader.{is}
use Rattle.expressions.specs.Expressions.{precedence, fuel, expression_from}
use Rattle.expressions.specs.Laws.{holds}
use Rattle.expressions.proofs.Costs.{true_false}
use Rattle.operand.specs.Operands.{Displacement, displaced, undisplaced, RegisterListItem, Operand}
use Rattle.operand.specs.Operands as O
use Rattle.operand.specs.Operand
use Rattle.operand.specs.Operand.{is_address, a_register, an_address_register, a_program_counter, operand_from}
use Rattle.operand.specs.declared.forms.Register.{Register}
use Rattle.operand.specs.declared.forms.IndexRegister.{IndexRegister}
use Rattle.operand.specs.declared.forms.BaseRegister.{BaseRegister}
use Rattle.operand.specs.declared.forms.Registers.{Registers}
use Rattle.spelling.specs.Signs.{Sign, Name, RegisterAt, register_spelled, CounterAt, ordinary}
use Rattle.spelling.specs.Spelling
use Rattle.spelling.specs.Spelling.{Closed, Letter, Sized, no_size, a_size, AddressAt, an_address, Indexes, BaseAndIndex, Full, Expression, Opening, Inside, Behind, Items, last, more, a_single, a_range, Spelling}
use Rattle.spelling.proofs.Readings.{Reads, answers, then, steps, passes, sees, misses, comes, other, kinded, same_sign}
use Rattle.spelling.proofs.Climbs.{Ends, ends_by, leads, climb_stop, First, a_term, the_own, expression_read, looser}
use Rattle.spelling.proofs.Names
use Rattle.spelling.proofs.Looks.{held, looks_register, looks_counter, starts, stops_close, stops_comma, stops_closed, closed_kind, closed_fails}
use Rattle.spelling.proofs.Parts.{letter_read, no_letter, registered, index_read_lem, bases_read, begun, Seen}
use Rattle.spelling.proofs.Inner.{ordinary_free, letter_ends, behind_own, inside_read, inside_rises, behind_read, first_at, items_read}
use Rattle.spelling.proofs.Openings.{BaseLike, address, counter, Shut, no_full, no_start, base_not_full, base_starts_lem, full_starts, full_bases}
use Rattle.spelling.proofs.Beginnings.{begins_group, begins_name, begins_expression}

-- a list of more than one register has a sign behind the first
second : {s : Setting} {at : ℕ → Place} {i j e : ℕ} {xs : List RegisterListItem} → Items s at i j xs e → i + 1 < j
    → Seen at (λ k y. either (eqb k.kind Kinds.minus) (eqb k.kind Kinds.slash)) (i + 1)
second (last (a_single p)) long = absurd (omega arith)
second (last (a_range p m q low)) long = record { token = m.token; text = m.text; there = m.there; passed = rw m.of refl }
second (more (a_single p) k h) long = record { token = k.token; text = k.text; there = k.there; passed = rw k.of refl }
second (more (a_range p m q low) k h) long = record { token = m.token; text = m.text; there = m.there; passed = rw m.of refl }

module _ (s : Setting) (at : ℕ → Place) (count : ℕ) (ends : (j : ℕ) (k : Token) (x : List ℕ) → at j ≡ stands k x → j < count) (few : count ≤ fuel) (own : ℕ) where
  abbrev Plain : ℕ → ℕ → Expr → Type 0
  Plain i j e = Expression s at (ordinary s.mark) own i j e

  -- ---- 1: immediate

  immediate_read : {j l : ℕ} {y : Operand} {e : Expr} (t : Sign at Kinds.hash own) → Plain (own + 1) j e → Ends at 1 j → {n : ℕ}
      → ((l : ℕ) → Reads (Operand.sized_immediate s t.token e) at j l n (Some y)) → Reads (operand_from s) at own l n (Some y)
  unfolding operand_from Operand.parse_immediate Operand.or_absent
  immediate_read t h stop g =
      misses (omega arith) (other t Kinds.comma refl) (steps t.there (kinded t Kinds.hash refl) (then (behind_own s at count ends few own h (omega arith) stop _) g))

  -- ---- 2, 3: a register

  direct_read : {l : ℕ} {r : Register} → RegisterAt at own r → Closed at (own + 1) → Reads (operand_from s) at own l (own + 1) (Some (Operand.register_direct r r.span))
  unfolding Operand.name_or_expression Operand.parse_register_operand
  direct_read (register_spelled {r = r} t q) c =
      begins_name s at own t (steps t.there (held a_register t (looks_register {s = s} (register_spelled t q)).registers)
      (misses (omega arith) (closed_fails (λ k y. either (eqb k.kind Kinds.minus) (eqb k.kind Kinds.slash)) (λ k x e. rw e refl) (λ k x e. rw e refl) c)
      (rw (registered t.token t.text r q) answers)))

  -- ---- behind the base: 5, 6, 8 to 11, and an index that is suppressed

  address_like : {i : ℕ} {r : Register} → AddressAt at i r → BaseLike s at i
  address_like (an_address (register_spelled t q) low) = address t (looks_register (register_spelled t q)) low

  counter_like : {i : ℕ} → CounterAt at i → BaseLike s at i
  counter_like c = counter c.name (looks_counter c)

  shut_close : {i : ℕ} → Sign at Kinds.right_paren i → Shut at i
  shut_close t = record { kind = Kinds.right_paren; sign = t; attached = refl; shuts = refl }

  shut_comma : {i : ℕ} → Sign at Kinds.comma i → Shut at i
  shut_comma t = record { kind = Kinds.comma; sign = t; attached = refl; shuts = refl }

  abbrev BaseRead : ℕ → ℕ → Displacement → Operand → Type 0
  BaseRead i j d y = (k : Token) (l : ℕ) → Reads (Operand.parse_base_and_index s k d) at i l j (Some y)

  base_unbracketed : {i : ℕ} → BaseLike s at i → holds (is Kinds.left_bracket) (at i) ≡ false
  base_unbracketed (address t k low) = other t Kinds.left_bracket refl
  base_unbracketed (counter t k) = other t Kinds.left_bracket refl

  paren_ends : {i : ℕ} → Sign at Kinds.left_paren i → Ends at 1 i
  unfolding precedence
  paren_ends t = ends_by 1 t (omega arith)

  -- a parenthesis and an expression
  expression_opens : (k : Token) {i j : ℕ} {y : Operand} {e : Expr} → Plain (own + 1) i e → (l : ℕ) → Reads (Operand.parenthesised s k) at (own + 1) l j (Some y)
      → Reads (Operand.parse_parenthesised_operand s k) at (own + 1) l j (Some y)
  unfolding Operand.parse_parenthesised_operand
  expression_opens k e l h = let b = starts e in passes (other b.sign Kinds.left_bracket b.left_bracket) (no_full s _ _ b.looks (no_start s _ _ b.looks h))

  -- the way to the base
  opening_read : {i j l : ℕ} {d : Displacement} {y : Operand} → Opening s at (ordinary s.mark) own i d → BaseLike s at i → Shut at (i + 1) → BaseRead i j d y
      → Reads (operand_from s) at own l j (Some y)
  unfolding Operand.parse_parenthesised_operand Operand.parenthesised Operand.or_absent Operand.after_expression Operand.displacement_tail Operand.parse_expression_operand
  opening_read (Spelling.alone t) b c g =
      begins_group s at own t λ l. passes (base_unbracketed b) (base_not_full s _ _ b c (base_starts_lem s _ _ b c (g t.token l)))
  opening_read (Spelling.displacing (Spelling.inside t e k)) b c g =
      begins_group s at own t λ l. expression_opens t.token e l (then (behind_own s at count ends few own e (omega arith) (stops_comma k).level l) λ l₂.
      steps k.there (kinded k Kinds.comma refl) (base_not_full s _ _ b c (g t.token _)))
  opening_read (Spelling.displacing (Spelling.before (Spelling.group t e k) p)) b c g =
      begins_group s at own t λ l. expression_opens t.token e l (then (behind_own s at count ends few own e (omega arith) (stops_close k).level l) λ l₂.
      passes (other k Kinds.comma refl) (steps k.there (kinded k Kinds.right_paren refl) (steps p.there (kinded p Kinds.left_paren refl) (g p.token _))))
  opening_read (Spelling.displacing (Spelling.before (Spelling.bare {k = n} t q e) p)) b c g =
      begins_expression s at own e (other t Kinds.left_paren (ne_eqb n Kinds.left_paren q))
      (then (expression_read at count ends few own (ordinary s.mark) (ordinary_free s.mark) e (omega arith) (λ z u. q (same_sign t u)) (paren_ends p) _) λ l₂.
      steps p.there (kinded p Kinds.left_paren refl) (g p.token _))

  expect : {i l : ℕ} (k : Token) (shape : ℕ) (c : Sign at Kinds.right_paren i) → Reads (Operand.expect_close s k shape) at i l (i + 1) (Some c.token.end)
  unfolding Operand.expect_close
  expect k shape c = steps c.there (kinded c Kinds.right_paren refl) answers

  address_base_lem : {i j : ℕ} {r : Register} (d : Displacement) {y : Operand} → AddressAt at i r
      → ((k : Token) (l : ℕ) → Reads (Operand.after_base s k d r) at (i + 1) l j (Some y)) → BaseRead i j d y
  unfolding Operand.parse_base_and_index is_address
  address_base_lem d (an_address (register_spelled {r = r} t q) low) h k l =
      steps t.there (held an_address_register t ((looks_register {s = s} (register_spelled t q)).addresses ∙ le-leb 8 r low)) (rw (registered t.token t.text r q) (h k _))

  counter_base : {i j : ℕ} (d : Displacement) {y : Operand} → CounterAt at i
      → ((k : Token) (l : ℕ) → Reads (Operand.after_counter s k d) at (i + 1) l j (Some y)) → BaseRead i j d y
  unfolding Operand.parse_base_and_index is_address
  counter_base d c h k l =
      let z = looks_counter {s = s} c in
      passes z.addresses (steps c.name.there (held a_program_counter c.name z.counters) (h k _))

  -- `,X)`
  address_index : {i n : ℕ} (r : Register) (d : Displacement) {x : IndexRegister} {y : Operand} → Sign at Kinds.comma i → Indexes s at (i + 1) n x → (c : Sign at Kinds.right_paren n)
      → pick x.suppressed (O.full_index d (BaseRegister.Address r) (Some x) 0 undisplaced (span s.start c.token.end)) (O.index d r x (span s.start c.token.end)) ≡ y
      → (k : Token) (l : ℕ) → Reads (Operand.after_base s k d r) at i l (n + 1) (Some y)
  unfolding Operand.after_base Operand.or_none Operand.indexed_operand
  address_index r d m x c e k l =
      passes (other m Kinds.right_paren refl) (steps m.there (kinded m Kinds.comma refl) (then (index_read_lem x (stops_close c) Shapes.index _)
      λ l₂. then (expect k Shapes.index c) λ l₃. rw e answers))

  counter_index : {i n : ℕ} (d : Displacement) {x : IndexRegister} {y : Operand} → Sign at Kinds.comma i → Indexes s at (i + 1) n x → (c : Sign at Kinds.right_paren n)
      → pick x.suppressed (O.full_index d BaseRegister.ProgramCounter (Some x) 0 undisplaced (span s.start c.token.end)) (O.pc_index d x (span s.start c.token.end)) ≡ y
      → (k : Token) (l : ℕ) → Reads (Operand.after_counter s k d) at i l (n + 1) (Some y)
  unfolding Operand.after_counter Operand.or_none Operand.indexed_operand
  counter_index d m x c e k l =
      passes (other m Kinds.right_paren refl) (steps m.there (kinded m Kinds.comma refl) (then (index_read_lem x (stops_close c) Shapes.pc_index _)
      λ l₂. then (expect k Shapes.pc_index c) λ l₃. rw e answers))

  -- ---- 12: full

  full_read : {i n : ℕ} {r : Registers} (k : Token) (d : Displacement) → BaseAndIndex s at i n r → (c : Sign at Kinds.right_paren n) → (l : ℕ)
      → Reads (Operand.parse_full_index s k d) at i l (n + 1) (Some (O.full_index d r.base r.index 0 undisplaced (span s.start c.token.end)))
  unfolding Operand.parse_full_index Operand.or_none
  full_read k d b c l = then (bases_read Shapes.index b (stops_close c) (other c Kinds.comma refl) l) λ l₂. then (expect k Shapes.index c) λ l₃. answers

  -- ---- 13: absolute

  absolute_ends : {j n size z b : ℕ} → Sized at b j n size z → Closed at n → Ends at 1 j
  absolute_ends no_size c = (stops_closed c).level
  absolute_ends (a_size t) c = letter_ends t

  absolute_open : {j n size z b : ℕ} → Sized at b j n size z → Closed at n → holds (is Kinds.left_paren) (at j) ≡ false
  absolute_open no_size c = (stops_closed c).parenthesis
  absolute_open (a_size t) c = other t.sign Kinds.left_paren refl

  finish_read : {j n size : ℕ} (e : Expr) {z : ℕ} → Sized at (span_e e).end j n size z → Closed at n → (l : ℕ)
      → Reads (Operand.finish_expression_operand s e) at j l n (Some (O.absolute e size (span s.start z)))
  unfolding Operand.finish_expression_operand Operand.absolute_size
  finish_read e no_size c l = then (no_letter _ _ (stops_closed c).size) λ l₂. answers
  finish_read e (a_size t) c l = then (letter_read _ _ t) λ l₂. answers

  absolute_bare : {j n size z l : ℕ} {e : Expr} → Plain own j e → Sized at (span_e e).end j n size z → Closed at n → holds (is Kinds.left_paren) (at own) ≡ false
      → Reads (operand_from s) at own l n (Some (O.absolute e size (span s.start z)))
  unfolding Operand.parse_expression_operand Operand.or_absent Operand.displacement_tail
  absolute_bare {e = e} h sz c p =
      begins_expression s at own h p (then (expression_read at count ends few own (ordinary s.mark) (ordinary_free s.mark) h (omega arith) (λ z t. true_false (sym (comes (is Kinds.left_paren) t (kinded t Kinds.left_paren refl)) ∙ p)) (absolute_ends sz c) _)
      λ l₂. passes (absolute_open sz c) (finish_read e sz c l₂))

  -- from the operand's own group on
  grouped_from : {start e : Expr} {mid j n size z l : ℕ} → First at count ends few own (ordinary s.mark) s.limit own mid start → Sign at Kinds.left_paren own
      → holds (is Kinds.left_paren) (at mid) ≡ false → ((l : ℕ) → Reads (expression_from s.limit start) at mid l j e) → Sized at (span_e e).end j n size z → Closed at n
      → Reads (operand_from s) at own l n (Some (O.absolute e size (span s.start z)))
  unfolding Operand.parenthesised Operand.or_absent Operand.after_expression Operand.displacement_tail
  grouped_from (a_term b h) p unopened on sz c = absurd (b refl p)
  grouped_from {e = e} (the_own q m t h r k) p unopened on sz c =
      begins_group s at own t λ l. expression_opens t.token h l (then (r l) λ l₂.
      passes (other k Kinds.comma refl) (steps k.there (kinded k Kinds.right_paren refl) (passes (rw m at unopened) (then ((rw m at on) _) λ l₃. finish_read e sz c l₃))))

  absolute_grouped : {j n size z l : ℕ} {e : Expr} → Plain own j e → Sized at (span_e e).end j n size z → Closed at n → Sign at Kinds.left_paren own
      → Reads (operand_from s) at own l n (Some (O.absolute e size (span s.start z)))
  unfolding expression_from
  absolute_grouped {j} {n} {size} {z} {l} {e} h sz c p =
      let g = leads at count ends few own (ordinary s.mark) (ordinary_free s.mark) h (omega arith) (looser (omega arith) (absolute_ends sz c)) in
      grouped_from g.first p (elim g.next [ inl q ↦ rw q (absolute_open sz c) | inr q ↦ q ])
      (g.climbs 1 j e (omega arith) λ l. climb_stop at count ends few own (ordinary s.mark) fuel s.limit 1 j l e (absolute_ends sz c)) sz c

  -- ---- the cases one by one

  direct_data : (r : Register) → r.index < 8 → Operand.register_direct r r.span ≡ O.data_register_direct r r.span
  unfolding Operand.register_direct
  direct_data r h = rw (lt-leb 8 r.index h)

  direct_address : (r : Register) → 8 ≤ r.index → Operand.register_direct r r.span ≡ O.address_register_direct r r.span
  unfolding Operand.register_direct
  direct_address r h = rw (le-leb 8 r.index h)

  special_read : {r : SpecialRegister} {l : ℕ} (t : Name at own) → special_of t.text ≡ Some r
      → Reads (operand_from s) at own l (own + 1) (Some (O.special_register (special_number (Some r)) (span_of t.token)))
  unfolding Operand.name_or_expression Operand.special_index a_register
  special_read {r} t q =
      begins_name s at own t (passes (comes a_register t (rw t.of (Names.special_unregistered t.text r q))) (steps t.there (rw (t.of, q) refl) (rw q answers)))

  indirect_closed : {i : ℕ} {r : Register} (c : Sign at Kinds.right_paren i) → Closed at (i + 1) → (k : Token) (l : ℕ)
      → Reads (Operand.after_base s k undisplaced r) at i l (i + 1) (Some (O.indirect r (span s.start c.token.end)))
  unfolding Operand.after_base Operand.closed_base
  indirect_closed c e k l = steps c.there (kinded c Kinds.right_paren refl) (passes (closed_kind Kinds.plus refl refl e) answers)

  postincrement_closed : {i : ℕ} {r : Register} → Sign at Kinds.right_paren i → (p : Sign at Kinds.plus (i + 1)) → (k : Token) (l : ℕ)
      → Reads (Operand.after_base s k undisplaced r) at i l (i + 1 + 1) (Some (O.postincrement r (span s.start p.token.end)))
  unfolding Operand.after_base Operand.closed_base
  postincrement_closed c p k l = steps c.there (kinded c Kinds.right_paren refl) (steps p.there (kinded p Kinds.plus refl) answers)

  displacement_closed : {i : ℕ} {e : Expr} {r : Register} (c : Sign at Kinds.right_paren i) → (k : Token) (l : ℕ)
      → Reads (Operand.after_base s k (displaced e 0) r) at i l (i + 1) (Some (O.displacement e r (span s.start c.token.end)))
  unfolding Operand.after_base Operand.closed_base
  displacement_closed c k l = steps c.there (kinded c Kinds.right_paren refl) answers

  counter_closed : {i : ℕ} {e : Expr} (c : Sign at Kinds.right_paren i) → (k : Token) (l : ℕ)
      → Reads (Operand.after_counter s k (displaced e 0)) at i l (i + 1) (Some (O.pc_displacement e (span s.start c.token.end)))
  unfolding Operand.after_counter Operand.closed_counter
  counter_closed c k l = steps c.there (kinded c Kinds.right_paren refl) answers

  predecrement_read : {l : ℕ} {r : Register} (m : Sign at Kinds.minus own) → Sign at Kinds.left_paren (own + 1) → AddressAt at (own + 1 + 1) r
      → (c : Sign at Kinds.right_paren (own + 1 + 1 + 1)) → Reads (operand_from s) at own l (own + 1 + 1 + 1 + 1) (Some (O.predecrement r (span m.token.start c.token.end)))
  unfolding operand_from Operand.minus_operand Operand.parse_predecrement Operand.over Operand.predecrement_close Operand.or_none
  predecrement_read m t (an_address (register_spelled {r = r} p q) low) c =
      misses (omega arith) (other m Kinds.comma refl) (passes (other m Kinds.hash refl) (passes (other m Kinds.left_paren refl)
      (sees (omega arith) m.there (kinded m Kinds.minus refl) (sees refl t.there (kinded t Kinds.left_paren refl)
      (sees (omega arith) p.there (held a_register p (looks_register {s = s} (register_spelled p q)).registers)
      (steps m.there refl (steps t.there refl (steps p.there refl
      (rw (registered p.token p.text r q, le-leb 8 r low) (then (expect t.token Shapes.predecrement c) λ l₂. answers))))))))))

  full_alone : {n l : ℕ} {r : Registers} → Sign at Kinds.left_paren own → Full s at (own + 1) n r → (c : Sign at Kinds.right_paren n)
      → Reads (operand_from s) at own l (n + 1) (Some (O.full_index undisplaced r.base r.index 0 undisplaced (span s.start c.token.end)))
  unfolding Operand.parse_parenthesised_operand
  full_alone t f c =
      let b = full_bases f in
      begins_group s at own t λ l. passes (other (begun b).name Kinds.left_bracket refl) (full_starts s _ _ f c (full_read t.token undisplaced b c l))

  full_displaced : {j n l : ℕ} {e : Expr} {r : Registers} → Sign at Kinds.left_paren own → Plain (own + 1) j e → Sign at Kinds.comma j → Full s at (j + 1) n r
      → (c : Sign at Kinds.right_paren n)
      → Reads (operand_from s) at own l (n + 1) (Some (O.full_index (displaced e 0) r.base r.index 0 undisplaced (span s.start c.token.end)))
  unfolding Operand.parenthesised Operand.or_absent Operand.after_expression
  full_displaced {e = e} t h m f c =
      begins_group s at own t λ l. expression_opens t.token h l (then (behind_own s at count ends few own h (omega arith) (stops_comma m).level l) λ l₂.
      steps m.there (kinded m Kinds.comma refl) (full_starts s _ _ f c (full_read t.token (displaced e 0) (full_bases f) c _)))

  full_sized : {j n l size : ℕ} {e : Expr} {r : Registers} → Sign at Kinds.left_paren own → Plain (own + 1) j e → Letter at j size → Sign at Kinds.comma (j + 1)
      → BaseAndIndex s at (j + 1 + 1) n r → (c : Sign at Kinds.right_paren n)
      → Reads (operand_from s) at own l (n + 1) (Some (O.full_index (displaced e size) r.base r.index 0 undisplaced (span s.start c.token.end)))
  unfolding Operand.parenthesised Operand.or_absent Operand.after_expression Operand.sized_base Operand.over
  full_sized {size = size} {e = e} t h z m b c =
      begins_group s at own t λ l. expression_opens t.token h l (then (behind_own s at count ends few own h (omega arith) (letter_ends z) l) λ l₂.
      passes (other z.sign Kinds.comma refl) (passes (other z.sign Kinds.right_paren refl) (sees (omega arith) z.sign.there (kinded z.sign Kinds.size_suffix refl)
      (sees refl m.there (kinded m Kinds.comma refl) (then (letter_read _ _ z) λ l₃. steps m.there refl (full_read t.token (displaced e size) b c _))))))

  memory_read : {j n l indirection : ℕ} {d u : Displacement} {r : Registers} {x : Option IndexRegister} → Sign at Kinds.left_paren own → Sign at Kinds.left_bracket (own + 1)
      → Inside s at (ordinary s.mark) own (own + 1 + 1) j d r → Sign at Kinds.right_bracket j → Behind s at (ordinary s.mark) own r.index (j + 1) n x indirection u → (c : Sign at Kinds.right_paren n)
      → Reads (operand_from s) at own l (n + 1) (Some (O.full_index d r.base x indirection u (span s.start c.token.end)))
  unfolding Operand.parse_parenthesised_operand Operand.parse_memory_indirect Operand.or_none
  memory_read t b h z u c =
      begins_group s at own t λ l. steps b.there (kinded b Kinds.left_bracket refl) (then (inside_read s at count ends few own h (omega arith) z _) λ l₂.
      steps z.there (kinded z Kinds.right_bracket refl) (then (behind_read s at count ends few own u (omega (arith, inside_rises h)) c _) λ l₃.
      then (expect t.token Shapes.memory_indirect c) λ l₄. answers))

  absolute_read : {j n size z l : ℕ} {e : Expr} → Plain own j e → Sized at (span_e e).end j n size z → Closed at n
      → Reads (operand_from s) at own l n (Some (O.absolute e size (span s.start z)))
  unfolding holds
  absolute_read {j} {n} {size} {z} {l} {e} h sz c = go (at own) refl
    where
      go : (p : Place) → at own ≡ p → Reads (operand_from s) at own l n (Some (O.absolute e size (span s.start z)))
      go nothing q = absolute_bare h sz c (rw q refl)
      go (stands k x) q = elim (cases_Bool (eqb k.kind Kinds.left_paren)) [
        | inl y ↦ absolute_grouped h sz c (record { token = k; text = x; there = q; of = eqb-true _ _ y })
        | inr y ↦ absolute_bare h sz c (rw (q, y) refl)
      ]

  list_from : {j l : ℕ} {r : Register} {y : Operand} → RegisterAt at own r
      → Seen at (λ k y. either (eqb k.kind Kinds.minus) (eqb k.kind Kinds.slash)) (own + 1)
      → Reads (Operand.list_loop fuel s [] r) at (own + 1) r.span.end j (Some y) → Reads (operand_from s) at own l j (Some y)
  unfolding Operand.name_or_expression Operand.parse_register_operand Operand.parse_register_list
  list_from (register_spelled {r = r} t q) z h =
      begins_name s at own t (steps t.there (held a_register t (looks_register {s = s} (register_spelled t q)).registers)
      (sees (omega arith) z.there z.passed (rw (registered t.token t.text r q) h)))

  list_read : {j e l : ℕ} {xs : List RegisterListItem} → Items s at own j xs e → own + 1 < j → Closed at j
      → Reads (operand_from s) at own l j (Some (O.register_list xs (span s.start e)))
  list_read h long c =
      list_from (first_at h) (second h long)
      (items_read s at count ends few h [] (closed_kind Kinds.minus refl refl c) (closed_kind Kinds.slash refl refl c))

  -- ---- each spelling

  pub operand_read_lem : {j : ℕ} {y : Operand} → Spelling s at (ordinary s.mark) own j y → Closed at j → (l : ℕ) → Reads (operand_from s) at own l j (Some y)
  unfolding Operand.or_absent Operand.immediate_size
  operand_read_lem (Spelling.immediate t h) c l =
      immediate_read t h (stops_closed c).level λ l₂. then (no_letter _ _ (stops_closed c).size) λ l₃. answers
  operand_read_lem (Spelling.immediate_long t h z) c l = immediate_read t h (letter_ends z) λ l₂. then (letter_read _ _ z) λ l₃. answers
  operand_read_lem (Spelling.data_register {r = r} p small) c l = rw (direct_data r small) at (direct_read {l = l} p c)
  operand_read_lem (Spelling.address_register {r = r} (an_address p low)) c l = rw (direct_address r low) at (direct_read {l = l} p c)
  operand_read_lem (Spelling.special_register t q) c l = special_read t q
  operand_read_lem (Spelling.indirect t p k) c l = opening_read (Spelling.alone t) (address_like p) (shut_close k) (address_base_lem undisplaced p (indirect_closed k c))
  operand_read_lem (Spelling.postincrement t p k m) c l = opening_read (Spelling.alone t) (address_like p) (shut_close k) (address_base_lem undisplaced p (postincrement_closed k m))
  operand_read_lem (Spelling.predecrement m t p k) c l = predecrement_read m t p k
  operand_read_lem (Spelling.displacement {e = e} h p k) c l =
      opening_read (Spelling.displacing h) (address_like p) (shut_close k) (address_base_lem (displaced e 0) p (displacement_closed k))
  operand_read_lem (Spelling.index {d = d} {r = r} h p m x f k) c l =
      opening_read h (address_like p) (shut_comma m) (address_base_lem d p (address_index r d m x k (rw f refl)))
  operand_read_lem (Spelling.counter_displacement {e = e} h p k) c l =
      opening_read (Spelling.displacing h) (counter_like p) (shut_close k) (counter_base (displaced e 0) p (counter_closed k))
  operand_read_lem (Spelling.counter_index {d = d} h p m x f k) c l = opening_read h (counter_like p) (shut_comma m) (counter_base d p (counter_index d m x k (rw f refl)))
  operand_read_lem (Spelling.suppressed_index {d = d} {r = r} h p m x f k) c l =
      opening_read h (address_like p) (shut_comma m) (address_base_lem d p (address_index r d m x k (rw f refl)))
  operand_read_lem (Spelling.counter_suppressed_index {d = d} h p m x f k) c l =
      opening_read h (counter_like p) (shut_comma m) (counter_base d p (counter_index d m x k (rw f refl)))
  operand_read_lem (Spelling.full t f k) c l = full_alone t f k
  operand_read_lem (Spelling.displaced_full t e m f k) c l = full_displaced t e m f k
  operand_read_lem (Spelling.sized_full t e z m b k) c l = full_sized t e z m b k
  operand_read_lem (Spelling.memory_indirect t b i z u k) c l = memory_read t b i z u k
  operand_read_lem (Spelling.absolute h sz) c l = absolute_read h sz c
  operand_read_lem (Spelling.list h long) c l = list_read h long c
