-- What holds expressions is read as it is spelled: displacements, what stands between brackets and behind them; and register lists.
-- Assumes nothing.
use Rattle.std.specs.Prelude.{◌≡◌, Bool, true, false, not, List, [], ◌∷◌, ◌++◌, ℕ, ◌+◌, ◌≤◌, ◌<◌, Option, Some}
use Rattle.std.proofs.Math.Path.{refl}
use Rattle.std.proofs.Common.{◌∙◌, append_assoc, arith}
use borrow.Author.Tests.{le-ltb}
use Rattle.names.specs.Kinds
use Rattle.names.specs.Places.{Place, stands}
use Rattle.names.specs.Registers.{reserved}
use Rattle.names.specs.declared.tokens.Token.{Token}
use Rattle.records.specs.Shapes
use Rattle.records.specs.Spans.{span}
use Rattle.expressions.specs.Trees.{Expr}
use Rattle.expressions.specs.declared.reading.Setting.{Setting}
use Rattle.records.specs.Problems
use Rattle.expressions.specs.Reader.{is, reading, run, Reader, answer, bump}
use Rattle.expressions.specs.Expressions.{read, precedence, fuel, parse_expression}
use Rattle.expressions.specs.Laws.{holds, met_yes, met_no}
use Rattle.operand.specs.Operands.{Displacement, displaced, RegisterListItem, single, range, Operand}
use Rattle.operand.specs.Operands as O
use Rattle.operand.specs.Operand
use Rattle.operand.specs.Operand.{◌>>=?◌, a_register, an_index, a_base_or_an_index, is_suppressed, is_suppressed_register, inner, outer}
use Rattle.operand.specs.Fuel.{list_equation}
use Rattle.operand.specs.declared.forms.Register.{Register}
use Rattle.operand.specs.declared.forms.Registers.{Registers}
use Rattle.spelling.specs.Signs.{Sign, RegisterAt, register_spelled, ordinary}
use Rattle.spelling.specs.Spelling
use Rattle.spelling.specs.Spelling.{Letter, Sized, no_size, a_size, Expression, BaseAndIndex, Inside, Behind, a_single, a_range, Items, last, more}
use Rattle.spelling.proofs.Readings.{Reads, answers, from_here, then, then_at, steps, passes, sees, misses, other, kinded}
use Rattle.spelling.proofs.Climbs.{Ends, ends_by, expression_read, rises}
use Rattle.spelling.proofs.Names
use Rattle.spelling.proofs.Looks.{held, looks_register, starts, Stops, stops_comma, stops_close, stops_bracket}
use Rattle.spelling.proofs.Parts.{letter_read, no_letter, registered, looks_index, looks_bases, index_read_lem, index_seen, index_rises, sized_rises, begun, bases_read}
use Rattle.operand.specs.declared.forms.IndexRegister.{IndexRegister}

pub ordinary_free : (mark i : ℕ) (x : List ℕ) → ordinary mark i x ≡ true → reserved x ≡ false
unfolding ordinary
ordinary_free mark i x q = Names.not-true (reserved x) (Names.both_first (not (reserved x)) _ q)

-- an expression ends before a size
pub letter_ends : {at : ℕ → Place} {j n : ℕ} → Letter at j n → Ends at 1 j
unfolding precedence
letter_ends t = ends_by 1 t.sign (omega arith)

module _ (s : Setting) (at : ℕ → Place) (count : ℕ) (ends : (j : ℕ) (k : Token) (x : List ℕ) → at j ≡ stands k x → j < count) (few : count ≤ fuel) (own : ℕ) where
  abbrev Plain : ℕ → ℕ → Expr → Type 0
  Plain i j e = Expression s at (ordinary s.mark) own i j e

  pub behind_own : {i j : ℕ} {e : Expr} → Plain i j e → own < i → Ends at 1 j → (l : ℕ) → Reads (parse_expression s.limit) at i l j (read e)
  behind_own h low stop = expression_read at count ends few own (ordinary s.mark) (ordinary_free s.mark) h (omega arith) (λ e t. omega arith) stop

  pub displacement_read_lem : {i j n size z : ℕ} {e : Expr} → Plain i j e → Sized at 0 j n size z → own < i → Stops at n → (l : ℕ)
      → Reads (Operand.parse_sized_displacement s) at i l n (Some (displaced e size))
  unfolding Operand.parse_sized_displacement Operand.or_absent Operand.sized
  displacement_read_lem h no_size low stop l = then (behind_own h low stop.level l) λ m. then (no_letter _ _ stop.size) λ m₂. answers
  displacement_read_lem h (a_size t) low stop l = then (behind_own h low (letter_ends t) l) λ m. then (letter_read _ _ t) λ m₂. answers

  -- an expression begins with neither a base nor an index
  no_index : {i j : ℕ} {e : Expr} → Plain i j e → holds (an_index s i) (at i) ≡ false
  unfolding is_suppressed_register
  no_index h = looks_index (starts h).looks

  no_bases : {i j : ℕ} {e : Expr} → Plain i j e → holds (a_base_or_an_index s i) (at i) ≡ false
  unfolding is_suppressed
  no_bases h = looks_bases (starts h).looks

  -- I
  pub inside_read : {i j : ℕ} {d : Displacement} {r : Registers} → Inside s at (ordinary s.mark) own i j d r → own < i → Sign at Kinds.right_bracket j → (l : ℕ)
      → Reads (Operand.parse_inner s) at i l j (Some (inner d r))
  unfolding Operand.parse_inner Operand.inner_displaced Operand.or_none
  inside_read Spelling.empty low c l = from_here (sees (omega arith) c.there (kinded c Kinds.right_bracket refl) answers)
  inside_read (Spelling.displacement h sz) low c l =
      let b = starts {s = s} h in
      from_here (misses (omega arith) (other b.sign Kinds.right_bracket b.right_bracket) (misses (omega arith) (no_bases h)
      (then (displacement_read_lem h sz low (stops_bracket c) l) λ m. passes (other c Kinds.comma refl) answers)))
  inside_read (Spelling.both h sz k r) low c l =
      let b = starts {s = s} h in
      from_here (misses (omega arith) (other b.sign Kinds.right_bracket b.right_bracket) (misses (omega arith) (no_bases h)
      (then (displacement_read_lem h sz low (stops_comma k) l) λ m. steps k.there (kinded k Kinds.comma refl)
      (then (bases_read Shapes.memory_indirect r (stops_bracket c) (other c Kinds.comma refl) _) λ m₂. answers))))
  inside_read (Spelling.bases r) low c l =
      let b = begun r in
      from_here (misses (omega arith) (other b.name Kinds.right_bracket refl) (sees (omega arith) b.name.there b.passed
      (then (bases_read Shapes.memory_indirect r (stops_bracket c) (other c Kinds.comma refl) l) λ m₂. answers)))

  -- T
  pub behind_read : {i j n : ℕ} {x y : Option IndexRegister} {d : Displacement} → Behind s at (ordinary s.mark) own x i j y n d → own ≤ i → Sign at Kinds.right_paren j → (l : ℕ)
      → Reads (Operand.parse_outer s x) at i l j (Some (outer y n d))
  unfolding Operand.parse_outer Operand.outer_index Operand.outer_indexed Operand.or_none
  behind_read Spelling.empty low c l = passes (other c Kinds.comma refl) answers
  behind_read (Spelling.displacement k h sz) low c l =
      steps k.there (kinded k Kinds.comma refl) (from_here (misses (omega arith) (no_index h)
      (then (displacement_read_lem h sz (omega arith) (stops_close c) _) λ m. answers)))
  behind_read (Spelling.index k x) low c l =
      let z = index_seen x in
      steps k.there (kinded k Kinds.comma refl) (from_here (sees (omega arith) z.there z.passed
      (then (index_read_lem x (stops_close c) Shapes.memory_indirect _) λ m. passes (other c Kinds.comma refl) answers)))
  behind_read (Spelling.both k x k₂ h sz) low c l =
      let z = index_seen x in
      steps k.there (kinded k Kinds.comma refl) (from_here (sees (omega arith) z.there z.passed
      (then (index_read_lem x (stops_comma k₂) Shapes.memory_indirect _) λ m. steps k₂.there (kinded k₂ Kinds.comma refl)
      (then (displacement_read_lem h sz (omega (arith, index_rises x)) (stops_close c) _) λ m₂. answers))))

bases_rise : {s : Setting} {at : ℕ → Place} {i j : ℕ} {r : Registers} → BaseAndIndex s at i j r → i ≤ j
bases_rise (Spelling.base b) = omega arith
bases_rise (Spelling.base_index b c x) = omega (arith, index_rises x)
bases_rise (Spelling.index x h) = omega (arith, index_rises x)

pub inside_rises : {s : Setting} {at : ℕ → Place} {allowed : ℕ → List ℕ → Bool} {own i j : ℕ} {d : Displacement} {r : Registers} → Inside s at allowed own i j d r → i ≤ j
inside_rises Spelling.empty = omega arith
inside_rises (Spelling.displacement h sz) = omega (arith, rises h, sized_rises sz)
inside_rises (Spelling.both h sz k b) = omega (arith, rises h, sized_rises sz, bases_rise b)
inside_rises (Spelling.bases b) = bases_rise b

-- ---- register lists

-- the register that a list begins with
unfoldable pub first : {s : Setting} {at : ℕ → Place} {i j e : ℕ} {xs : List RegisterListItem} → Items s at i j xs e → Register
first (last (a_single {r = r} p)) = r
first (last (a_range {r = r} p m q low)) = r
first (more (a_single {r = r} p) k h) = r
first (more (a_range {r = r} p m q low) k h) = r

unfoldable pub first_at : {s : Setting} {at : ℕ → Place} {i j e : ℕ} {xs : List RegisterListItem} (h : Items s at i j xs e) → RegisterAt at i (first h)
unfolding first
first_at (last (a_single p)) = p
first_at (last (a_range p m q low)) = p
first_at (more (a_single p) k h) = p
first_at (more (a_range p m q low) k h) = p

module _ (s : Setting) (at : ℕ → Place) (count : ℕ) (ends : (j : ℕ) (k : Token) (x : List ℕ) → at j ≡ stands k x → j < count) (few : count ≤ fuel) where
  -- one turn of the loop
  turned : {i l j : ℕ} {y : Operand} (items : List RegisterListItem) (r : Register)
      → Reads (Operand.list_item r >>=? Operand.next_item (Operand.list_loop fuel s) s items) at i l j (Some y) → Reads (Operand.list_loop fuel s items r) at i l j (Some y)
  turned {i} {l} items r h = record { end = h.end; same = list_equation at count ends few s items r i l ∙ h.same }

  -- behind the minus of a range
  abbrev ranging : Register → Reader (Option RegisterListItem)
  ranging r = bump a_register (λ k x. Operand.ranged r (Operand.register_from k x)) λ u. Operand.register_expected Problems.after_minus

  single_item : (i l : ℕ) (r : Register) → holds (is Kinds.minus) (at i) ≡ false → run (Operand.list_item r) at i l ≡ reading i l [] (Some (single r))
  unfolding run Operand.list_item
  single_item i l r q = met_no (is Kinds.minus) (λ k x. run (ranging r) at (i + 1) k.end) (λ u. run (answer (Some (single r))) at i l) (at i) q

  range_item_lem : {i : ℕ} (l : ℕ) (r : Register) {q : Register} → Sign at Kinds.minus i → RegisterAt at (i + 1) q → r.index ≤ q.index
      → run (Operand.list_item r) at i l ≡ reading (i + 1 + 1) q.span.end [] (Some (range r q (span r.span.start q.span.end)))
  unfolding run Operand.list_item Operand.ranged
  range_item_lem {i} l r m (register_spelled {r = n} t e) low =
      met_yes (is Kinds.minus) (λ k x. run (ranging r) at (i + 1) k.end) (λ u. run (answer (Some (single r))) at i l) (at i) m.token m.text m.there (kinded m Kinds.minus refl)
      ∙ met_yes a_register (λ k x. run (Operand.ranged r (Operand.register_from k x)) at (i + 1 + 1) k.end) (λ u. run (Operand.register_expected Problems.after_minus) at (i + 1) m.token.end) (at (i + 1)) t.token t.text t.there (held a_register t (looks_register {s = s} (register_spelled t e)).registers)
      ∙ rw (registered t.token t.text n e, le-ltb n r.index low) refl

  -- behind the last item
  list_ends : {j : ℕ} (e : ℕ) (items : List RegisterListItem) (x : RegisterListItem) → holds (is Kinds.slash) (at j) ≡ false
      → Reads (Operand.next_item (Operand.list_loop fuel s) s items x) at j e j (Some (O.register_list (items ++ (x ∷ [])) (span s.start e)))
  unfolding Operand.next_item Operand.listed
  list_ends e items x q = passes q (from_here answers)

  -- behind an item and a slash
  list_goes_on : {j n z : ℕ} (e : ℕ) (items : List RegisterListItem) (x : RegisterListItem) (xs : List RegisterListItem) {r : Register} → Sign at Kinds.slash j → RegisterAt at (j + 1) r
      → Reads (Operand.list_loop fuel s (items ++ (x ∷ [])) r) at (j + 1 + 1) r.span.end n (Some (O.register_list ((items ++ (x ∷ [])) ++ xs) (span s.start z)))
      → Reads (Operand.next_item (Operand.list_loop fuel s) s items x) at j e n (Some (O.register_list (items ++ (x ∷ xs)) (span s.start z)))
  unfolding Operand.next_item
  list_goes_on e items x xs k (register_spelled {r = n} t q) h =
      steps k.there (kinded k Kinds.slash refl) (steps t.there (held a_register t (looks_register {s = s} (register_spelled t q)).registers)
      (rw (registered t.token t.text n q) (rw (append_assoc items (x ∷ []) xs) at h)))

  -- the loop, behind the list's first register
  pub items_read : {i j e : ℕ} {xs : List RegisterListItem} (h : Items s at i j xs e) (items : List RegisterListItem) → holds (is Kinds.minus) (at j) ≡ false
      → holds (is Kinds.slash) (at j) ≡ false → Reads (Operand.list_loop fuel s items (first h)) at (i + 1) (first h).span.end j (Some (O.register_list (items ++ xs) (span s.start e)))
  unfolding first Operand.or_none
  items_read {i} (last (a_single {r = r} p)) items a b = turned items r (then_at (single_item _ _ r a) (list_ends _ items (single r) b))
  items_read {i} (last (a_range {r = r} {q = q} p m g low)) items a b =
      turned items r (then_at (range_item_lem _ r m g low) (list_ends _ items (range r q (span r.span.start q.span.end)) b))
  items_read {i} (more {xs = xs} (a_single {r = r} p) k h) items a b =
      turned items r (then_at (single_item _ _ r (other k Kinds.minus refl)) (list_goes_on _ items (single r) xs k (first_at h) (items_read h (items ++ (single r ∷ [])) a b)))
  items_read {i} (more {xs = xs} (a_range {r = r} {q = q} p m g low) k h) items a b =
      let x = range r q (span r.span.start q.span.end) in
      turned items r (then_at (range_item_lem _ r m g low) (list_goes_on _ items x xs k (first_at h) (items_read h (items ++ (x ∷ [])) a b)))
