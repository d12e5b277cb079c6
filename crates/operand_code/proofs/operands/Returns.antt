-- What the returns of the operand forms show: each follows its reader.
-- Assumes nothing.
use mathlib.Core.Path.{◌≡◌, refl, sym, ◌∙◌, ap, subst}
use mathlib.Core.Bool.{Bool, true, false}
use mathlib.Core.List.{List, []}
use Prim.Native.Nat.{ℕ, ◌+◌}
use native.Mathlib.Omega.{arith}
use borrow.Author.Tests.{eq-eqb, ne_eqb}
use lib.Dec.{eqb, leb}
use lib.ListN.{length}
use Rattle.names.specs.Choice.{pick}
use Rattle.names.specs.Kinds
use Rattle.names.specs.Places.{Place, text_of, place, there}
use Rattle.names.specs.Cases.{special_number}
use Rattle.names.specs.Registers.{register_of, special_of}
use Rattle.names.specs.Reserved.{is_register, is_special}
use Rattle.names.specs.Sizes.{run_of, size_of}
use Rattle.names.specs.Tokens.{token_at}
use Rattle.names.specs.declared.registers.SpecialRegister.{SpecialRegister}
use Rattle.names.specs.declared.sizes.SizeSuffix.{SizeSuffix}
use Rattle.names.specs.declared.tokens.Token.{Token}
use Rattle.records.specs.Problems
use Rattle.records.specs.Shapes
use Rattle.records.specs.declared.spans.Span.{Span}
use Rattle.records.specs.declared.counters.Counters.{Counters}
use Rattle.records.specs.Diagnostics.{malformed_operand, dot_in_name}
use Rattle.expressions.specs.Expressions.{Suffix, suffixed, bare, known, suffix_run, take_size_suffix}
use Rattle.expressions.specs.Laws.{met_yes}
use Rattle.expressions.specs.Reader.{is, of_kind, Reading, Reader, answer, raise, choose, ◌>>=◌, run}
use Rattle.records.specs.Counters.{stepped, Over}
use Rattle.records.specs.Rooms.{Room}
use Rattle.records.specs.Spans.{span, no_span, span_of}
use Rattle.expressions.specs.Trees.{Expr, span_e, size}
use Rattle.expressions.specs.declared.reading.Setting.{Setting}
use Rattle.operand.specs.Operands.{Operand, displaced, undisplaced}
use Rattle.operand.specs.Operands as O
use Rattle.operand.specs.Operand.{name, a_register, register_from, over, predecrement_close, parse_predecrement, minus_operand, parse_expression_operand, register_direct, immediate_size, absolute_size, special_index}
use Rattle.operand.specs.Records.{flag, size_d, nodes_d, size_o, nodes_o}
use Rattle.operand.specs.Forms.{record_of, suffix_read}
use Rattle.expressions.specs.Told.{Raised, Told, Same}
use Rattle.operand_code.specs.Operands.{Kept, Stored}
use Rattle.operand_code.specs.Absolutes.{immediate_record, absolute_record, SizeAt}
use Rattle.operand.specs.declared.forms.Register.{Register}
use Rattle.operand.specs.declared.forms.Suffixed.{Suffixed}
use Rattle.expressions.specs.Paths.{bound, chosen, unchosen, hit, seen, other, beyond, seen_kind, unseen_kind, renamed, raised_same, kind_token}
use Rattle.operand_code.proofs.malformed.Failures.{failed_malformed}
use Rattle.std.proofs.lemmas.Option.{none-some}
use Rattle.std.specs.Bool.{then_some}
use Rattle.operand_code.proofs.lookahead.Names.{is_a_register, no_register, no_register_at, register_is, register_seen}
use Rattle.operand_code.specs.Lookahead.{register_at, with_register, PredecrementAt, predecrement, paren_not, token_not, register_not}
use Rattle.operand_code.specs.Told.{SizeTold}
use Rattle.operand_code.proofs.Next.{by_size}
use Rattle.operand_code.proofs.Rooms.{suffix_is, over_room, room_over}
use Rattle.operand_code.proofs.bases.Tails.{operand_told}
use Rattle.operand_code.proofs.Holdings.{kept_none, unstored_told, tree_is_lem}
use Rattle.std.specs.Prelude.{Option, Some, None, option_map}
use Rattle.operand.specs.declared.forms.OperandRecord.{OperandRecord}

-- ---- a place by another number

token_from_lem : (T : List ℕ) {i j : ℕ} {k : Token} → i ≡ j → token_at T j ≡ Some k → token_at T i ≡ Some k
token_from_lem T e h = ap (token_at T) e ∙ h

-- ---- a register

pub direct_told : (N : List ℕ) (q : Register) {L T D : List ℕ} {c : Counters} {v : Option OperandRecord} {r : Counters} → c.nodes ≡ 0 → (v ≡ option_map record_of (Some (register_direct q q.span))) × (r ≡ c)
    → Told (option_map record_of) (Stored N) (answer (Some (register_direct q q.span))) L T D D c v r
unfolding register_direct nodes_o size_o nodes_d size_d
direct_told N q e h = unstored_told N e (operand_told (register_direct q q.span) undisplaced h refl refl (bare_nodes (leb 8 q.index)) (bare_size (leb 8 q.index)))
  where
    bare_nodes : (b : Bool) → nodes_o (pick b (O.address_register_direct q q.span) (O.data_register_direct q q.span)) ≡ []
    bare_nodes true = refl
    bare_nodes false = refl

    bare_size : (b : Bool) → size_o (pick b (O.address_register_direct q q.span) (O.data_register_direct q q.span)) ≡ 0
    bare_size true = refl
    bare_size false = refl

-- ---- a size behind a tree

pub behind_size : {A E : Type 0} {f : A → E} {Q : A → Counters → Type 0} {L T D D₁ D₂ : List ℕ} {c : Counters} (value : Span) {x : Suffixed} {s : Counters} {q : Suffix → Reader A} {w : E} {r : Counters}
    → Told suffix_read (Same c.nodes) (take_size_suffix value.start) L T D D₁ c (Some x) s → (e : Expr) → value ≡ span_e e
    → Told f Q (q (suffixed x.size x.span)) L T D₁ D₂ s w r → Told f Q (take_size_suffix (span_e e).start >>= q) L T D D₂ c w r
behind_size {L = L} {T} {D} {D₁} {c = c} value {x} {s} h e v k =
    let g = subst (λ (z : Span). Told suffix_read (Same c.nodes) (take_size_suffix z.start) L T D D₁ c (Some x) s) v h in bound g (suffix_is _ (sym g.what)) k

-- a suffix or none
pub behind_either : {A E : Type 0} {f : A → E} {Q : A → Counters → Type 0} {L T D D₁ D₂ : List ℕ} {c : Counters} (value : Span) {x : Suffixed} {s : Counters} {q : Suffix → Reader A} {w : E} {r : Counters}
    → SizeTold L T D D₁ c value x s → (e : Expr) → value ≡ span_e e
    → (x.size ≡ 0 → x.span.end ≡ (span_e e).end → Told f Q (q bare) L T D₁ D₂ s w r) → Told f Q (q (suffixed x.size x.span)) L T D₁ D₂ s w r
    → Told f Q (take_size_suffix (span_e e).start >>= q) L T D D₂ c w r
behind_either {L = L} {T} {D} {D₁} {c = c} value {x} {s} h e v g k =
    let i = subst (λ z. SizeTold L T D D₁ c z x s) v h in by_size i (λ m a b. bound i.told m (g a b)) (λ m. bound i.told m k)

known_stays : (k : Token) (z : Option SizeSuffix) (at : ℕ → Place) (i l : ℕ) → (run (known k z) at i l).cursor ≡ i
unfolding run known
known_stays k (Some n) at i l = refl
known_stays k None at i l = refl

run_stays : (from : ℕ) (k : Token) (x : List ℕ) (at : ℕ → Place) (i l : ℕ) → (run (suffix_run from k x) at i l).cursor ≡ i
unfolding run suffix_run
run_stays from k x at i l = go (leb 2 (length x))
  where
    go : (b : Bool) → (run (choose b (raise (dot_in_name (span_of k) from) (answer (suffixed 0 (span_of k)))) (known k (size_of x))) at i l).cursor ≡ i
    go true = refl
    go false = known_stays k (size_of x) at i l

-- a size that stands at the cursor is stepped over
size_passed : (from : ℕ) {Q : Suffix → Counters → Type 0} {L T D D₁ : List ℕ} {c : Counters} {v : Option Suffixed} {c₁ : Counters} → {k : Token} → SizeAt T c.at k → Told suffix_read Q (take_size_suffix from) L T D D₁ c v c₁ → c₁.at ≡ c.at + 1
unfolding run take_size_suffix
size_passed from {L = L} {T = T} {c = c} {k = k} h t =
    let x = text_of L k.start k.end in
    t.at
    ∙ ap (λ (r : Reading Suffix). r.cursor) (met_yes (is Kinds.size_suffix) (λ k x. run (suffix_run from k (run_of x)) (place L T) (c.at + 1) k.end) (λ u. run (answer bare) (place L T) c.at c.end) (place L T c.at) k x (there L T c.at k h.stands) (eq-eqb _ Kinds.size_suffix h.kind))
    ∙ run_stays from k (run_of x) (place L T) (c.at + 1) k.end

-- what stood behind it stands at the cursor then
pub behind_passed : (from kind : ℕ) {Q : Suffix → Counters → Type 0} {L T D D₁ : List ℕ} {c : Counters} {v : Option Suffixed} {c₁ : Counters} {k t : Token} {at : ℕ} → SizeAt T c.at k → Told suffix_read Q (take_size_suffix from) L T D D₁ c v c₁
    → at ≡ c.at → of_kind kind (token_at T (at + 1)) ≡ Some t → token_at T c₁.at ≡ Some t
behind_passed from kind {T = T} h g i e = token_from_lem T (size_passed from h g ∙ ap (λ z. z + 1) (sym i)) (kind_token kind _ e).0

-- ---- an immediate or an absolute address: the tree that the last records hold

module _ (e : Expr) {n : ℕ} (h : n ≡ size e) {L T D : List ℕ} {c : Counters} (k : c.nodes ≡ n) where
  immediate_told : (l : Bool) {s t z : ℕ} {u : OperandRecord} → u ≡ immediate_record c s t (flag l) → t ≡ z → Told (option_map record_of) (Kept n (displaced e 0)) (answer (Some (O.immediate e l (span s z)))) L T D D c (Some u) c
  unfolding record_of nodes_o size_o nodes_d size_d
  immediate_told l {s} {t} {z} w q = operand_told (O.immediate e l (span s z)) (displaced e 0) (refl, refl) (w ∙ rw (q, tree_is_lem e (k ∙ h) refl)) k refl refl

  absolute_told : {b t z m : ℕ} {u : OperandRecord} → u ≡ absolute_record c b t m → t ≡ z → Told (option_map record_of) (Kept n (displaced e 0)) (answer (Some (O.absolute e m (span b z)))) L T D D c (Some u) c
  unfolding record_of nodes_o size_o nodes_d size_d
  absolute_told {b} {t} {z} {m} w q = operand_told (O.absolute e m (span b z)) (displaced e 0) (refl, refl) (w ∙ rw (q, tree_is_lem e (k ∙ h) refl)) k refl refl

  module _ (s : Setting) where
    pub absolute_bare : {t m : ℕ} {u : OperandRecord} → u ≡ absolute_record c s.start t m → m ≡ 0 → t ≡ (span_e e).end → Told (option_map record_of) (Kept n (displaced e 0)) (absolute_size s e bare) L T D D c (Some u) c
    unfolding absolute_size
    absolute_bare w m q = absolute_told (rw m at w) q

    pub absolute_sized : (x : Suffixed) {u : OperandRecord} → u ≡ absolute_record c s.start x.span.end x.size → Told (option_map record_of) (Kept n (displaced e 0)) (absolute_size s e (suffixed x.size x.span)) L T D D c (Some u) c
    unfolding absolute_size
    absolute_sized x w = absolute_told w refl

    module _ (hash : Token) where
      pub immediate_bare : {t : ℕ} {u : OperandRecord} → u ≡ immediate_record c hash.start t 0 → t ≡ (span_e e).end → Told (option_map record_of) (Kept n (displaced e 0)) (immediate_size s hash e bare) L T D D c (Some u) c
      unfolding immediate_size flag
      immediate_bare w q = immediate_told false w q

      module _ (x : Suffixed) where
        pub immediate_long : {u : OperandRecord} → x.size ≡ 3 → u ≡ immediate_record c hash.start x.span.end 1 → Told (option_map record_of) (Kept n (displaced e 0)) (immediate_size s hash e (suffixed x.size x.span)) L T D D c (Some u) c
        unfolding immediate_size flag
        immediate_long g w = chosen (eqb x.size 3) _ (eq-eqb _ 3 g) (immediate_told true w refl)

        pub immediate_unknown : {u : OperandRecord} → x.size ≡ 0 → u ≡ immediate_record c hash.start x.span.end 0 → Told (option_map record_of) (Kept n (displaced e 0)) (immediate_size s hash e (suffixed x.size x.span)) L T D D c (Some u) c
        unfolding immediate_size flag
        immediate_unknown g w = unchosen (eqb x.size 3) _ (ne_eqb x.size 3 (λ u. omega (arith, g, u))) (chosen (eqb x.size 0) _ (eq-eqb _ 0 g) (immediate_told false w refl))

        pub immediate_wrong : {D' : List ℕ} {m : Counters} → (x.size ≡ 3 → ⊥) → (x.size ≡ 0 → ⊥) → Raised D D' c (malformed_operand Shapes.immediate Problems.immediate_carries_no_size (span s.start c.end) no_span) m
            → Told (option_map record_of) (Kept n (displaced e 0)) (immediate_size s hash e (suffixed x.size x.span)) L T D D' c None m
        unfolding immediate_size
        immediate_wrong a b g =
            unchosen (eqb x.size 3) _ (ne_eqb _ 3 a) (unchosen (eqb x.size 0) _ (ne_eqb _ 0 b) (failed_malformed s Shapes.immediate Problems.immediate_carries_no_size g refl refl (kept_none (displaced e 0) (raised_same g ∙ k))))

-- ---- a name

-- a token that is none
pub unnamed : (f : List ℕ → Bool) (t : Token) (x : List ℕ) → (t.kind ≡ Kinds.identifier → ⊥) → name f t x ≡ false
unnamed f t x h = rw (ne_eqb t.kind Kinds.identifier h)

pub unnamed_register : (t : Token) (x : List ℕ) → (t.kind ≡ Kinds.identifier → ⊥) → a_register t x ≡ false
unfolding a_register
unnamed_register t x h = unnamed (λ y. is_register (register_of y)) t x h

module _ (t : Token) (x : List ℕ) (k : t.kind ≡ Kinds.identifier) where
  pub special_is : {n : SpecialRegister} → special_of x ≡ Some n → name (λ y. is_special (special_of y)) t x ≡ true
  special_is e = rw (k, e)

  pub special_not : special_of x ≡ None → name (λ y. is_special (special_of y)) t x ≡ false
  special_not e = rw (k, e)

pub special_told : (N : List ℕ) (c : Counters) (t : Token) (x : List ℕ) {n : SpecialRegister} {m : ℕ} {s : Span} {L T D : List ℕ} {c₁ : Counters} {v : Option OperandRecord} {r : Counters} → c.nodes ≡ 0 → c₁ ≡ stepped c t → special_of x ≡ Some n → special_number (Some n) ≡ m → s ≡ span_of t
    → (v ≡ option_map record_of (Some (O.special_register m s))) × (r ≡ c₁)
    → Told (option_map record_of) (Stored N) (answer (Some (O.special_register (special_index (special_of x)) (span_of t)))) L T D D c₁ v r
unfolding special_index nodes_o size_o nodes_d size_d
special_told N c t x z e q f w a =
    unstored_told N z (operand_told (O.special_register (special_index (special_of x)) (span_of t)) undisplaced (a.0, a.1) (rw (q, f, w)) (ap (λ y. y.nodes) e) refl refl)

-- ---- a predecrement

-- a register that has been seen is the one that is looked up
pub looked_up : {A : Type 0} {f : Option Operand → A} {Q : Option Operand → Counters → Type 0} (s : Setting) (minus k t : Token) (x : List ℕ) {q : Register} {L T D D' : List ℕ} {c : Counters} {v : A} {r : Counters} → register_at t x ≡ Some q
    → Told f Q (predecrement_close s minus k t q) L T D D' c v r → Told f Q (predecrement_close s minus k t (register_from t x)) L T D D' c v r
looked_up s minus k t x e h = renamed (ap (predecrement_close s minus k t) (sym (register_is _ _ e))) h

-- as the code tests for one
pub register_if : {L T : List ℕ} {i : ℕ} {k t : Token} {b : Bool} {v : Option (Token × Token)} → of_kind Kinds.left_paren (token_at T (i + 1)) ≡ Some k → token_at T (i + 2) ≡ Some t → b ≡ a_register t (text_of L t.start t.end)
    → v ≡ then_some b (k, t) → PredecrementAt L T i (option_map (with_register L) v)
register_if {L} {t = t} {b = true} e f g w = predecrement e f (register_seen t (text_of L t.start t.end) (sym g)) (ap (option_map (with_register L)) w)
register_if {L} {t = t} {b = false} e f g w = register_not e f (no_register_at t (text_of L t.start t.end) (sym g)) (ap (option_map (with_register L)) w)

-- its three tokens are stepped over
pub record Thrice (L T : List ℕ) (c c₁ c₂ c₃ : Counters) (minus k t : Token) (q : Register) : Type 0 where
  pub paren : of_kind Kinds.left_paren (token_at T (c.at + 1)) ≡ Some k
  pub token : token_at T (c.at + 2) ≡ Some t
  pub register : register_at t (text_of L t.start t.end) ≡ Some q
  pub first : token_at T c.at ≡ Some minus
  pub over_first : c₁ ≡ stepped c minus
  pub second : token_at T c₁.at ≡ Some k
  pub over_second : c₂ ≡ stepped c₁ k
  pub third : token_at T c₂.at ≡ Some t
  pub over_third : c₃ ≡ stepped c₂ t
  pub room : Room T c₃ 0 1

pub stepped_thrice : {L T : List ℕ} {c c₁ c₂ c₃ : Counters} {minus k t : Token} {q : Register} {v : Option (Token × Token × Register)} → Room T c 0 1 → token_at T c.at ≡ Some minus → PredecrementAt L T c.at v → v ≡ Some (k, t, q)
    → Over c minus c₁ → Over c₁ k c₂ → Over c₂ t c₃ → Thrice L T c c₁ c₂ c₃ minus k t q
stepped_thrice {L} {T} {c} {c₁} {c₂} {c₃} {minus} {k} {t} {q} h p (predecrement {k = k₁} {t = t₁} {r = q₁} e f g w) z a b d =
    let same : ◌≡◌ {A = Token × Token × Register} (k₁, t₁, q₁) (k, t, q) = cc in
    let e₂ = e ∙ ap (λ (y : Token × Token × Register). Some y.0) same in
    let f₂ = f ∙ ap (λ (y : Token × Token × Register). Some y.1) same in
    let room = room_over h a p in
    let next = token_from_lem T (omega (arith, h, a)) (kind_token Kinds.left_paren _ e₂).0 in
    let room₂ = room_over room b next in
    let last = token_from_lem T (omega (arith, h, room, a, b)) f₂ in
    record {
      paren = e₂;
      token = f₂;
      register = subst (λ (y : Token × Token × Register). register_at y.1 (text_of L y.1.start y.1.end) ≡ Some y.2) same g;
      first = p;
      over_first = over_room h a;
      second = next;
      over_second = over_room room b;
      third = last;
      over_third = over_room room₂ d;
      room = room_over room₂ d last;
    }
stepped_thrice h p (paren_not e w) z a b d = absurd (none-some _ (sym w ∙ z))
stepped_thrice h p (token_not e f w) z a b d = absurd (none-some _ (sym w ∙ z))
stepped_thrice h p (register_not e f g w) z a b d = absurd (none-some _ (sym w ∙ z))

pub predecrement_told : (s : Setting) {minus k t : Token} {q : Register} {L T D D' : List ℕ} {c c₁ c₂ c₃ : Counters} {v : Option OperandRecord} {r : Counters} (N : List ℕ) → c.nodes ≡ 0 → Thrice L T c c₁ c₂ c₃ minus k t q
    → Told (option_map record_of) (Kept c₃.nodes undisplaced) (predecrement_close s minus k t q) L T D D' c₃ v r
    → Told (option_map record_of) (Stored N) (minus_operand s minus) L T D D' c v r
unfolding minus_operand parse_predecrement over
predecrement_told s {minus} {k} {t} {c₃ = c₃} N z w h =
    let none : c₃.nodes ≡ 0 = ap (λ y. y.nodes) w.over_third ∙ ap (λ y. y.nodes) w.over_second ∙ ap (λ y. y.nodes) w.over_first ∙ z in
    seen_kind Kinds.left_paren refl w.paren
    (seen refl w.token (is_a_register _ _ w.register)
    (hit w.first refl w.over_first (hit w.second refl w.over_second (hit w.third refl w.over_third
    (unstored_told N none (renamed (ap (predecrement_close s minus k t) (sym (register_is _ _ w.register))) h))))))

pub no_predecrement : (s : Setting) (minus : Token) {L T D D' : List ℕ} {c : Counters} {x : Option (Token × Token × Register)} {v : Option OperandRecord} {r : Counters} (N : List ℕ) → PredecrementAt L T c.at x → x ≡ None
    → Told (option_map record_of) (Stored N) (parse_expression_operand s) L T D D' c v r → Told (option_map record_of) (Stored N) (minus_operand s minus) L T D D' c v r
unfolding minus_operand
no_predecrement s minus N (predecrement e f g w) z h = absurd (none-some _ (sym z ∙ w))
no_predecrement s minus N (paren_not e w) z h = unseen_kind Kinds.left_paren refl e h
no_predecrement s minus N (token_not e f w) z h = seen_kind Kinds.left_paren refl e (beyond refl f h)
no_predecrement s minus N (register_not e f g w) z h = seen_kind Kinds.left_paren refl e (other refl f (no_register _ _ g) h)
