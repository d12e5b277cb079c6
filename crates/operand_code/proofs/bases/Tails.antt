-- What the returns behind a displacement show, whatever displacement of the definition it stands for.
-- Assumes nothing.
use mathlib.Core.Path.{◌≡◌, refl, sym, ◌∙◌, ap}
use mathlib.Core.Bool.{true, false}
use mathlib.Core.List.{List, append-nil}
use Prim.Native.Nat.{ℕ, ◌<◌}
use native.Mathlib.Omega.{arith}
use Rattle.names.specs.Kinds
use Rattle.names.specs.Choice.{pick}
use Rattle.names.specs.declared.tokens.Token.{Token}
use Rattle.records.specs.Problems
use Rattle.records.specs.Shapes
use Rattle.records.specs.Diagnostics.{malformed_operand, malformed_open}
use Rattle.records.specs.Spans.{span, span_of, no_span}
use Rattle.expressions.specs.Trees.{Expr}
use Rattle.expressions.proofs.Costs.{true_false}
use Rattle.expressions.specs.Reader.{Reader, answer}
use Rattle.records.specs.declared.spans.Span.{Span}
use Rattle.records.specs.declared.counters.Counters.{Counters}
use Rattle.expressions.specs.declared.reading.Setting.{Setting}
use Rattle.operand.specs.FormNumbers
use Rattle.operand.specs.Operands.{Displacement, displaced, undisplaced, Operand}
use Rattle.operand.specs.Operands as O
use Rattle.operand.specs.Operand.{base_shape, indexed_operand, closed_base, closed_counter, unclosed, not_an_address_register}
use Rattle.operand.specs.Forms.{sized_of, form_of, record_of}
use Rattle.operand.specs.Records.{size_d, nodes_d, size_o, nodes_o}
use Rattle.expressions.specs.Told.{Raised, Told, NextTold}
use Rattle.operand_code.specs.Operands.{HeldBy, Kept, Unsized, Plain}
use Rattle.operand.specs.declared.forms.Register.{Register}
use Rattle.operand.specs.declared.forms.IndexRegister.{IndexRegister}
use Rattle.operand.specs.declared.forms.BaseRegister.{BaseRegister}
use Rattle.operand.specs.declared.forms.Sized.{Sized}
use Rattle.operand.specs.declared.forms.Registers.{Registers}
use Rattle.operand.specs.declared.forms.OperandRecord.{OperandRecord}
use Rattle.expressions.specs.Paths.{renamed, reheld, raised_as, answered, hit_next, miss_next, raised_same}
use Rattle.operand_code.proofs.malformed.Failures.{failed_malformed, failed_unclosed, failed_register}
use Rattle.std.specs.Prelude.{Option, Some, None, is_some, option_map}

-- ---- the shape

pub shape_of : (y : Displacement) (d : Option Sized) → sized_of 0 y ≡ d → pick (is_some d) Shapes.displacement Shapes.indirect ≡ base_shape y
unfolding sized_of base_shape
shape_of (displaced e n) d h = rw (sym h) refl
shape_of undisplaced d h = rw (sym h) refl

-- ---- a displacement, or none

not_displaced : {d : Option Sized} → sized_of 0 undisplaced ≡ d → is_some d ≡ true → ⊥
unfolding sized_of
not_displaced h i = true_false (sym i ∙ ap is_some (sym h))

not_undisplaced : (e : Expr) (n : ℕ) {d : Option Sized} → sized_of 0 (displaced e n) ≡ d → is_some d ≡ false → ⊥
unfolding sized_of
not_undisplaced e n h i = true_false (ap is_some h ∙ i)

-- ---- an operand that is read

-- the code's answer, with the record x
abbrev pub Answers : Option OperandRecord → Counters → OperandRecord → Counters → Type 0
Answers v r x c = (v ≡ Some x) × (r ≡ c)

-- the operand x, whose nodes are those of y
pub operand_told : {L T D : List ℕ} {c : Counters} {n : ℕ} {u : OperandRecord} {v : Option OperandRecord} {r : Counters} (x : Operand) (y : Displacement) → Answers v r u c → u ≡ record_of x → c.nodes ≡ n → nodes_o x ≡ nodes_d 0 y → size_o x ≡ size_d y
    → Told (option_map record_of) (Kept n y) (answer (Some x)) L T D D c v r
unfolding HeldBy
operand_told x y a e k p q = answered (a.0 ∙ ap Some e) a.1 (k, (p, q))

module _ {L T D : List ℕ} {c : Counters} {n : ℕ} {u : OperandRecord} {d : Option Sized} (y : Displacement) (e : sized_of 0 y ≡ d) (k : c.nodes ≡ n) where
  module _ {s z : Span} (a : s ≡ z) {form : ℕ} {base : BaseRegister} {x : IndexRegister} (w : u ≡ form_of form s d base (Some x)) (plain : IndexRegister → Span → Operand) where
    -- an index written suppressed makes it a full index
    pub indexed_full : x.suppressed ≡ true → form ≡ FormNumbers.full_index
        → Told (option_map record_of) (Kept n y) (answer (Some (indexed_operand y base plain x z))) L T D D c (Some u) c
    unfolding indexed_operand record_of size_o nodes_o sized_of nodes_d size_d
    indexed_full b f =
        let full = O.full_index y base (Some x) 0 undisplaced z in
        renamed (ap (λ b. answer (Some (pick b full (plain x z)))) (sym b)) (operand_told full y (refl, refl) (w ∙ rw (a, f, sym e)) k (append-nil (nodes_d 0 y)) (omega arith))

    pub indexed_plain : {f : ℕ} → x.suppressed ≡ false → form ≡ f → Plain f d base y plain
        → Told (option_map record_of) (Kept n y) (answer (Some (indexed_operand y base plain x z))) L T D D c (Some u) c
    unfolding indexed_operand
    indexed_plain b f g =
        let h = g x z in
        let full = O.full_index y base (Some x) 0 undisplaced z in
        renamed (ap (λ b. answer (Some (pick b full (plain x z)))) (sym b)) (operand_told (plain x z) y (refl, refl) (w ∙ rw (a, f) (sym h.0)) k h.1 h.2)

-- ---- a base alone

module _ {L T D : List ℕ} {c : Counters} {n : ℕ} {u : OperandRecord} {d : Option Sized} {s : Span} (t₀ : Setting) (q : Register) (close : Token) where
  pub base_displaced : (y : Displacement) → sized_of 0 y ≡ d → Unsized y → is_some d ≡ true → c.nodes ≡ n → s ≡ span t₀.start close.end → u ≡ form_of FormNumbers.displacement s d (BaseRegister.Address q) None
      → Told (option_map record_of) (Kept n y) (closed_base t₀ q y close) L T D D c (Some u) c
  unfolding closed_base record_of size_o nodes_o nodes_d size_d Unsized
  base_displaced (displaced e m) h z i k g w = operand_told (O.displacement e q (span t₀.start close.end)) (displaced e m) (refl, refl) (w ∙ rw (g, sym h, z)) k refl refl
  base_displaced undisplaced h z i k g w = absurd (not_displaced h i)

  pub base_indirect : (y : Displacement) → sized_of 0 y ≡ d → is_some d ≡ false → c.nodes ≡ n → s ≡ span t₀.start close.end → u ≡ form_of FormNumbers.indirect s d (BaseRegister.Address q) None
      → {o : Option Token} {c₁ : Counters} → NextTold T Kinds.plus c o c₁ → o ≡ None
      → Told (option_map record_of) (Kept n y) (closed_base t₀ q y close) L T D D c (Some u) c₁
  unfolding closed_base record_of size_o nodes_o nodes_d size_d sized_of
  base_indirect (displaced e m) h i k g w f p = absurd (not_undisplaced e m h i)
  base_indirect undisplaced h i k g w f p = miss_next f p (operand_told (O.indirect q (span t₀.start close.end)) undisplaced (refl, refl) (w ∙ rw (g, sym h)) (f.nodes ∙ k) refl refl)

  pub base_postincrement : (y : Displacement) {t : Token} {c₁ : Counters} → sized_of 0 y ≡ d → is_some d ≡ false → c₁.nodes ≡ n → s ≡ span t₀.start t.end → u ≡ form_of FormNumbers.postincrement s d (BaseRegister.Address q) None
      → {o : Option Token} → NextTold T Kinds.plus c₁ o c → o ≡ Some t → c₁.at < 65535
      → Told (option_map record_of) (Kept n y) (closed_base t₀ q y close) L T D D c₁ (Some u) c
  unfolding closed_base record_of size_o nodes_o nodes_d size_d sized_of
  base_postincrement (displaced e m) h i k g w f p l = absurd (not_undisplaced e m h i)
  base_postincrement undisplaced {t} h i k g w f p l =
      hit_next f p l (operand_told (O.postincrement q (span t₀.start t.end)) undisplaced (refl, refl) (w ∙ rw (g, sym h)) (f.nodes ∙ k) refl refl)

-- ---- the program counter alone

module _ {L T : List ℕ} {c : Counters} {n : ℕ} {d : Option Sized} (t₀ : Setting) (close : Token) where
  pub counter_displaced : {D : List ℕ} {u : OperandRecord} {s : Span} (y : Displacement) → sized_of 0 y ≡ d → Unsized y → is_some d ≡ true → c.nodes ≡ n → s ≡ span t₀.start close.end → u ≡ form_of FormNumbers.pc_displacement s d BaseRegister.ProgramCounter None
      → Told (option_map record_of) (Kept n y) (closed_counter t₀ y close) L T D D c (Some u) c
  unfolding closed_counter record_of size_o nodes_o nodes_d size_d Unsized
  counter_displaced (displaced e m) h z i k g w = operand_told (O.pc_displacement e (span t₀.start close.end)) (displaced e m) (refl, refl) (w ∙ rw (g, sym h, z)) k refl refl
  counter_displaced undisplaced h z i k g w = absurd (not_displaced h i)

  pub counter_alone : {D D' : List ℕ} {m : Counters} (y : Displacement) → sized_of 0 y ≡ d → is_some d ≡ false → Raised D D' c (malformed_operand Shapes.pc_displacement Problems.the_displacement_missing (span t₀.start c.end) no_span) m → c.nodes ≡ n
      → Told (option_map record_of) (Kept n y) (closed_counter t₀ y close) L T D D' c None m
  unfolding closed_counter HeldBy
  counter_alone (displaced e m) h i g k = absurd (not_undisplaced e m h i)
  counter_alone undisplaced h i g k = failed_malformed t₀ Shapes.pc_displacement Problems.the_displacement_missing g refl refl (raised_same g ∙ k, tt)

-- ---- from a call

-- from counters that count as many nodes
pub kept_from : {p : Reader (Option Operand)} {L T D D' : List ℕ} {n m : ℕ} {c : Counters} {v : Option OperandRecord} {r : Counters} (y : Displacement) → m ≡ n → Told (option_map record_of) (Kept m y) p L T D D' c v r → Told (option_map record_of) (Kept n y) p L T D D' c v r
kept_from y e h = reheld (λ q. (q.0 ∙ e, q.1)) h

pub full_index_told : {L T D : List ℕ} {c : Counters} {n : ℕ} {u : OperandRecord} {d : Option Sized} {s z : Span} (y : Displacement) (x : Registers) → sized_of 0 y ≡ d → c.nodes ≡ n → s ≡ z → u ≡ form_of FormNumbers.full_index s d x.base x.index
    → Told (option_map record_of) (Kept n y) (answer (Some (O.full_index y x.base x.index 0 undisplaced z))) L T D D c (Some u) c
unfolding record_of size_o nodes_o sized_of nodes_d size_d
full_index_told {z = z} y x e k g w = operand_told (O.full_index y x.base x.index 0 undisplaced z) y (refl, refl) (w ∙ rw (g, sym e)) k (append-nil (nodes_d 0 y)) (omega arith)

-- ---- no operand, from a diagnostic, whose shape is that of the definition's displacement

pub unclosed_told : {L T D D' : List ℕ} {c m : Counters} {sh shape : ℕ} (s : Setting) (k : Token) (problem : ℕ) (y : Displacement) → sh ≡ shape → Raised D D' c (malformed_open sh problem (span s.start c.end) (span_of k)) m
    → Told (option_map record_of) (Kept c.nodes y) (unclosed s k shape problem) L T D D' c None m
unfolding HeldBy
unclosed_told {c = c} s k problem y e h = failed_unclosed s k _ problem (raised_as (ap (λ w. malformed_open w problem (span s.start c.end) (span_of k)) e) h) refl refl (raised_same h, tt)

pub register_told : {L T D D' : List ℕ} {c m : Counters} {n sh shape : ℕ} (s : Setting) (k : Token) (y : Displacement) → c.nodes ≡ n → sh ≡ shape → Raised D D' c (malformed_operand sh Problems.not_an_address_register (span s.start c.end) (span_of k)) m
    → Told (option_map record_of) (Kept n y) (not_an_address_register s shape k) L T D D' c None m
unfolding HeldBy
register_told {c = c} s k y q e h = failed_register s _ k (raised_as (ap (λ w. malformed_operand w Problems.not_an_address_register (span s.start c.end) (span_of k)) e) h) refl refl (raised_same h ∙ q, tt)
