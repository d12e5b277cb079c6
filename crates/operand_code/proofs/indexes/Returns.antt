-- What the returns of the suffixes, the scales and the index registers show: each follows its reader.
-- Assumes nothing.
use mathlib.Core.Path.{◌≡◌, refl, sym, ◌∙◌, ap, ap₂}
use mathlib.Core.Logic.{inl, inr}
use Rattle.std.specs.Prelude.{◌⊎◌}
use Rattle.std.proofs.lemmas.Option.{none-some}
use mathlib.Core.Bool.{Bool, true, false}
use mathlib.Core.List.{List}
use Prim.Native.Nat.{ℕ, ◌<◌, ◌≤◌}
use native.Mathlib.Omega.{arith}
use borrow.Author.Tests.{le-leb, lt-leb, eq-eqb, eqb-true}
use lib.Dec.{eqb, leb}
use lib.ListN.{length}
use Rattle.names.specs.Kinds
use Rattle.names.specs.Places.{text_of}
use Rattle.names.specs.Tokens.{token_at}
use Rattle.records.specs.DiagnosticKinds
use Rattle.records.specs.Counters.{stepped}
use Rattle.names.specs.Cases.{size_number}
use Rattle.names.specs.Sizes.{run_of, size_of}
use Rattle.names.specs.Numbers.{number_of}
use Rattle.names.specs.declared.sizes.SizeSuffix.{SizeSuffix}
use Rattle.names.specs.declared.tokens.Token.{Token}
use Rattle.records.specs.Spans.{span, span_of}
use Rattle.records.specs.Diagnostics.{plain, run_start}
use Rattle.expressions.specs.Expressions.{Suffix, suffixed, bare, known, suffix_run, take_size_suffix}
use Rattle.expressions.specs.declared.reading.Setting.{Setting}
use Rattle.expressions.specs.Reader.{raise, answer}
use Rattle.records.specs.declared.spans.Span.{Span}
use Rattle.records.specs.declared.diagnostics.Diagnostic.{Diagnostic}
use Rattle.records.specs.declared.counters.Counters.{Counters}
use Rattle.operand.specs.Forms.{suffix_read}
use Rattle.records.specs.Problems
use Rattle.operand.specs.Operand.{scale_of, scaled, scale_value, index_scale, index_size, index_register, parse_index_register, stepped_over}
use Rattle.operand.specs.declared.forms.Register.{Register}
use Rattle.operand.specs.declared.forms.IndexRegister.{IndexRegister}
use Rattle.names.specs.Laws.{true_false}
use Rattle.names.specs.Choice.{either}
use Rattle.expressions.specs.Told.{Raised, Told, Same}
use Rattle.expressions_code.specs.Numbers.{ValueTold, value_told}
use Rattle.operand_code.specs.Lookahead.{suppressed_or, index_at, NextBy, hits, misses, ends}
use Rattle.operand_code.specs.Told.{size_or_none}
use Rattle.operand_code.proofs.lookahead.Names.{is_a_register, no_register, register_is, suppressed_hit, suppressed_miss, suppressed_no_register, suppressed_as}
use Rattle.operand_code.proofs.Next.{Found}
use Rattle.expressions.specs.Paths.{answered, raised, raised_as, chosen, unchosen, hit_same, miss, done, hereby, renamed, bound_as, same}
use Rattle.std.specs.Prelude.{None, Option, Some}
use Rattle.operand.specs.declared.forms.Suffixed.{Suffixed}

-- ---- a size suffix

-- a size that is not known has been told
unknown_told : (t : Token) {L T D D' : List ℕ} {c m : Counters} {x y : Diagnostic} {s : Span} → s ≡ span_of t → x ≡ y → Raised D D' c x m
    → Told suffix_read (Same c.nodes) (raise y (answer (suffixed 0 (span_of t)))) L T D D' c (Some (record { size = 0; span = s })) m
unfolding suffix_read
unknown_told t e w h = raised (raised_as w h) (answered (rw e) refl (ap (λ z. z.nodes) h.counters))

module _ (L T D D' : List ℕ) (c : Counters) (from : ℕ) (t : Token) {run : List ℕ} {s : Span} (e : run ≡ run_of (text_of L t.start t.end)) where
  pub suffix_dotted : 2 ≤ length run → s ≡ span_of t → {x : Diagnostic} {m : Counters} → x ≡ plain DiagnosticKinds.dot_in_name s (span from t.end) → Raised D D' c x m
      → Told suffix_read (Same c.nodes) (suffix_run from t (run_of (text_of L t.start t.end))) L T D D' c (Some (record { size = 0; span = s })) m
  unfolding suffix_run
  suffix_dotted n h w g = chosen (leb 2 (length (run_of (text_of L t.start t.end)))) _ (rw (sym e) (le-leb 2 (length run) n)) (unknown_told t h (w ∙ rw h) g)

  pub suffix_known : length run < 2 → s ≡ span_of t → {n : SizeSuffix} {m : ℕ} → size_of (run_of (text_of L t.start t.end)) ≡ Some n → size_number (Some n) ≡ m
      → Told suffix_read (Same c.nodes) (suffix_run from t (run_of (text_of L t.start t.end))) L T D D c (Some (record { size = m; span = s })) c
  unfolding suffix_run known suffix_read
  suffix_known n h z f =
      unchosen (leb 2 (length (run_of (text_of L t.start t.end)))) _ (rw (sym e) (lt-leb 2 (length run) n))
      (rw (z, f) (answered (rw h) refl refl))

  pub suffix_unknown : length run < 2 → s ≡ span_of t → size_of (run_of (text_of L t.start t.end)) ≡ None → {x : Diagnostic} {m : Counters} → {w : Span} → w ≡ span (run_start s) s.end → x ≡ plain DiagnosticKinds.unknown_size_suffix s w → Raised D D' c x m
      → Told suffix_read (Same c.nodes) (suffix_run from t (run_of (text_of L t.start t.end))) L T D D' c (Some (record { size = 0; span = s })) m
  unfolding suffix_run known
  suffix_unknown n h z q w g =
      unchosen (leb 2 (length (run_of (text_of L t.start t.end)))) _ (rw (sym e) (lt-leb 2 (length run) n))
      (rw z (unknown_told t h (w ∙ rw (q, h)) g))

-- ---- a scale

pub scale_small : (v : ℕ) → scale_of v ≡ true → v < 256
unfolding scale_of
scale_small v h = first (eqb v 1) refl (eqb v 2) refl (eqb v 4) refl (eqb v 8) refl h
  where
    first : (a : Bool) → eqb v 1 ≡ a → (b : Bool) → eqb v 2 ≡ b → (c : Bool) → eqb v 4 ≡ c → (d : Bool) → eqb v 8 ≡ d → either a (either b (either c d)) ≡ true → v < 256
    first true p b q c r d s h = omega (arith, eqb-true v 1 p)
    first false p true q c r d s h = omega (arith, eqb-true v 2 q)
    first false p false q true r d s h = omega (arith, eqb-true v 4 r)
    first false p false q false r true s h = omega (arith, eqb-true v 8 s)
    first false p false q false r false s h = absurd (true_false (sym h))

-- a scale behind its value
pub value_scaled : (s : Setting) (shape : ℕ) (i : IndexRegister) (t : Token) (x : List ℕ) {L T D D₁ D₂ : List ℕ} {c c₁ : Counters} {n : ℕ} {v : Option IndexRegister} {r : Counters} → c.diagnostics < 65535
    → ValueTold D D₁ c t (number_of t.detail x) n c₁ → Told (λ z. z) (Same c₁.nodes) (scaled s shape i t n) L T D₁ D₂ c₁ v r → Told (λ z. z) (Same c.nodes) (scale_value s shape i t x) L T D D₂ c v r
value_scaled s shape i t x room h k = let w = value_told (number_of t.detail x) room h in bound_as w (same w.held k)

-- behind the token of a suffix
pub suffix_taken : (from : ℕ) {L T D D' : List ℕ} {c c₁ : Counters} {v : Option Suffixed} {r : Counters} {k : Token} → token_at T c.at ≡ Some k → k.kind ≡ Kinds.size_suffix → c₁ ≡ stepped c k
    → Told suffix_read (Same c₁.nodes) (suffix_run from k (run_of (text_of L k.start k.end))) L T D D' c₁ v r → Told suffix_read (Same c.nodes) (take_size_suffix from) L T D D' c v r
unfolding take_size_suffix
suffix_taken from h e step g = hit_same h (eq-eqb _ Kinds.size_suffix e) step g

-- an index with its size, as the code has it
pub index_sized : (s : Setting) (shape : ℕ) (q : Register) (b : Bool) (z : Suffix) {x : Suffixed} → x ≡ size_or_none q.span (suffix_read z)
    → index_scale s shape (record { register = q; size = x.size; scale = 0; suppressed = b; span = span q.span.start x.span.end }) ≡ index_size s shape q b z
unfolding index_size suffix_read
index_sized s shape q b (suffixed n t) e = rw e refl
index_sized s shape q b bare e = rw e refl

-- ---- an index register

suppressed_or_is : (m n : Option Register) {q : Register} {b : Bool} → suppressed_or m n ≡ Some (q, b) → ((m ≡ Some q) × (b ≡ true)) ⊎ ((n ≡ Some q) × (b ≡ false))
unfolding suppressed_or
suppressed_or_is (Some a) n {q} {b} h = let z : ◌≡◌ {A = Register × Bool} (a, true) (q, b) = cc in inl (ap (λ w. Some w.0) z, ap (λ (w : Register × Bool). w.1) (sym z))
suppressed_or_is None (Some a) {q} {b} h = let z : ◌≡◌ {A = Register × Bool} (a, false) (q, b) = cc in inr (ap (λ w. Some w.0) z, ap (λ (w : Register × Bool). w.1) (sym z))
suppressed_or_is None None h = absurd (none-some _ h)

suppressed_or_not : (m n : Option Register) → suppressed_or m n ≡ None → (m ≡ None) × (n ≡ None)
unfolding suppressed_or
suppressed_or_not (Some a) n h = absurd (none-some _ (sym h))
suppressed_or_not None (Some a) h = absurd (none-some _ (sym h))
suppressed_or_not None None h = (refl, refl)

module _ {L T D D' : List ℕ} {c : Counters} {v : Option IndexRegister} {r : Counters} (s : Setting) (shape : ℕ) where
  pub index_found : {q : Register} {b : Bool} {c₁ : Counters} → Found (index_at s c.at) L T c (q, b) c₁ → Told (λ z. z) (Same c₁.nodes) (index_register s shape q b) L T D D' c₁ v r
      → Told (λ z. z) (Same c.nodes) (parse_index_register s shape) L T D D' c v r
  unfolding parse_index_register index_at
  index_found {q} {b} f g =
      hereby (elim (suppressed_or_is _ _ f.is) [
        | inl w ↦ miss f.stands (suppressed_no_register s c.at _ _ w.0) (hit_same f.stands (suppressed_hit s c.at _ _ w.0) f.over (renamed (ap₂ (index_register s shape) (sym (suppressed_as s c.at _ _ w.0)) w.1) g))
        | inr w ↦ hit_same f.stands (is_a_register _ _ w.0) f.over (renamed (ap₂ (index_register s shape) (sym (register_is _ _ w.0)) w.1) g)
      ])

  pub index_missing : {x : Option (Register × Bool)} {c₁ : Counters} → NextBy (index_at s c.at) L T c x c₁ → x ≡ None → Told (λ z. z) (Same c₁.nodes) (stepped_over s shape Problems.index_missing) L T D D' c₁ v r
      → Told (λ z. z) (Same c.nodes) (parse_index_register s shape) L T D D' c v r
  unfolding parse_index_register index_at
  index_missing (hits t y at e w o) h g = absurd (none-some _ (sym h ∙ w))
  index_missing (misses t at e w o) h g =
      let m = suppressed_or_not _ _ e in
      hereby (miss at (no_register _ _ m.1) (miss at (suppressed_miss s c.at _ _ m.0) (rw o at g)))
  index_missing (ends at w o) h g = hereby (done at (done at (rw o at g)))
