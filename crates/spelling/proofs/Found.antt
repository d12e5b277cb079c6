-- The parts of an operand that are read in silence are spelled so.
-- Assumes nothing.
use Rattle.std.specs.Prelude.{◌≡◌, Bool, false, not, List, ◌⊎◌, ℕ, ◌+◌, ◌-◌, ◌<◌, eqb, leb, length, Option, Some, None}
use Rattle.std.proofs.Math.Path.{refl}
use Rattle.std.proofs.Common.{Result, Ok, sym, ◌∙◌, arith}
use Rattle.std.proofs.Math.Bool.{true}
use Rattle.std.proofs.Math.Logic.{inl, inr}
use borrow.Author.Tests.{eqb-true, leb-true, leb-false}
use Rattle.names.specs.Choice.{both, either}
use Rattle.names.specs.Kinds
use Rattle.names.specs.Places.{Place, nothing, stands}
use Rattle.names.specs.Registers.{register_of, program_counter, suppressed_of}
use Rattle.names.specs.Sizes.{run_of, size_of}
use Rattle.names.specs.Numbers.{number_of}
use Rattle.names.specs.Reserved.{is_register}
use Rattle.names.specs.declared.tokens.Token.{Token}
use Rattle.names.specs.declared.registers.Suppressed.{Suppressed}
use Rattle.names.specs.declared.sizes.SizeSuffix.{SizeSuffix}
use Rattle.names.specs.declared.numbers.NumberError.{NumberError}
use Rattle.records.specs.Spans.{span, span_of}
use Rattle.expressions.specs.declared.reading.Setting.{Setting}
use Rattle.expressions.specs.Reader.{is}
use Rattle.expressions.specs.Expressions.{Suffix, suffixed, bare, known, suffix_run, take_size_suffix}
use Rattle.expressions.specs.Laws.{holds}
use Rattle.expressions.proofs.Costs.{true_false}
use Rattle.operand.specs.Operand
use Rattle.operand.specs.Operand.{is_address, is_suppressed, is_suppressed_register, is_suppressed_address, a_register, an_address_register, a_program_counter, unmarked, size_or_scale, index_of, suppressed_index, register_from}
use Rattle.operand.specs.declared.forms.Register.{Register}
use Rattle.operand.specs.declared.forms.IndexRegister.{IndexRegister}
use Rattle.operand.specs.declared.forms.BaseRegister.{BaseRegister}
use Rattle.operand.specs.declared.forms.Registers.{Registers}
use Rattle.spelling.specs.Signs.{Sign, RegisterAt, register_spelled, CounterAt, SuppressedAt}
use Rattle.spelling.specs.Expressions.{Worth, value, invalid}
use Rattle.spelling.specs.Spelling
use Rattle.spelling.specs.Spelling.{Letter, no_size, a_size, Factor, no_scale, a_scale, AddressAt, an_address, IndexAt, plain, suppressed, Indexes, index_spelled, Bases, BaseAndIndex}
use Rattle.spelling.proofs.Names
use Rattle.spelling.proofs.Looks.{looks_register, looks_suppressed}
use Rattle.spelling.specs.Silence.{Silent, Quiet}
use Rattle.spelling.proofs.Silence.{call, silent_choose}
use Rattle.spelling.proofs.Sound.{signed, valued_sound}

-- ---- names, by the tests that they pass

module _ {at : ℕ → Place} {i : ℕ} {k : Token} {x : List ℕ} (h : at i ≡ stands k x) where
  pub found_register : a_register k x ≡ true → RegisterAt at i (register_from k x)
  unfolding a_register register_from index_of
  found_register q = go (register_of x) refl (Names.both_second (eqb k.kind Kinds.identifier) _ q)
    where
      go : (r : Option ℕ) → register_of x ≡ r → is_register r ≡ true → RegisterAt at i (record { index = index_of r; span = span_of k })
      go (Some r) e g = register_spelled (signed Kinds.identifier h (Names.both_first _ (is_register (register_of x)) q)) e
      go None e g = absurd (true_false (sym g))

  pub found_address : an_address_register k x ≡ true → AddressAt at i (register_from k x)
  unfolding an_address_register register_from index_of is_address
  found_address q = go (register_of x) refl (Names.both_second (eqb k.kind Kinds.identifier) _ q)
    where
      go : (r : Option ℕ) → register_of x ≡ r → is_address r ≡ true → AddressAt at i (record { index = index_of r; span = span_of k })
      go (Some r) e g = an_address (register_spelled (signed Kinds.identifier h (Names.both_first _ (is_address (register_of x)) q)) e) (leb-true 8 r g)
      go None e g = absurd (true_false (sym g))

  pub found_counter : a_program_counter k x ≡ true → CounterAt at i
  unfolding a_program_counter
  found_counter q = record { name = signed Kinds.identifier h (Names.both_first _ (program_counter x) q); counter = Names.both_second (eqb k.kind Kinds.identifier) _ q }

-- what a suppressed name that is not at the mark has passed
module _ (s : Setting) (i : ℕ) (k : Token) (x : List ℕ) (f : Option Suppressed → Bool) (q : unmarked s i f k x ≡ true) where
  suppressed_name : both (eqb k.kind Kinds.identifier) (f (suppressed_of x)) ≡ true
  unfolding unmarked
  suppressed_name = Names.both_second (not (eqb s.mark i)) _ q

  pub suppressed_unmarked : eqb s.mark i ≡ false
  unfolding unmarked
  suppressed_unmarked = Names.not-true (eqb s.mark i) (Names.both_first _ (both (eqb k.kind Kinds.identifier) (f (suppressed_of x))) q)

  pub suppressed_identified : eqb k.kind Kinds.identifier ≡ true
  suppressed_identified = Names.both_first _ (f (suppressed_of x)) suppressed_name

  pub suppressed_passes : f (suppressed_of x) ≡ true
  suppressed_passes = Names.both_second (eqb k.kind Kinds.identifier) _ suppressed_name

  abbrev pub found_suppressed : {at : ℕ → Place} {z : Option Suppressed} → at i ≡ stands k x → suppressed_of x ≡ z → SuppressedAt s at i z
  found_suppressed h e = record { name = signed Kinds.identifier h suppressed_identified; unmarked = suppressed_unmarked; suppressed = e }

-- `zpc`
abbrev is_counter : Option Suppressed → Bool
is_counter z = both (is_suppressed z) (not (is_suppressed_register z))

module _ (s : Setting) {at : ℕ → Place} {i : ℕ} {k : Token} {x : List ℕ} (h : at i ≡ stands k x) where
  pub found_index : unmarked s i is_suppressed_register k x ≡ true → IndexAt s at i true (record { index = suppressed_index (suppressed_of x); span = span_of k })
  unfolding suppressed_index is_suppressed_register
  found_index q = go (suppressed_of x) refl (suppressed_passes s i k x is_suppressed_register q)
    where
      go : (z : Option Suppressed) → suppressed_of x ≡ z → is_suppressed_register z ≡ true → IndexAt s at i true (record { index = suppressed_index z; span = span_of k })
      go (Some (Suppressed.Register r)) e g = suppressed (found_suppressed s i k x is_suppressed_register q h e)
      go (Some Suppressed.ProgramCounter) e g = absurd (true_false (sym g))
      go None e g = absurd (true_false (sym g))

  pub found_base : unmarked s i is_suppressed_address k x ≡ true → Bases s at i (BaseRegister.SuppressedAddress (suppressed_index (suppressed_of x) - 8))
  unfolding suppressed_index is_suppressed_address
  found_base q = go (suppressed_of x) refl (suppressed_passes s i k x is_suppressed_address q)
    where
      go : (z : Option Suppressed) → suppressed_of x ≡ z → is_suppressed_address z ≡ true → Bases s at i (BaseRegister.SuppressedAddress (suppressed_index z - 8))
      go (Some (Suppressed.Register r)) e g = Spelling.suppressed_address (found_suppressed s i k x is_suppressed_address q h e) (leb-true 8 r g)
      go (Some Suppressed.ProgramCounter) e g = absurd (true_false (sym g))
      go None e g = absurd (true_false (sym g))

  pub found_suppressed_counter : unmarked s i is_counter k x ≡ true → Bases s at i BaseRegister.SuppressedProgramCounter
  unfolding is_suppressed is_suppressed_register
  found_suppressed_counter q = go (suppressed_of x) refl (suppressed_passes s i k x is_counter q)
    where
      go : (z : Option Suppressed) → suppressed_of x ≡ z → is_counter z ≡ true → Bases s at i BaseRegister.SuppressedProgramCounter
      go (Some (Suppressed.Register r)) e g = absurd (true_false (sym g))
      go (Some Suppressed.ProgramCounter) e g = Spelling.suppressed_counter (found_suppressed s i k x is_counter q h e)
      go None e g = absurd (true_false (sym g))

-- ---- sizes and scales

-- a size, or none where none stands
pub data SuffixAt (at : ℕ → Place) (i : ℕ) : ℕ → Suffix → Type 0 where
  a_suffix : {n : ℕ} (t : Letter at i n) → SuffixAt at i (i + 1) (suffixed n (span_of t.sign.token))
  no_suffix : holds (is Kinds.size_suffix) (at i) ≡ false → SuffixAt at i i bare

pub suffix_sound : (at : ℕ → Place) (from i l : ℕ) → Quiet (take_size_suffix from) at (λ j m z. SuffixAt at i j z) i l
unfolding Silent take_size_suffix suffix_run known
suffix_sound at from i l = record {
  all = ((λ k x e q w. silent_choose (leb 2 (length (run_of x))) _ _ _ _ _ _ (λ _. tt) λ _. (letter k x e q (size_of (run_of x)) refl).all), λ q. no_suffix q);
}
  where
    letter : (k : Token) (x : List ℕ) → at i ≡ stands k x → eqb k.kind Kinds.size_suffix ≡ true → (z : Option SizeSuffix) → size_of (run_of x) ≡ z
        → Quiet (known k z) at (λ j m z. SuffixAt at i j z) (i + 1) k.end
    letter k x e q (Some n) h = record { all = a_suffix (record { sign = signed Kinds.size_suffix e q; size = n; known = h; number = refl }) }
    letter k x e q None h = record { all = tt }

factors : (v : ℕ) → Operand.scale_of v ≡ true → Factor v
unfolding Operand.scale_of
factors v h = go (eqb v 1) refl (eqb v 2) refl (eqb v 4) refl h
  where
    go : (a : Bool) → eqb v 1 ≡ a → (b : Bool) → eqb v 2 ≡ b → (c : Bool) → eqb v 4 ≡ c → either a (either b (either c (eqb v 8))) ≡ true → Factor v
    go true p b q c r h = rw (eqb-true v 1 p) Spelling.one
    go false p true q c r h = rw (eqb-true v 2 q) Spelling.two
    go false p false q true r h = rw (eqb-true v 4 r) Spelling.four
    go false p false q false r h = rw (eqb-true v 8 h) Spelling.eight

-- the index register x, with a scale that stands at i or without
pub data ScaleAt (at : ℕ → Place) (x : IndexRegister) (i : ℕ) : ℕ → Option IndexRegister → Type 0 where
  unscaled : holds (is Kinds.star) (at i) ≡ false → ScaleAt at x i i (Some x)
  scaled : {v : ℕ} → Sign at Kinds.star i → (t : Sign at Kinds.number (i + 1)) → number_of t.token.detail t.text ≡ Ok v → Factor v
      → ScaleAt at x i (i + 1 + 1) (Some (Operand.with_scale x v t.token.end))
  unread : {j : ℕ} → ScaleAt at x i j None

-- a number that is worth a scale
scale_worth : (at : ℕ → Place) (x : IndexRegister) {i j v : ℕ} {t : Token} {z : List ℕ} {n : Result ℕ NumberError} → Worth n v → number_of t.detail z ≡ n → Sign at Kinds.star i
    → at (i + 1) ≡ stands t z → eqb t.kind Kinds.number ≡ true → j ≡ i + 1 + 1 → Operand.scale_of v ≡ true → ScaleAt at x i j (Some (Operand.with_scale x v t.end))
unfolding Operand.scale_of
scale_worth at x {v = v} value g star e q p f = rw p (scaled star (signed Kinds.number e q) g (factors v f))
scale_worth at x invalid g star e q p f = absurd (true_false (sym f))

scale_sound : (at : ℕ → Place) (s : Setting) (shape : ℕ) (x : IndexRegister) (i l : ℕ) → Quiet (Operand.index_scale s shape x) at (λ j m v. ScaleAt at x i j v) i l
unfolding Silent Operand.index_scale Operand.scaled Operand.stepped_over Operand.malformed
scale_sound at s shape x i l = record {
  all = (
    (λ k y e q w. (
      (λ t z e₂ q₂ w₂. call (valued_sound at t (number_of t.detail z) (i + 1 + 1) t.end) λ j m v a h.
          silent_choose (Operand.scale_of v) _ _ _ _ _ _ (λ f. scale_worth at x h.1 refl (signed Kinds.star e q) e₂ q₂ h.0 f) λ f. tt),
      λ q₂. ((λ t z e₂ q₃ w₂. tt), λ q₃. tt),
    )),
    λ q. unscaled q,
  );
}

-- ---- indexes

-- neither a size nor a scale
untailed : (at : ℕ → Place) (i : ℕ) → holds (is Kinds.size_suffix) (at i) ≡ false → holds (is Kinds.star) (at i) ≡ false → holds size_or_scale (at i) ≡ true → ⊥
unfolding holds size_or_scale
untailed at i a b c = go (at i) a b c
  where
    go : (p : Place) → holds (is Kinds.size_suffix) p ≡ false → holds (is Kinds.star) p ≡ false → holds size_or_scale p ≡ true → ⊥
    go nothing a b c = true_false (sym c)
    go (stands k x) a b c = true_false (sym (rw (a, b) at c))

module _ (s : Setting) (at : ℕ → Place) where
  -- an index, with all its tails
  abbrev pub IndexFound : ℕ → ℕ → Option IndexRegister → Type 0
  IndexFound i j (Some x) = Indexes s at i j x × (holds size_or_scale (at (i + 1)) ≡ true → i + 1 < j)
  IndexFound i j None = Unit {0}

  suffixed_scaled : {i n size : ℕ} {b : Bool} {r : Register} {v : Option IndexRegister} → IndexAt s at i b r → (t : Letter at (i + 1) size)
      → ScaleAt at (record { register = r; size = size; scale = 0; suppressed = b; span = span r.span.start t.sign.token.end }) (i + 1 + 1) n v → IndexFound i n v
  suffixed_scaled p t (unscaled q) = (index_spelled p (a_size t) no_scale, λ _. omega arith)
  suffixed_scaled p t (scaled star k e f) = (index_spelled p (a_size t) (a_scale star k e f), λ _. omega arith)
  suffixed_scaled p t unread = tt

  bare_scaled : {i n : ℕ} {b : Bool} {r : Register} {v : Option IndexRegister} → IndexAt s at i b r → holds (is Kinds.size_suffix) (at (i + 1)) ≡ false
      → ScaleAt at (record { register = r; size = 0; scale = 0; suppressed = b; span = r.span }) (i + 1) n v → IndexFound i n v
  bare_scaled {i} p u (unscaled q) = (index_spelled p no_size no_scale, λ t. absurd (untailed at (i + 1) u q t))
  bare_scaled p u (scaled star k e f) = (index_spelled p no_size (a_scale star k e f), λ _. omega arith)
  bare_scaled p u unread = tt

  index_sized : (shape : ℕ) {i j : ℕ} (m : ℕ) {b : Bool} {r : Register} {z : Suffix} → IndexAt s at i b r → SuffixAt at (i + 1) j z
      → Quiet (Operand.index_size s shape r b z) at (λ n m v. IndexFound i n v) j m
  unfolding Silent Operand.index_size
  index_sized shape m p (a_suffix t) = record { all = call (scale_sound at s shape _ _ _) λ n m v a h. suffixed_scaled p t h }
  index_sized shape m p (no_suffix q) = record { all = call (scale_sound at s shape _ _ _) λ n m v a h. bare_scaled p q h }

  index_tails : (shape : ℕ) {i : ℕ} (l : ℕ) {b : Bool} {r : Register} → IndexAt s at i b r → Quiet (Operand.index_register s shape r b) at (λ n m v. IndexFound i n v) (i + 1) l
  unfolding Silent Operand.index_register
  index_tails shape l p = record { all = call (suffix_sound at _ _ _) λ n m z a h. (index_sized shape m p h).all }

  pub index_sound : (shape i l : ℕ) → Quiet (Operand.parse_index_register s shape) at (λ n m v. IndexFound i n v) i l
  unfolding Silent Operand.parse_index_register Operand.stepped_over Operand.malformed
  index_sound shape i l = record {
    all = (
      (λ k x e q w. (index_tails shape k.end (plain (found_register e q))).all),
      λ _. (
        (λ k x e q w. (index_tails shape k.end (found_index s e q)).all),
        λ _. ((λ k x e q w. tt), λ q. tt),
      ),
    );
  }

  -- ---- bases

  abbrev pub BasesFound : ℕ → ℕ → Option Registers → Type 0
  BasesFound i j (Some r) = BaseAndIndex s at i j r
  BasesFound i j None = Unit {0}

  after_base_sound : (shape : ℕ) {i : ℕ} {b : BaseRegister} (l : ℕ) → Bases s at i b
      → Quiet (Operand.after_base_register s shape b) at (λ n m v. BasesFound i n v) (i + 1) l
  unfolding Silent Operand.after_base_register Operand.or_none
  after_base_sound shape l h = record {
    all = (
      (λ k x e q. (
        (λ c y e₂ q₂ w. call (index_sound shape _ _) λ n m. elim [ Some z ↦ λ a g. Spelling.base_index h (signed Kinds.comma e₂ q₂) g.0 | None ↦ λ a g. tt ]),
        λ q₂. Spelling.base h,
      )),
      λ q. Spelling.base h,
    );
  }

  -- an index alone, of which it is known that it is no base
  no_base_sound : (shape i l : ℕ)
      → ((j : ℕ) (x : IndexRegister) → Indexes s at i j x → (holds size_or_scale (at (i + 1)) ≡ true → i + 1 < j) → (x.register.index < 8) ⊎ (i + 1 < j))
      → Quiet (Operand.no_base s shape) at (λ n m v. BasesFound i n v) i l
  unfolding Silent Operand.no_base Operand.or_none Operand.stepped_over Operand.malformed
  no_base_sound shape i l f = record {
    all = (
      (λ k x e q. call (index_sound shape i l) λ n m. elim [ Some z ↦ λ a g. Spelling.index g.0 (f n z g.0 g.1) | None ↦ λ a g. tt ]),
      λ q. ((λ k x e q₂ w. tt), λ q₂. tt),
    );
  }

  -- an index that is neither an address register nor suppressed as one
  small_index : {i j : ℕ} {x : IndexRegister} → Indexes s at i j x → holds an_address_register (at i) ≡ false → holds (unmarked s i is_suppressed_address) (at i) ≡ false
      → x.register.index < 8
  unfolding is_address is_suppressed is_suppressed_address
  small_index (index_spelled (plain {r = r} p) sz sc) a b = leb-false 8 r.index (sym (looks_register {s = s} p).addresses ∙ a)
  small_index (index_spelled (suppressed {r = r} z) sz sc) a b = leb-false 8 r (sym ((looks_suppressed z refl).suppressions is_suppressed_address refl) ∙ b)

  pub bases_sound : (shape i l : ℕ) → Quiet (Operand.parse_base_and_index_registers s shape) at (λ n m v. BasesFound i n v) i l
  unfolding Silent Operand.parse_base_and_index_registers holds
  bases_sound shape i l = record {
    all = (
      (λ k x e q w. (after_base_sound shape k.end (Spelling.counter (found_counter e q))).all),
      λ _. (
        (λ k x e q w. (after_base_sound shape k.end (found_suppressed_counter s e q)).all),
        λ _. (
          (λ k x e q. (no_base_sound shape i l (λ j z h g. inr (g (rw e q)))).all),
          λ _. (
            (λ k x e q w. (after_base_sound shape k.end (Spelling.address (found_address e q))).all),
            λ a. (
              (λ k x e q w. (after_base_sound shape k.end (found_base s e q)).all),
              λ b. (no_base_sound shape i l (λ j z h g. inl (small_index h a b))).all,
            ),
          ),
        ),
      ),
    );
  }
