-- The parts of an operand that are spelled are read: sizes, scales, indexes, bases, displacements, lists.
-- Assumes nothing.
use Rattle.std.specs.Prelude.{◌≡◌, Bool, not, List, [], ◌∷◌, ◌⊎◌, ℕ, ◌+◌, ◌≤◌, ◌<◌, leb, length, Some, None}
use Rattle.std.proofs.Math.Path.{refl, ap}
use Rattle.std.proofs.Common.{Option, sym, ◌∙◌, inl, inr, arith}
use Rattle.std.proofs.Math.Bool.{true, false}
use borrow.Author.Tests.{le-leb, lt-leb}
use Rattle.names.specs.Choice.{both, either}
use Rattle.names.specs.Kinds
use Rattle.names.specs.Places.{Place, nothing, stands}
use Rattle.names.specs.Registers.{register_of}
use Rattle.names.specs.Sizes.{run_of, size_of}
use Rattle.names.specs.Reserved.{is_register}
use Rattle.names.specs.declared.tokens.Token.{Token}
use Rattle.names.specs.declared.registers.Suppressed.{Suppressed}
use Rattle.names.specs.declared.sizes.SizeSuffix.{SizeSuffix}
use Rattle.records.specs.Spans.{span, span_of}
use Rattle.expressions.specs.declared.reading.Setting.{Setting}
use Rattle.expressions.specs.Reader.{Test, is}
use Rattle.expressions.specs.Expressions.{suffixed, bare, known, suffix_run, take_size_suffix, valued}
use Rattle.expressions.specs.Laws.{holds}
use Rattle.expressions.proofs.Costs.{true_false}
use Rattle.operand.specs.Operand
use Rattle.operand.specs.Operand.{is_address, is_suppressed, is_suppressed_register, is_suppressed_address, a_register, an_address_register, a_program_counter, unmarked, an_index, a_base_or_an_index, size_or_scale, index_of, suppressed_index, register_from, registers}
use Rattle.operand.specs.declared.forms.Register.{Register}
use Rattle.operand.specs.declared.forms.IndexRegister.{IndexRegister}
use Rattle.operand.specs.declared.forms.BaseRegister.{BaseRegister}
use Rattle.operand.specs.declared.forms.Registers.{Registers}
use Rattle.spelling.specs.Signs.{Sign, Name, register_spelled}
use Rattle.spelling.specs.Spelling
use Rattle.spelling.specs.Spelling.{Letter, Sized, no_size, a_size, Factor, Scaled, no_scale, a_scale, IndexAt, plain, suppressed, Indexes, index_spelled, Bases, BaseAndIndex}
use Rattle.spelling.proofs.Readings.{Reads, answers, from_here, then, steps, passes, sees, misses, either_way, other, kinded}
use Rattle.spelling.proofs.Looks.{held, Looks, looks_register, looks_counter, looks_suppressed, Stops, stops_comma}

pub first_of_lem : {A B : Type 0} → A ⊎ B → (B → ⊥) → A
first_of_lem (inl a) h = a
first_of_lem (inr b) h = absurd (h b)

-- ---- sizes and scales

-- a known size is one letter
one_letter : (x : List ℕ) (n : SizeSuffix) → size_of x ≡ Some n → leb 2 (length x) ≡ false
unfolding size_of
one_letter [] n h = refl
one_letter (c ∷ []) n h = refl
one_letter (c ∷ d ∷ ds) n h = absurd (unknown h)
  where
    sized? : Option SizeSuffix → Bool
    sized? (Some m) = true
    sized? None = false

    unknown : None ≡ Some n → ⊥
    unknown e = true_false (sym (ap sized? e))

-- the index register as it is before its scale is read
abbrev before : Register → ℕ → Bool → ℕ → IndexRegister
before r size b z = record { register = r; size = size; scale = 0; suppressed = b; span = span r.span.start z }

factor : {v : ℕ} → Factor v → Operand.scale_of v ≡ true
unfolding Operand.scale_of
factor Spelling.one = refl
factor Spelling.two = refl
factor Spelling.four = refl
factor Spelling.eight = refl

module _ {at : ℕ → Place} where
  pub letter_read : {i n : ℕ} (from l : ℕ) (t : Letter at i n) → Reads (take_size_suffix from) at i l (i + 1) (suffixed n (span_of t.sign.token))
  unfolding take_size_suffix suffix_run known
  letter_read from l t =
      steps t.sign.there (kinded t.sign Kinds.size_suffix refl) (rw (one_letter (run_of t.sign.text) t.size t.known, t.known, t.number) answers)

  pub no_letter : {i : ℕ} (from l : ℕ) → holds (is Kinds.size_suffix) (at i) ≡ false → Reads (take_size_suffix from) at i l i bare
  unfolding take_size_suffix
  no_letter from l q = passes q answers

  scale_read : {z j n scale y : ℕ} (s : Setting) (shape : ℕ) (r : Register) (size : ℕ) (b : Bool) → Scaled at z j n scale y → Stops at n → (l : ℕ)
      → Reads (Operand.index_scale s shape (before r size b z)) at j l n
      (Some (record { register = r; size = size; scale = scale; suppressed = b; span = span r.span.start y }))
  unfolding Operand.index_scale Operand.scaled valued
  scale_read s shape r size b no_scale stop l = passes stop.star answers
  scale_read s shape r size b (a_scale star t q f) stop l =
      steps star.there (kinded star Kinds.star refl) (steps t.there (kinded t Kinds.number refl) (rw q (then answers λ n. rw (factor f) answers)))

  scale_unsized : {z j n scale y : ℕ} → Scaled at z j n scale y → Stops at n → holds (is Kinds.size_suffix) (at j) ≡ false
  scale_unsized no_scale stop = stop.size
  scale_unsized (a_scale star t q f) stop = other star Kinds.size_suffix refl

  tails_read : {i j n size scale z y : ℕ} (s : Setting) (shape : ℕ) (r : Register) (b : Bool) → Sized at r.span.end i j size z → Scaled at z j n scale y → Stops at n → (l : ℕ)
      → Reads (Operand.index_register s shape r b) at i l n
      (Some (record { register = r; size = size; scale = scale; suppressed = b; span = span r.span.start y }))
  unfolding Operand.index_register Operand.index_size
  tails_read s shape r b no_size sc stop l = then (no_letter _ _ (scale_unsized sc stop)) λ m. scale_read s shape r 0 b sc stop m
  tails_read s shape r b (a_size {n = n} t) sc stop l = then (letter_read _ _ t) λ m. scale_read s shape r n b sc stop m

-- neither follows
no_tail : {at : ℕ → Place} {j : ℕ} → Stops at j → holds size_or_scale (at j) ≡ false
unfolding holds size_or_scale
no_tail {at} {j} h = go (at j) h.size h.star
  where
    go : (p : Place) → holds (is Kinds.size_suffix) p ≡ false → holds (is Kinds.star) p ≡ false → holds size_or_scale p ≡ false
    go nothing a b = refl
    go (stands k x) a b = rw (a, b)

-- ---- indexes

pub sized_rises : {at : ℕ → Place} {b i j n z : ℕ} → Sized at b i j n z → i ≤ j
sized_rises no_size = omega arith
sized_rises (a_size t) = omega arith

pub scaled_rises : {at : ℕ → Place} {b i j n z : ℕ} → Scaled at b i j n z → i ≤ j
scaled_rises no_scale = omega arith
scaled_rises (a_scale star t q f) = omega arith

pub index_rises : {s : Setting} {at : ℕ → Place} {i n : ℕ} {x : IndexRegister} → Indexes s at i n x → i < n
index_rises (index_spelled p sz sc) = omega (arith, sized_rises sz, scaled_rises sc)

-- two tests, of which one passes
pub holds_either : (f g : Test) (p : Place) → holds (λ t x. either (f t x) (g t x)) p ≡ either (holds f p) (holds g p)
unfolding holds
holds_either f g nothing = refl
holds_either f g (stands k x) = refl

-- a token that passes a test
pub record Seen (at : ℕ → Place) (t : Test) (i : ℕ) : Type 0 where
  pub token : Token
  pub text : List ℕ
  pub there : at i ≡ stands token text
  pub passed : t token text ≡ true

pub registered : (t : Token) (x : List ℕ) (r : ℕ) → register_of x ≡ Some r → register_from t x ≡ record { index = r; span = span_of t }
unfolding register_from index_of
registered t x r q = rw q refl

-- what an index looks like at its register
record Indexing (s : Setting) (at : ℕ → Place) (i r : ℕ) : Type 0 where
  counters : holds a_program_counter (at i) ≡ false
  not_counter : holds (unmarked s i λ z. both (is_suppressed z) (not (is_suppressed_register z))) (at i) ≡ false
  addresses : r < 8 → holds an_address_register (at i) ≡ false
  suppressions : r < 8 → holds (unmarked s i is_suppressed_address) (at i) ≡ false

-- the name that BI begins with
pub record Begun (s : Setting) (at : ℕ → Place) (i : ℕ) : Type 0 where
  pub name : Name at i
  pub passed : a_base_or_an_index s i name.token name.text ≡ true

-- behind a base that no index follows
base_alone : (s : Setting) {at : ℕ → Place} {j : ℕ} (shape : ℕ) (b : BaseRegister) → holds (is Kinds.comma) (at j) ≡ false → (l : ℕ)
    → Reads (Operand.after_base_register s shape b) at j l j (Some (registers b None))
unfolding Operand.after_base_register
base_alone s shape b q l = from_here (either_way refl (λ t x h g. passes q answers) λ g. answers)

module _ {s : Setting} {at : ℕ → Place} where
  pub index_read_lem : {i n : ℕ} {x : IndexRegister} → Indexes s at i n x → Stops at n → (shape l : ℕ) → Reads (Operand.parse_index_register s shape) at i l n (Some x)
  unfolding Operand.parse_index_register suppressed_index is_suppressed is_suppressed_register
  index_read_lem (index_spelled (plain (register_spelled {r = r} t q)) sz sc) stop shape l =
      let k = looks_register {s = s} (register_spelled t q) in
      from_here (steps t.there (held a_register t k.registers) (rw (registered t.token t.text r q) (tails_read s shape _ false sz sc stop _)))
  index_read_lem {i = i} (index_spelled (suppressed {r = r} z) sz sc) stop shape l =
      let k = looks_suppressed z refl in
      let t = z.name in
      from_here (passes k.registers (steps t.there (held (unmarked s i is_suppressed_register) t (k.suppressions is_suppressed_register refl))
      (rw z.suppressed (tails_read s shape _ true sz sc stop _))))

  pub looks_index : {i : ℕ} {r : Option ℕ} {pc : Bool} {z : Option Suppressed} → Looks s at i r pc z → holds (an_index s i) (at i) ≡ either (is_register r) (is_suppressed_register z)
  unfolding holds an_index is_suppressed_register
  looks_index {i} k = holds_either a_register (unmarked s i is_suppressed_register) (at i) ∙ rw (k.registers, k.suppressions is_suppressed_register refl) refl

  pub looks_bases : {i : ℕ} {r : Option ℕ} {pc : Bool} {z : Option Suppressed} → Looks s at i r pc z
      → holds (a_base_or_an_index s i) (at i) ≡ either pc (either (is_register r) (is_suppressed z))
  unfolding holds a_base_or_an_index is_suppressed
  looks_bases {i} k =
      holds_either a_program_counter _ (at i) ∙ ap (either (holds a_program_counter (at i))) (holds_either a_register (unmarked s i is_suppressed) (at i))
      ∙ rw (k.counters, k.registers, k.suppressions is_suppressed refl) refl

  pub index_seen : {i n : ℕ} {x : IndexRegister} → Indexes s at i n x → Seen at (an_index s i) i
  unfolding an_index is_suppressed is_suppressed_register
  index_seen (index_spelled (plain (register_spelled t q)) sz sc) =
      let k = looks_register {s = s} (register_spelled t q) in
      record { token = t.token; text = t.text; there = t.there; passed = rw (held a_register t k.registers) }
  index_seen {i = i} (index_spelled (suppressed z) sz sc) =
      let k = looks_suppressed z refl in
      let t = z.name in
      record {
        token = t.token;
        text = t.text;
        there = t.there;
        passed = rw (held a_register t k.registers, held (unmarked s i is_suppressed_register) t (k.suppressions is_suppressed_register refl));
      }

  -- ---- bases

  -- behind a base, a comma and an index
  base_indexed : {j n : ℕ} {x : IndexRegister} (shape : ℕ) (b : BaseRegister) → Sign at Kinds.comma j → Indexes s at (j + 1) n x → Stops at n → (l : ℕ)
      → Reads (Operand.after_base_register s shape b) at j l n (Some (registers b (Some x)))
  unfolding Operand.after_base_register Operand.or_none
  base_indexed shape b c x stop l =
      let z = index_seen x in
      from_here (sees refl z.there z.passed (steps c.there (kinded c Kinds.comma refl) (then (index_read_lem x stop shape _) λ m. answers)))

  base_read : {i j : ℕ} {b : BaseRegister} {a : Registers} (shape : ℕ) → Bases s at i b → Stops at (i + 1)
      → ((l : ℕ) → Reads (Operand.after_base_register s shape b) at (i + 1) l j (Some a)) → (l : ℕ)
      → Reads (Operand.parse_base_and_index_registers s shape) at i l j (Some a)
  unfolding Operand.parse_base_and_index_registers suppressed_index is_address is_suppressed is_suppressed_register is_suppressed_address
  base_read shape (Spelling.address (Spelling.an_address (register_spelled {r = r} t q) low)) stop h l =
      let k = looks_register {s = s} (register_spelled t q) in
      from_here (passes k.counters (passes (k.suppressions _ refl) (misses refl (no_tail stop) (steps t.there (held an_address_register t (k.addresses ∙ le-leb 8 r low))
      (rw (registered t.token t.text r q) (h _))))))
  base_read shape (Spelling.counter c) stop h l =
      let k = looks_counter {s = s} c in
      from_here (steps c.name.there (held a_program_counter c.name k.counters) (h _))
  base_read {i = i} shape (Spelling.suppressed_address {r = r} z low) stop h l =
      let k = looks_suppressed z refl in
      from_here (passes k.counters (passes (k.suppressions _ refl) (misses refl (no_tail stop) (passes k.addresses
      (steps z.name.there (held (unmarked s i is_suppressed_address) z.name (k.suppressions is_suppressed_address refl ∙ le-leb 8 r low))
      (rw z.suppressed (h _)))))))
  base_read {i = i} shape (Spelling.suppressed_counter z) stop h l =
      let k = looks_suppressed z refl in
      from_here (passes k.counters (steps z.name.there (held _ z.name (k.suppressions _ refl)) (h _)))

  -- an index and no base, once it is known to be none
  no_base_lem : {i n : ℕ} {x : IndexRegister} (shape : ℕ) → Indexes s at i n x → Stops at n → (l : ℕ)
      → Reads (Operand.no_base s shape) at i l n (Some (registers BaseRegister.Omitted (Some x)))
  unfolding Operand.no_base Operand.or_none
  no_base_lem shape x stop l =
      let z = index_seen x in
      from_here (sees (omega arith) z.there z.passed (then (index_read_lem x stop shape _) λ m. answers))

  indexing : {i : ℕ} {b : Bool} {r : Register} → IndexAt s at i b r → Indexing s at i r.index
  unfolding is_address is_suppressed is_suppressed_register is_suppressed_address
  indexing (plain {r = r} p) =
      let k = looks_register {s = s} p in
      record {
        counters = k.counters;
        not_counter = k.suppressions _ refl;
        addresses = λ h. k.addresses ∙ lt-leb 8 r.index h;
        suppressions = λ h. k.suppressions _ refl;
      }
  indexing (suppressed {r = r} z) =
      let k = looks_suppressed z refl in
      record {
        counters = k.counters;
        not_counter = k.suppressions _ refl;
        addresses = λ h. k.addresses;
        suppressions = λ h. k.suppressions is_suppressed_address refl ∙ lt-leb 8 r h;
      }

  -- X where X is no B
  index_alone : {i n : ℕ} {x : IndexRegister} (shape : ℕ) → Indexes s at i n x → (x.register.index < 8) ⊎ (i + 1 < n) → Stops at n → (l : ℕ)
      → Reads (Operand.parse_base_and_index_registers s shape) at i l n (Some (registers BaseRegister.Omitted (Some x)))
  unfolding Operand.parse_base_and_index_registers size_or_scale
  index_alone {i = i} shape (index_spelled p no_size no_scale) h stop l =
      let k = indexing p in
      let small = first_of_lem h (omega arith) in
      from_here (passes k.counters (passes k.not_counter (misses refl (no_tail stop) (passes (k.addresses small) (passes (k.suppressions small)
      (no_base_lem shape (index_spelled p no_size no_scale) stop l))))))
  index_alone shape (index_spelled p (a_size t) sc) h stop l =
      let k = indexing p in
      from_here (passes k.counters (passes k.not_counter (sees refl t.sign.there (rw t.sign.of refl)
      (no_base_lem shape (index_spelled p (a_size t) sc) stop l))))
  index_alone shape (index_spelled p no_size (a_scale star t q f)) h stop l =
      let k = indexing p in
      from_here (passes k.counters (passes k.not_counter (sees refl star.there (rw star.of refl)
      (no_base_lem shape (index_spelled p no_size (a_scale star t q f)) stop l))))

  -- BI, where no comma follows
  pub bases_read : {i j : ℕ} {r : Registers} (shape : ℕ) → BaseAndIndex s at i j r → Stops at j → holds (is Kinds.comma) (at j) ≡ false → (l : ℕ)
      → Reads (Operand.parse_base_and_index_registers s shape) at i l j (Some r)
  bases_read shape (Spelling.base {b = b} h) stop q l = base_read shape h stop (base_alone s shape b q) l
  bases_read shape (Spelling.base_index {b = b} h c x) stop q l = base_read shape h (stops_comma c) (base_indexed shape b c x stop) l
  bases_read shape (Spelling.index x h) stop q l = index_alone shape x h stop l

  begun_base : {i : ℕ} {b : BaseRegister} → Bases s at i b → Begun s at i
  unfolding is_suppressed
  begun_base {i} (Spelling.address (Spelling.an_address (register_spelled t q) low)) = record { name = t; passed = held (a_base_or_an_index s i) t (looks_bases (looks_register (register_spelled t q))) }
  begun_base {i} (Spelling.counter c) = record { name = c.name; passed = held (a_base_or_an_index s i) c.name (looks_bases (looks_counter c)) }
  begun_base {i} (Spelling.suppressed_address z low) = record { name = z.name; passed = held (a_base_or_an_index s i) z.name (looks_bases (looks_suppressed z refl)) }
  begun_base {i} (Spelling.suppressed_counter z) = record { name = z.name; passed = held (a_base_or_an_index s i) z.name (looks_bases (looks_suppressed z refl)) }

  begun_index : {i n : ℕ} {x : IndexRegister} → Indexes s at i n x → Begun s at i
  unfolding is_suppressed
  begun_index {i} (index_spelled (plain (register_spelled t q)) sz sc) = record { name = t; passed = held (a_base_or_an_index s i) t (looks_bases (looks_register (register_spelled t q))) }
  begun_index {i} (index_spelled (suppressed z) sz sc) = record { name = z.name; passed = held (a_base_or_an_index s i) z.name (looks_bases (looks_suppressed z refl)) }

  pub begun : {i j : ℕ} {r : Registers} → BaseAndIndex s at i j r → Begun s at i
  begun (Spelling.base h) = begun_base h
  begun (Spelling.base_index h c x) = begun_base h
  begun (Spelling.index x h) = begun_index x
