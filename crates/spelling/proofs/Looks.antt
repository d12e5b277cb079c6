-- What the reader's tests come to at a place, by what stands there.
-- Assumes nothing.
use Rattle.std.specs.Prelude.{◌≡◌, Bool, not, ◌⊎◌, ℕ, ◌≤◌, ◌<◌}
use Rattle.std.proofs.Math.Path.{refl, sym, ap}
use Rattle.std.proofs.Common.{Option, Some, None, ◌∙◌, arith}
use Rattle.std.proofs.Math.Bool.{true, false}
use mathlib.Core.List.{List}
use Rattle.std.proofs.Math.Logic.{inl, inr}
use borrow.Author.Tests.{le-leb, lt-leb}
use Rattle.std.proofs.Math.Dec.{eqb}
use Rattle.names.specs.Choice.{both}
use Rattle.names.specs.Kinds
use Rattle.names.specs.Places.{Place, nothing, stands}
use Rattle.names.specs.Registers.{register_of, program_counter, special_of, suppressed_of, reserved}
use Rattle.names.specs.Reserved.{is_register, is_special}
use Rattle.names.specs.declared.tokens.Token.{Token}
use Rattle.names.specs.declared.registers.Suppressed.{Suppressed}
use Rattle.expressions.specs.Trees.{Expr}
use Rattle.expressions.specs.declared.reading.Setting.{Setting}
use Rattle.expressions.specs.Reader.{Test, is}
use Rattle.expressions.specs.Expressions.{precedence}
use Rattle.expressions.specs.Laws.{holds}
use Rattle.expressions.proofs.Costs.{true_false}
use Rattle.operand.specs.Operand.{is_address, is_suppressed, name, a_register, an_address_register, a_program_counter, unmarked}
use Rattle.operand.specs.declared.forms.Register.{Register}
use Rattle.spelling.specs.Signs.{Sign, Name, RegisterAt, register_spelled, CounterAt, SuppressedAt, ordinary}
use Rattle.spelling.specs.Expressions.{Unary, Spells, a_number, a_literal, a_name, a_local, an_address, a_unary, a_group, own_group, tighter, joined}
use Rattle.spelling.specs.Expressions as E
use Rattle.spelling.specs.Spelling.{Closed}
use Rattle.spelling.proofs.Readings.{comes, other}
use Rattle.spelling.proofs.Climbs.{Ends, ends_by}
use Rattle.spelling.proofs.Names

-- a test at a token that is known
pub held : {at : ℕ → Place} {k i : ℕ} {b : Bool} (t : Test) (s : Sign at k i) → holds t (at i) ≡ b → t s.token s.text ≡ b
unfolding holds
held t s q = rw s.there at q

-- what stands at i is the register r, or none; the program counter, or not; the suppressed name z, or none
pub record Looks (s : Setting) (at : ℕ → Place) (i : ℕ) (r : Option ℕ) (pc : Bool) (z : Option Suppressed) : Type 0 where
  pub registers : holds a_register (at i) ≡ is_register r
  pub addresses : holds an_address_register (at i) ≡ is_address r
  pub counters : holds a_program_counter (at i) ≡ pc
  pub suppressions : (f : Option Suppressed → Bool) → f None ≡ false → holds (unmarked s i f) (at i) ≡ f z

-- nothing suppressed, whatever the mark
unsuppressed : (b : Bool) (x : List ℕ) → suppressed_of x ≡ None → (f : Option Suppressed → Bool) → f None ≡ false
    → both b (f (suppressed_of x)) ≡ f None
unsuppressed b x q f n = rw (q, n) (Names.both_false b)

module _ {s : Setting} {at : ℕ → Place} {i : ℕ} where
  -- a token that is no name
  pub looks_sign : {k : ℕ} → Sign at k i → eqb k Kinds.identifier ≡ false → Looks s at i None false None
  unfolding a_register an_address_register a_program_counter unmarked is_address
  looks_sign t q =
      let e = ap (λ k. eqb k Kinds.identifier) t.of ∙ q in
      record {
        registers = comes a_register t (rw e);
        addresses = comes an_address_register t (rw e);
        counters = comes a_program_counter t (rw e);
        suppressions = λ f n. comes (unmarked s i f) t (rw e (Names.both_false (not (eqb s.mark i)))) ∙ sym n;
      }

  looks_name : {r : Option ℕ} {pc : Bool} {z : Option Suppressed} (t : Name at i) → register_of t.text ≡ r → program_counter t.text ≡ pc
      → ((f : Option Suppressed → Bool) → f None ≡ false → both (not (eqb s.mark i)) (f (suppressed_of t.text)) ≡ f z)
      → Looks s at i r pc z
  unfolding a_register an_address_register a_program_counter unmarked holds
  looks_name t a b c =
      record {
        registers = rw (t.there, t.of, a) refl;
        addresses = rw (t.there, t.of, a) refl;
        counters = rw (t.there, t.of) b;
        suppressions = λ f n. rw (t.there, t.of) (c f n);
      }

  pub looks_register : {r : Register} → RegisterAt at i r → Looks s at i (Some r.index) false None
  looks_register (register_spelled {r = r} t q) =
      looks_name t q (Names.register_uncounted t.text r q) (unsuppressed (not (eqb s.mark i)) t.text (Names.register_unsuppressed t.text r q))

  pub looks_counter : CounterAt at i → Looks s at i None true None
  looks_counter c =
      let t = c.name in
      looks_name t (Names.counter_unregistered t.text c.counter) c.counter (unsuppressed (not (eqb s.mark i)) t.text (Names.counter_unsuppressed t.text c.counter))

  pub looks_suppressed : {z : Option Suppressed} → SuppressedAt s at i z → is_suppressed z ≡ true → Looks s at i None false z
  looks_suppressed {z} c q =
      let t = c.name in
      let h : is_suppressed (suppressed_of t.text) ≡ true = rw c.suppressed q in
      looks_name t (Names.suppressed_unregistered t.text h) (Names.suppressed_uncounted t.text h) λ f n. rw (c.unmarked, c.suppressed) refl

  -- a name that an expression may have
  pub looks_ordinary : (t : Name at i) → ordinary s.mark i t.text ≡ true → Looks s at i None false None
  unfolding ordinary is_suppressed
  looks_ordinary t q =
      let free = Names.not-true (reserved t.text) (Names.both_first (not (reserved t.text)) _ q) in
      looks_name t (Names.free_unregistered t.text free) (Names.free_uncounted t.text free)
      λ f n. go f (not (eqb s.mark i)) (suppressed_of t.text) (Names.not-true _ (Names.both_second (not (reserved t.text)) _ q)) n
    where
      go : (f : Option Suppressed → Bool) (b : Bool) (z : Option Suppressed) → both b (is_suppressed z) ≡ false → f None ≡ false → both b (f z) ≡ f None
      go f false z h n = sym n
      go f true (Some (Suppressed.Register r)) h n = absurd (true_false h)
      go f true (Some Suppressed.ProgramCounter) h n = absurd (true_false h)
      go f true None h n = refl

-- ---- what excludes each other

module _ (s : Setting) {at : ℕ → Place} {i : ℕ} where
  pub suppressed_no_register : {z : Option Suppressed} {r : Register} → SuppressedAt s at i z → is_suppressed z ≡ true → RegisterAt at i r → ⊥
  suppressed_no_register z e p = true_false (sym (looks_register {s = s} p).registers ∙ (looks_suppressed z e).registers)

  pub suppressed_no_counter : {z : Option Suppressed} → SuppressedAt s at i z → is_suppressed z ≡ true → CounterAt at i → ⊥
  suppressed_no_counter z e c = true_false (sym (looks_counter {s = s} c).counters ∙ (looks_suppressed z e).counters)

  pub register_no_counter : {r : Register} → RegisterAt at i r → CounterAt at i → ⊥
  register_no_counter p c = true_false (sym (looks_register {s = s} p).registers ∙ (looks_counter {s = s} c).registers)

  pub data_no_address : {q r : Register} → RegisterAt at i q → q.index < 8 → RegisterAt at i r → 8 ≤ r.index → ⊥
  unfolding is_address
  data_no_address {q} {r} p small g low =
      true_false (sym ((looks_register {s = s} g).addresses ∙ le-leb 8 r.index low) ∙ (looks_register {s = s} p).addresses ∙ lt-leb 8 q.index small)

-- ---- the first token of an expression

pub record Started (s : Setting) (at : ℕ → Place) (i : ℕ) : Type 0 where
  pub kind : ℕ
  pub sign : Sign at kind i
  pub comma : eqb kind Kinds.comma ≡ false
  pub hash : eqb kind Kinds.hash ≡ false
  pub left_bracket : eqb kind Kinds.left_bracket ≡ false
  pub right_bracket : eqb kind Kinds.right_bracket ≡ false
  pub looks : Looks s at i None false None
  -- a name is no special register
  pub special : holds (name λ x. is_special (special_of x)) (at i) ≡ false

module _ {s : Setting} {at : ℕ → Place} where
  started : {k i : ℕ} → Sign at k i → eqb k Kinds.identifier ≡ false → eqb k Kinds.comma ≡ false → eqb k Kinds.hash ≡ false → eqb k Kinds.left_bracket ≡ false
      → eqb k Kinds.right_bracket ≡ false → Started s at i
  started {k} t a b c d e =
      record {
        kind = k;
        sign = t;
        comma = b;
        hash = c;
        left_bracket = d;
        right_bracket = e;
        looks = looks_sign t a;
        special = comes (name λ x. is_special (special_of x)) t (rw (ap (λ k. eqb k Kinds.identifier) t.of ∙ a));
      }

  started_name : {i : ℕ} (t : Name at i) → ordinary s.mark i t.text ≡ true → Started s at i
  unfolding ordinary
  started_name t q =
      record {
        kind = Kinds.identifier;
        sign = t;
        comma = refl;
        hash = refl;
        left_bracket = refl;
        right_bracket = refl;
        looks = looks_ordinary t q;
        special = comes (name λ x. is_special (special_of x)) t
            (rw t.of (Names.free_unspecial t.text (Names.not-true (reserved t.text) (Names.both_first (not (reserved t.text)) _ q))));
      }

  started_unary : {k n i : ℕ} → Sign at k i → Unary k n → Started s at i
  started_unary t E.minus = started t refl refl refl refl refl
  started_unary t E.complement = started t refl refl refl refl refl

  pub starts : {own m room i j : ℕ} {e : Expr} → Spells at (ordinary s.mark) own m room i j e → Started s at i
  starts (a_number t w) = started t refl refl refl refl refl
  starts (a_literal t) = started t refl refl refl refl refl
  starts (a_name t q) = started_name t q
  starts (a_local t) = started t refl refl refl refl refl
  starts (an_address t) = started t refl refl refl refl refl
  starts (a_unary t u h) = started_unary t u
  starts (a_group b t h c) = started t refl refl refl refl refl
  starts (own_group t h c) = started t refl refl refl refl refl
  starts (tighter h) = starts h
  starts (joined h t b g) = starts h

-- ---- what follows

-- a token that ends a part: `)`, `]`, a comma, or what closes an operand
pub record Stops (at : ℕ → Place) (j : ℕ) : Type 0 where
  pub size : holds (is Kinds.size_suffix) (at j) ≡ false
  pub star : holds (is Kinds.star) (at j) ≡ false
  pub parenthesis : holds (is Kinds.left_paren) (at j) ≡ false
  pub level : Ends at 1 j

pub stops : {at : ℕ → Place} {k j : ℕ} → Sign at k j → eqb k Kinds.size_suffix ≡ false → eqb k Kinds.star ≡ false → eqb k Kinds.left_paren ≡ false
    → precedence k < 1 → Stops at j
stops t a b c d = record { size = other t Kinds.size_suffix a; star = other t Kinds.star b; parenthesis = other t Kinds.left_paren c; level = ends_by 1 t d }

module _ {at : ℕ → Place} {j : ℕ} where
  pub stops_close : Sign at Kinds.right_paren j → Stops at j
  unfolding precedence
  stops_close t = stops t refl refl refl (omega arith)

  pub stops_bracket : Sign at Kinds.right_bracket j → Stops at j
  unfolding precedence
  stops_bracket t = stops t refl refl refl (omega arith)

  pub stops_comma : Sign at Kinds.comma j → Stops at j
  unfolding precedence
  stops_comma t = stops t refl refl refl (omega arith)

  -- what comes at a comma and at EndOfLine comes behind an operand
  pub closed_fails : (t : Test) → ((k : Token) (x : List ℕ) → k.kind ≡ Kinds.comma → t k x ≡ false)
      → ((k : Token) (x : List ℕ) → k.kind ≡ Kinds.end_of_line → t k x ≡ false) → Closed at j → holds t (at j) ≡ false
  unfolding holds
  closed_fails t f g h = go (at j) h.kinds
    where
      go : (p : Place) → ((k : Token) (x : List ℕ) → p ≡ stands k x → (k.kind ≡ Kinds.comma) ⊎ (k.kind ≡ Kinds.end_of_line)) → holds t p ≡ false
      go nothing h = refl
      go (stands k x) h = elim (h k x refl) [ inl e ↦ f k x e | inr e ↦ g k x e ]

  pub closed_kind : (c : ℕ) → eqb Kinds.comma c ≡ false → eqb Kinds.end_of_line c ≡ false → Closed at j → holds (is c) (at j) ≡ false
  closed_kind c a b = closed_fails (is c) (λ k x e. rw e a) (λ k x e. rw e b)

  pub stops_closed : Closed at j → Stops at j
  unfolding precedence
  stops_closed h =
      record {
        size = closed_kind Kinds.size_suffix refl refl h;
        star = closed_kind Kinds.star refl refl h;
        parenthesis = closed_kind Kinds.left_paren refl refl h;
        level = record { less = λ k x e. elim (h.kinds k x e) [ inl q ↦ rw q (omega arith) | inr q ↦ rw q (omega arith) ] };
      }
