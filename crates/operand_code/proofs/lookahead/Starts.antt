-- What follows a register, where a full index or a base begins, and the base that a token is.
-- Assumes nothing.
use mathlib.Core.Path.{◌≡◌, refl, sym, ◌∙◌, subst}
use mathlib.Core.Bool.{Bool, true, false, not}
use mathlib.Core.List.{List}
use Prim.Native.Nat.{ℕ, ◌+◌, ◌-◌}
use native.Mathlib.Omega.{arith}
use borrow.Author.Tests.{ltb-true, ltb-false, leb-true, leb-false}
use lib.Dec.{ltb, leb}
use Rattle.names.specs.Choice.{pick, both}
use Rattle.names.specs.Places.{Place, nothing, stands, text_of, place}
use Rattle.names.specs.Registers.{suppressed_of}
use Rattle.names.specs.Tokens.{token_at}
use Rattle.names.specs.declared.tokens.Token.{Token}
use Rattle.names.specs.declared.registers.Suppressed.{Suppressed}
use Rattle.expressions.proofs.Costs.{true_false}
use Rattle.expressions.specs.Laws.{holds}
use Rattle.expressions.specs.Reader.{Test, Reader, bump, peek}
use Rattle.records.specs.Counters.{stepped}
use Rattle.expressions.specs.declared.reading.Setting.{Setting}
use Rattle.records.specs.declared.counters.Counters.{Counters}
use Rattle.operand.specs.Operand.{is_suppressed, is_suppressed_register, is_suppressed_address, a_register, an_address_register, a_program_counter, unmarked, suppressed_index, register_from, after_base_register, size_or_scale, no_base, parse_base_and_index_registers, closes, starts_a_full_index, starts_a_base}
use Rattle.expressions.specs.Told.{Told, Same}
use Rattle.operand_code.specs.Lookahead.{register_at, suppressed_at, full_index_starts, base_starts, address_base, suppressed_base, is_counter, base_at, NextBy, hits, misses, ends}
use Rattle.operand.specs.declared.forms.BaseRegister.{BaseRegister}
use Rattle.operand.specs.declared.forms.Register.{Register}
use Rattle.operand.specs.declared.forms.Registers.{Registers}
use Rattle.expressions.specs.Paths.{hereby, hit, miss, done, passed, unseen, whether}
use Rattle.operand_code.proofs.lookahead.Names.{is_a_register, register_is, address_if, address_unless, no_address_register, unmarked_is, suppressed_is}
use Rattle.std.proofs.lemmas.Option.{none-some}
use Rattle.std.specs.Prelude.{Some, None, Option}

-- no parenthesis and no comma
pub closes_neither : (p : Place) → holds (closes false false) p ≡ holds size_or_scale p
unfolding holds closes
closes_neither nothing = refl
closes_neither (stands k x) = refl

-- ---- where a full index begins

-- behind the register r: a data register may close, an address register has a size or a scale
pub register_starts : (t : Token) (x : List ℕ) (r : Register) (p : Place) → register_at t x ≡ Some r → holds (closes (ltb r.index 8) false) p ≡ pick (an_address_register t x) (holds (closes false false) p) (both (a_register t x) (holds (closes true false) p))
register_starts t x r p h = go (ltb r.index 8) refl
  where
    go : (b : Bool) → ltb r.index 8 ≡ b → holds (closes b false) p ≡ pick (an_address_register t x) (holds (closes false false) p) (both (a_register t x) (holds (closes true false) p))
    go true q = let l = ltb-true r.index 8 q in rw (address_unless t x h (λ g. omega arith), is_a_register t x h)
    go false q = rw (address_if t x h (ltb-false r.index 8 q))

-- ---- the base that a token is

address_base_lem : (t : Token) (x : List ℕ) (b : Option BaseRegister) → address_base (register_at t x) b ≡ pick (an_address_register t x) (Some (BaseRegister.Address (register_from t x))) b
unfolding address_base
address_base_lem t x b = go (register_at t x) refl
  where
    numbered : (r : Register) → register_at t x ≡ Some r → (k : Bool) → leb 8 r.index ≡ k → pick k (Some (BaseRegister.Address r)) b ≡ pick (an_address_register t x) (Some (BaseRegister.Address (register_from t x))) b
    numbered r e true g = rw (address_if t x e (leb-true 8 r.index g), register_is t x e)
    numbered r e false g = rw (address_unless t x e (λ l. let z = leb-false 8 r.index g in absurd (omega arith)))

    go : (q : Option Register) → register_at t x ≡ q → address_base q b ≡ pick (an_address_register t x) (Some (BaseRegister.Address (register_from t x))) b
    go (Some r) e = numbered r e (leb 8 r.index) refl
    go None e = rw (no_address_register t x e)

module _ (s : Setting) (i : ℕ) (t : Token) (x : List ℕ) where
  suppressed_base_lem : suppressed_base (suppressed_at s i t x) ≡ pick (unmarked s i is_suppressed_address t x) (Some (BaseRegister.SuppressedAddress (suppressed_index (suppressed_of x) - 8))) None
  unfolding suppressed_base is_suppressed_address suppressed_index
  suppressed_base_lem = go (suppressed_at s i t x) refl
    where
      go : (q : Option Suppressed) → suppressed_at s i t x ≡ q → suppressed_base q ≡ pick (unmarked s i is_suppressed_address t x) (Some (BaseRegister.SuppressedAddress (suppressed_index (suppressed_of x) - 8))) None
      go (Some (Suppressed.Register r)) e = rw (unmarked_is s i is_suppressed_address t x refl, e, suppressed_is s i t x r e)
      go (Some Suppressed.ProgramCounter) e = rw (unmarked_is s i is_suppressed_address t x refl, e)
      go None e = rw (unmarked_is s i is_suppressed_address t x refl, e)

  abbrev counter : Option Suppressed → Bool
  counter z = both (is_suppressed z) (not (is_suppressed_register z))

  counter_is : is_counter (suppressed_at s i t x) ≡ unmarked s i counter t x
  unfolding is_counter is_suppressed is_suppressed_register
  counter_is = go (suppressed_at s i t x) ∙ sym (unmarked_is s i counter t x refl)
    where
      go : (q : Option Suppressed) → is_counter q ≡ counter q
      go (Some (Suppressed.Register r)) = refl
      go (Some Suppressed.ProgramCounter) = refl
      go None = refl

  -- the base, by the tests of the definition
  base_tests : (at : ℕ → Place) → base_at s at i t x
      ≡ pick (a_program_counter t x) (Some BaseRegister.ProgramCounter)
      (pick (unmarked s i counter t x) (Some BaseRegister.SuppressedProgramCounter)
      (pick (holds size_or_scale (at (i + 1))) None
      (pick (an_address_register t x) (Some (BaseRegister.Address (register_from t x)))
      (pick (unmarked s i is_suppressed_address t x) (Some (BaseRegister.SuppressedAddress (suppressed_index (suppressed_of x) - 8))) None))))
  unfolding base_at
  base_tests at = rw (counter_is, address_base_lem t x (suppressed_base (suppressed_at s i t x)), suppressed_base_lem)

-- ---- steps

module _ {A E : Type 0} {f : A → E} {Q : A → Counters → Type 0} {L T D D' : List ℕ} {c : Counters} {v : E} {r : Counters} where
  -- the place j is tested, which lies so far ahead
  forked : {a : ℕ} {t : Test} {p : Reader A} {n : Unit {0} → Reader A} (j : ℕ) → j ≡ c.at + a
      → (holds t (place L T j) ≡ true → Told f Q p L T D D' c v r) → (holds t (place L T j) ≡ false → Told f Q (n tt) L T D D' c v r)
      → Told f Q (peek a t (λ k x. p) n) L T D D' c v r
  forked {a} {t} {p} {n} j e g h = go (holds t (place L T j)) refl
    where
      go : (b : Bool) → holds t (place L T j) ≡ b → Told f Q (peek a t (λ k x. p) n) L T D D' c v r
      go true q = passed (subst (λ z. holds t (place L T z) ≡ true) e q) (λ k x. g q)
      go false q = unseen (subst (λ z. holds t (place L T z) ≡ false) e q) (h q)

  -- the token k at the cursor is tested
  tried : {t : Test} {y : Token → List ℕ → Reader A} {n : Unit {0} → Reader A} {k : Token} {c₁ : Counters} → token_at T c.at ≡ Some k → c₁ ≡ stepped c k
      → (t k (text_of L k.start k.end) ≡ true → Told f Q (y k (text_of L k.start k.end)) L T D D' c₁ v r)
      → (t k (text_of L k.start k.end) ≡ false → Told f Q (n tt) L T D D' c v r)
      → Told f Q (bump t y n) L T D D' c v r
  tried {t} {y} {n} {k} h e g m = go (t k (text_of L k.start k.end)) refl
    where
      go : (b : Bool) → t k (text_of L k.start k.end) ≡ b → Told f Q (bump t y n) L T D D' c v r
      go true q = hit h q e (g q)
      go false q = miss h q (m q)

  module _ (s : Setting) (y n : Unit {0} → Reader A) where
    full : (full_index_starts s (place L T) c.at ≡ true → Told f Q (y tt) L T D D' c v r)
        → (full_index_starts s (place L T) c.at ≡ false → Told f Q (n tt) L T D D' c v r)
        → Told f Q (starts_a_full_index s y n) L T D D' c v r
    unfolding starts_a_full_index full_index_starts
    full g h =
        hereby (forked c.at (omega arith)
        (λ a. forked (c.at + 1) refl (λ b. g (rw (a, b))) (λ b. h (rw (a, b))))
        (λ a.
        forked c.at (omega arith)
        (λ b. forked (c.at + 1) refl (λ d. g (rw (a, b, d))) (λ d. h (rw (a, b, d))))
        (λ b.
        forked c.at (omega arith)
        (λ d. forked (c.at + 1) refl (λ e. g (rw (a, b, d, e))) (λ e. h (rw (a, b, d, e))))
        (λ d. h (rw (a, b, d))))))

    pub full_starts : full_index_starts s (place L T) c.at ≡ true → Told f Q (y tt) L T D D' c v r → Told f Q (starts_a_full_index s y n) L T D D' c v r
    full_starts e g = full (λ q. g) (λ q. absurd (true_false (sym e ∙ q)))

    pub full_not : full_index_starts s (place L T) c.at ≡ false → Told f Q (n tt) L T D D' c v r → Told f Q (starts_a_full_index s y n) L T D D' c v r
    full_not e g = full (λ q. absurd (true_false (sym q ∙ e))) (λ q. g)

  module _ (y n : Unit {0} → Reader A) where
    based_or_not : (base_starts (place L T) c.at ≡ true → Told f Q (y tt) L T D D' c v r)
        → (base_starts (place L T) c.at ≡ false → Told f Q (n tt) L T D D' c v r)
        → Told f Q (starts_a_base y n) L T D D' c v r
    unfolding starts_a_base base_starts
    based_or_not g h =
        forked c.at (omega arith)
        (λ a. forked (c.at + 1) refl (λ b. forked (c.at + 1) refl (λ d. g (rw (a, b, d))) (λ d. h (rw (a, b, d)))) (λ b. g (rw (a, b))))
        (λ a. h (rw a))

    pub base_starts_lem : base_starts (place L T) c.at ≡ true → Told f Q (y tt) L T D D' c v r → Told f Q (starts_a_base y n) L T D D' c v r
    base_starts_lem e g = based_or_not (λ q. g) (λ q. absurd (true_false (sym e ∙ q)))

    pub base_not : base_starts (place L T) c.at ≡ false → Told f Q (n tt) L T D D' c v r → Told f Q (starts_a_base y n) L T D D' c v r
    base_not e g = based_or_not (λ q. absurd (true_false (sym q ∙ e))) (λ q. g)

module _ {E : Type 0} {f : Option Registers → E} {Q : Option Registers → Counters → Type 0} {L T D D' : List ℕ} {c : Counters} {v : E} {r : Counters} (s : Setting) (shape : ℕ) where
  module _ {k : Token} (h : token_at T c.at ≡ Some k) where
    base_or_none : {c₁ : Counters} → c₁ ≡ stepped c k
        → ((b : BaseRegister) → base_at s (place L T) c.at k (text_of L k.start k.end) ≡ Some b → Told f Q (after_base_register s shape b) L T D D' c₁ v r)
        → (base_at s (place L T) c.at k (text_of L k.start k.end) ≡ None → Told f Q (no_base s shape) L T D D' c v r)
        → Told f Q (parse_base_and_index_registers s shape) L T D D' c v r
    unfolding parse_base_and_index_registers
    base_or_none e y n =
        let w = base_tests s c.at k (text_of L k.start k.end) (place L T) in
        hereby (tried h e (λ a. y BaseRegister.ProgramCounter (w ∙ rw a))
        (λ a.
        tried h e (λ b. y BaseRegister.SuppressedProgramCounter (w ∙ rw (a, b)))
        (λ b.
        forked (c.at + 1) refl (λ d. n (w ∙ rw (a, b, d)))
        (λ d.
        tried h e (λ g. y _ (w ∙ rw (a, b, d, g)))
        (λ g.
        tried h e (λ u. y _ (w ∙ rw (a, b, d, g, u)))
        (λ u. n (w ∙ rw (a, b, d, g, u))))))))

    pub base_read : {b : BaseRegister} {c₁ : Counters} → base_at s (place L T) c.at k (text_of L k.start k.end) ≡ Some b → c₁ ≡ stepped c k
        → Told f Q (after_base_register s shape b) L T D D' c₁ v r → Told f Q (parse_base_and_index_registers s shape) L T D D' c v r
    base_read {b} {c₁} e w g =
        base_or_none w (λ a q. let z : b ≡ a = cc in subst (λ z. Told f Q (after_base_register s shape z) L T D D' c₁ v r) z g) (λ q. absurd (none-some _ (sym q ∙ e)))

    base_none : base_at s (place L T) c.at k (text_of L k.start k.end) ≡ None → Told f Q (no_base s shape) L T D D' c v r
        → Told f Q (parse_base_and_index_registers s shape) L T D D' c v r
    base_none e g = base_or_none {c₁ = stepped c k} refl (λ b q. absurd (none-some _ (sym e ∙ q))) (λ q. g)

  base_end : token_at T c.at ≡ None → Told f Q (no_base s shape) L T D D' c v r → Told f Q (parse_base_and_index_registers s shape) L T D D' c v r
  unfolding parse_base_and_index_registers
  base_end h g = hereby (done h (done h (whether (λ k x. g) (done h (done h g)))))

-- none is found at the cursor
pub base_missing : (s : Setting) (shape : ℕ) {L T D D' : List ℕ} {c c₁ : Counters} {x : Option BaseRegister} {v : Option Registers} {r : Counters} → NextBy (base_at s (place L T) c.at) L T c x c₁ → x ≡ None
    → Told (λ z. z) (Same c₁.nodes) (no_base s shape) L T D D' c₁ v r → Told (λ z. z) (Same c.nodes) (parse_base_and_index_registers s shape) L T D D' c v r
base_missing s shape (hits t y at e w o) h g = absurd (none-some _ (sym h ∙ w))
base_missing s shape (misses t at e w o) h g = base_none s shape at e (rw o at g)
base_missing s shape (ends at w o) h g = base_end s shape at (rw o at g)
