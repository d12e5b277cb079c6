-- What a name is by the definition's tests and by the code's functions.
-- Assumes nothing.
use Rattle.std.proofs.Common.{Option, Some, None, is_some}
use Rattle.std.specs.Prelude.{option_map}
use Rattle.std.proofs.lemmas.Option.{none-some}
use mathlib.Core.Path.{◌≡◌, refl, sym, ◌∙◌, ap, subst}
use mathlib.Core.Bool.{Bool, true, false, not}
use mathlib.Core.List.{List, [], ◌∷◌}
use Prim.Native.Nat.{ℕ, ◌+◌, ◌-◌, ◌<◌, ◌≤◌}
use native.Mathlib.Omega.{arith}
use borrow.Author.Tests.{le-leb, lt-leb, leb-true, leb-false}
use lib.Dec.{eqb, leb}
use Rattle.names.specs.Choice.{pick, both, either}
use Rattle.names.specs.Laws.{both_false}
use Rattle.names.specs.Kinds
use Rattle.names.specs.Letters.{bytes, lowered, same}
use Rattle.names.specs.Places.{text_of, place, there, nowhere}
use Rattle.names.specs.Registers.{pair, register, register_of, suppressing, suppressed, suppressed_of}
use Rattle.names.specs.Reserved.{is_register}
use Rattle.names.specs.Tokens.{token_at}
use Rattle.names.specs.declared.tokens.Token.{Token}
use Rattle.names.specs.declared.registers.Suppressed.{Suppressed}
use Rattle.expressions.proofs.Costs.{true_false}
use Rattle.expressions.specs.Laws.{holds}
use Rattle.expressions.specs.Reader.{Test}
use Rattle.records.specs.Spans.{span_of}
use Rattle.expressions.specs.declared.reading.Setting.{Setting}
use Rattle.operand.specs.Operand.{is_address, is_suppressed, is_suppressed_register, a_register, an_address_register, a_program_counter, unmarked, an_index, a_base_or_an_index, index_of, suppressed_index, register_from}
use Rattle.operand.specs.declared.forms.Register.{Register}
use Rattle.operand_code.specs.Lookahead.{address_of, reg_at, registered, register_at, suppressed_at, suppressed_reg, suppressed_index_at}
use Rattle.operand_code.proofs.Rooms.{map_is, map_not}

-- ---- choices

-- a test of what is picked, which the other fails
picked : {A : Type 0} (b : Bool) (f : A → Bool) (y n : A) → f n ≡ false → both b (f y) ≡ f (pick b y n)
picked true f y n h = refl
picked false f y n h = sym h

unpicked : {A : Type 0} (b : Bool) (f : A → Bool) (y n : A) → f n ≡ false → both (not b) (f y) ≡ f (pick b n y)
unpicked true f y n h = sym h
unpicked false f y n h = refl

-- ---- a test at a place

pub holds_at : (t : Test) (L T : List ℕ) (i : ℕ) (k : Token) → token_at T i ≡ Some k → holds t (place L T i) ≡ t k (text_of L k.start k.end)
unfolding holds
holds_at t L T i k h = rw (there L T i k h)

pub holds_end : (t : Test) (L T : List ℕ) (i : ℕ) → token_at T i ≡ None → holds t (place L T i) ≡ false
unfolding holds
holds_end t L T i h = rw (nowhere L T i h)

-- ---- registers

module _ (t : Token) (x : List ℕ) where
  pub a_register_lem : a_register t x ≡ is_register (reg_at t x)
  unfolding a_register reg_at
  a_register_lem = picked (eqb t.kind Kinds.identifier) is_register (register_of x) None refl

  pub an_address : an_address_register t x ≡ is_address (reg_at t x)
  unfolding an_address_register reg_at is_address
  an_address = picked (eqb t.kind Kinds.identifier) is_address (register_of x) None refl

  address_none : reg_at t x ≡ None → an_address_register t x ≡ false
  unfolding is_address
  address_none h = an_address ∙ ap is_address h

  module _ (r : ℕ) (h : reg_at t x ≡ Some r) where
    -- the name is that register
    named : register_of x ≡ Some r
    unfolding reg_at
    named = go (eqb t.kind Kinds.identifier) h
      where
        go : (b : Bool) → pick b (register_of x) None ≡ Some r → register_of x ≡ Some r
        go true e = e
        go false e = absurd (none-some _ e)

    pub reg_from : register_from t x ≡ record { index = r; span = span_of t }
    unfolding register_from index_of
    reg_from = ap (λ q. record { index = index_of q; span = span_of t }) named

    pub address_is : 8 ≤ r → an_address_register t x ≡ true
    unfolding is_address
    address_is l = an_address ∙ ap is_address h ∙ le-leb 8 r l

    pub address_not : (8 ≤ r → ⊥) → an_address_register t x ≡ false
    unfolding is_address
    address_not l = an_address ∙ ap is_address h ∙ lt-leb 8 r (omega arith)

-- a register's number
abbrev small : Option ℕ → Type 0
small q = (r : ℕ) → q ≡ Some r → r < 16

small_not : small None
small_not r e = absurd (none-some _ e)

small_is : (n : ℕ) → n < 16 → small (Some n)
small_is n l r e = let g : n ≡ r = cc in omega arith

small_pick : (b : Bool) (p q : Option ℕ) → (b ≡ true → small p) → (b ≡ false → small q) → small (pick b p q)
small_pick true p q h k = h refl
small_pick false p q h k = k refl

pair_small : (c d : ℕ) → small (pair c d)
unfolding pair
pair_small c d =
    small_pick (eqb c 115) _ _ (λ e. small_pick (eqb d 112) _ _ (λ g. small_is 15 (omega arith)) (λ g. small_not))
    (λ e. small_pick (both (leb 48 d) (leb d 55)) _ _ (λ g. digit (leb 48 d) refl (leb d 55) refl g) (λ g. small_not))
  where
    digit : (a : Bool) → leb 48 d ≡ a → (b : Bool) → leb d 55 ≡ b → both a b ≡ true → small (pick (eqb c 100) (Some (d - 48)) (pick (eqb c 97) (Some (d - 48 + 8)) None))
    digit true l true h g =
        let u = leb-true d 55 h in
        small_pick (eqb c 100) _ _ (λ e. small_is (d - 48) (omega arith)) (λ e. small_pick (eqb c 97) _ _ (λ k. small_is (d - 48 + 8) (omega arith)) (λ k. small_not))
    digit true l false h g = absurd (true_false (sym g))
    digit false l b h g = absurd (true_false (sym g))

register_small : (x : List ℕ) → small (register x)
unfolding register
register_small [] = small_not
register_small (c ∷ []) = small_not
register_small (c ∷ d ∷ []) = pair_small c d
register_small (c ∷ d ∷ e ∷ es) = small_not

-- the register that a token is
module _ (t : Token) (x : List ℕ) where
  pub a_register_is : a_register t x ≡ is_some (register_at t x)
  unfolding register_at
  a_register_is = a_register_lem t x ∙ go (reg_at t x)
    where
      go : (q : Option ℕ) → is_register q ≡ is_some (option_map (registered t) q)
      go (Some r) = refl
      go None = refl

  pub no_register : register_at t x ≡ None → a_register t x ≡ false
  no_register h = a_register_is ∙ ap is_some h

  pub no_register_at : a_register t x ≡ false → register_at t x ≡ None
  no_register_at h = go (register_at t x) (sym a_register_is ∙ h)
    where
      go : (q : Option Register) → is_some q ≡ false → q ≡ None
      go (Some q) e = absurd (true_false e)
      go None e = refl

  pub no_address_register : register_at t x ≡ None → an_address_register t x ≡ false
  unfolding register_at
  no_address_register h = address_none t x (map_not (registered t) _ h)

  module _ {q : Register} (h : register_at t x ≡ Some q) where
    pub is_a_register : a_register t x ≡ true
    is_a_register = a_register_is ∙ ap is_some h

    pub register_is : register_from t x ≡ q
    unfolding register_at
    register_is = let m = map_is (registered t) _ h in reg_from t x m.part m.is ∙ m.form

    pub register_within : q.index < 16
    unfolding register_at register_of
    register_within =
        let m = map_is (registered t) _ h in
        subst (λ z. z.index < 16) m.form (register_small (lowered x) m.part (named t x m.part m.is))

    pub address_if : 8 ≤ q.index → an_address_register t x ≡ true
    unfolding register_at
    address_if l = let m = map_is (registered t) _ h in address_is t x m.part m.is (subst (λ z. 8 ≤ z.index) (sym m.form) l)

    pub address_unless : (8 ≤ q.index → ⊥) → an_address_register t x ≡ false
    unfolding register_at
    address_unless l = let m = map_is (registered t) _ h in address_not t x m.part m.is (subst (λ z. 8 ≤ z.index → ⊥) (sym m.form) l)

-- where a register stands, it is the one that the definition reads
pub register_seen : (t : Token) (x : List ℕ) → a_register t x ≡ true → register_at t x ≡ Some (register_from t x)
register_seen t x h = go (register_at t x) refl
  where
    go : (q : Option Register) → register_at t x ≡ q → register_at t x ≡ Some (register_from t x)
    go (Some q) e = e ∙ ap Some (sym (register_is t x e))
    go None e = absurd (true_false (sym h ∙ no_register t x e))

-- what is an address register, of the register that a token is
picked_address : (q : Register) (b : Bool) → leb 8 q.index ≡ b → {r : Register} → pick b (Some q) None ≡ Some r → (q ≡ r) × (leb 8 q.index ≡ true)
picked_address q true e g = (cc, e)
picked_address q false e g = absurd (none-some _ g)

unpicked_address : (q : Register) (b : Bool) → leb 8 q.index ≡ b → pick b (Some q) None ≡ None → leb 8 q.index ≡ false
unpicked_address q true e g = absurd (none-some _ (sym g))
unpicked_address q false e g = e

-- an address register
pub record IsAddress (t : Token) (x : List ℕ) (r : Register) : Type 0 where
  pub passes : an_address_register t x ≡ true
  pub from : register_from t x ≡ r
  pub above : leb 8 r.index ≡ true

pub address_hit : (t : Token) (x : List ℕ) {r : Register} → address_of (register_at t x) ≡ Some r → IsAddress t x r
unfolding address_of
address_hit t x {r} h = go (register_at t x) refl h
  where
    go : (m : Option Register) → register_at t x ≡ m → address_of m ≡ Some r → IsAddress t x r
    go (Some q) e g =
        let p = picked_address q (leb 8 q.index) refl g in
        record {
          passes = address_if t x e (leb-true 8 q.index p.1);
          from = register_is t x e ∙ p.0;
          above = sym (ap (λ z. leb 8 z.index) p.0) ∙ p.1;
        }
    go None e g = absurd (none-some _ g)

pub address_miss : (t : Token) (x : List ℕ) → address_of (register_at t x) ≡ None → an_address_register t x ≡ false
unfolding address_of
address_miss t x h = go (register_at t x) refl h
  where
    go : (m : Option Register) → register_at t x ≡ m → address_of m ≡ None → an_address_register t x ≡ false
    go (Some q) e g = address_unless t x e (λ l. let z = leb-false 8 q.index (unpicked_address q (leb 8 q.index) refl g) in absurd (omega arith))
    go None e g = no_address_register t x e

-- ---- suppressed registers

pub unmarked_is : (s : Setting) (i : ℕ) (f : Option Suppressed → Bool) (t : Token) (x : List ℕ) → f None ≡ false → unmarked s i f t x ≡ f (suppressed_at s i t x)
unfolding unmarked suppressed_at
unmarked_is s i f t x h =
    let k = eqb t.kind Kinds.identifier in
    ap (both (not (eqb s.mark i))) (picked k f (suppressed_of x) None h) ∙ unpicked (eqb s.mark i) f (pick k (suppressed_of x) None) None h

-- the name is that register
pub suppressed_is : (s : Setting) (i : ℕ) (t : Token) (x : List ℕ) (r : ℕ) → suppressed_at s i t x ≡ Some (Suppressed.Register r) → suppressed_of x ≡ Some (Suppressed.Register r)
unfolding suppressed_at is_suppressed
suppressed_is s i t x r h = go (eqb s.mark i) (eqb t.kind Kinds.identifier) h
  where
    go : (b k : Bool) → pick b None (pick k (suppressed_of x) None) ≡ Some (Suppressed.Register r) → suppressed_of x ≡ Some (Suppressed.Register r)
    go true k e = absurd (none-some _ e)
    go false true e = e
    go false false e = absurd (none-some _ e)

-- a name that spells a suppressed register spells no register
no_both : (y : List ℕ) {r : ℕ} → suppressed y ≡ Some (Suppressed.Register r) → register y ≡ None
unfolding suppressed suppressing register
no_both [] h = refl
no_both (c ∷ []) h = refl
no_both (c ∷ d ∷ []) {r} h = go (eqb c 122) (same (d ∷ []) (bytes "pc")) h
  where
    go : (a b : Bool) → pick a (pick b (Some Suppressed.ProgramCounter) None) None ≡ Some (Suppressed.Register r) → pair c d ≡ None
    go true true e = let z : ◌≡◌ {A = ℕ} 0 1 = cc in absurd (omega arith)
    go true false e = absurd (none-some _ e)
    go false b e = absurd (none-some _ e)
no_both (c ∷ d ∷ e ∷ es) h = refl

-- as the code asks it: the register that is an index
index_of_lem : (z : Option Suppressed) {r : ℕ} → suppressed_reg z ≡ Some r → z ≡ Some (Suppressed.Register r)
unfolding suppressed_reg
index_of_lem (Some (Suppressed.Register n)) h = cc
index_of_lem (Some Suppressed.ProgramCounter) h = absurd (none-some _ h)
index_of_lem None h = absurd (none-some _ h)

index_asked : (z : Option Suppressed) → is_suppressed_register z ≡ is_some (suppressed_reg z)
unfolding suppressed_reg is_suppressed_register
index_asked (Some (Suppressed.Register n)) = refl
index_asked (Some Suppressed.ProgramCounter) = refl
index_asked None = refl

pub suppressed_asked : (z : Option Suppressed) → is_suppressed z ≡ is_some z
unfolding is_suppressed
suppressed_asked (Some (Suppressed.Register n)) = refl
suppressed_asked (Some Suppressed.ProgramCounter) = refl
suppressed_asked None = refl

module _ (s : Setting) (i : ℕ) (t : Token) (x : List ℕ) where
  unmarked_index : unmarked s i is_suppressed_register t x ≡ is_some (suppressed_index_at s i t x)
  unfolding is_suppressed_register suppressed_index_at
  unmarked_index = unmarked_is s i is_suppressed_register t x refl ∙ index_asked (suppressed_at s i t x) ∙ go (suppressed_reg (suppressed_at s i t x))
    where
      go : (q : Option ℕ) → is_some q ≡ is_some (option_map (registered t) q)
      go (Some r) = refl
      go None = refl

  pub suppressed_miss : suppressed_index_at s i t x ≡ None → unmarked s i is_suppressed_register t x ≡ false
  suppressed_miss h = unmarked_index ∙ ap is_some h

  module _ {q : Register} (h : suppressed_index_at s i t x ≡ Some q) where
    pub suppressed_hit : unmarked s i is_suppressed_register t x ≡ true
    suppressed_hit = unmarked_index ∙ ap is_some h

    pub suppressed_no_register : a_register t x ≡ false
    unfolding a_register register_of suppressed_of suppressed_index_at
    suppressed_no_register =
        let m = map_is (registered t) _ h in
        rw (no_both (lowered x) (suppressed_is s i t x m.part (index_of_lem (suppressed_at s i t x) m.is))) (both_false (eqb t.kind Kinds.identifier))

    -- as the definition has it
    pub suppressed_as : registered t (suppressed_index (suppressed_of x)) ≡ q
    unfolding suppressed_index suppressed_index_at
    suppressed_as = let m = map_is (registered t) _ h in rw (suppressed_is s i t x m.part (index_of_lem (suppressed_at s i t x) m.is)) m.form

-- ---- an index, a base or an index

module _ (s : Setting) (i : ℕ) (t : Token) (x : List ℕ) where
  pub an_index_lem : an_index s i t x ≡ either (a_register t x) (is_some (suppressed_index_at s i t x))
  unfolding an_index
  an_index_lem = rw (unmarked_index s i t x)

  pub a_base_or_an_index_lem : a_base_or_an_index s i t x ≡ either (a_program_counter t x) (either (a_register t x) (is_some (suppressed_at s i t x)))
  unfolding a_base_or_an_index is_suppressed
  a_base_or_an_index_lem = rw (unmarked_is s i is_suppressed t x refl, suppressed_asked (suppressed_at s i t x))
