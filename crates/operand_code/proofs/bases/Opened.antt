-- The base of a parenthesis: an address register and the program counter alike.
-- Assumes nothing.
use mathlib.Core.Path.{◌≡◌, refl, sym, subst}
use mathlib.Core.Bool.{Bool, true, false}
use mathlib.Core.List.{List}
use Prim.Native.Nat.{ℕ}
use Rattle.names.specs.Places.{text_of}
use Rattle.names.specs.Choice.{pick}
use Rattle.names.specs.Tokens.{token_at}
use Rattle.names.specs.declared.tokens.Token.{Token}
use Rattle.records.specs.Counters.{stepped}
use Rattle.records.specs.declared.counters.Counters.{Counters}
use Rattle.expressions.specs.declared.reading.Setting.{Setting}
use Rattle.operand.specs.Operands.{Operand, Displacement}
use Rattle.operand.specs.Operand.{an_address_register, a_program_counter, register_from, after_base, after_counter, parse_base_and_index}
use Rattle.operand.specs.Forms.{sized_of, record_of}
use Rattle.operand.specs.Records.{size_o, nodes_o}
use Rattle.expressions.specs.Told.{Told}
use Rattle.operand_code.specs.Operands.{Plain}
use Rattle.operand_code.specs.Bases.{unsuppressed_base, base_register, open_shape, index_shape, index_form, closed, indexed_by, behind_base}
use Rattle.operand_code.specs.declared.bases.Base.{Base}
use Rattle.std.proofs.lemmas.Option.{none-some}
use Rattle.expressions.specs.Paths.{hit, miss}
use Rattle.std.specs.Prelude.{Some, None, Option}
use Rattle.operand.specs.declared.forms.Sized.{Sized}

-- what an index makes with the base
pub plain_with : {d : Option Sized} (b : Base) (y : Displacement) → sized_of 0 y ≡ d → Plain (index_form b) d (base_register b) y (indexed_by b y)
unfolding index_form base_register indexed_by record_of nodes_o size_o
plain_with (Base.Address r) y e = λ x z. (rw (sym e), refl, refl)
plain_with Base.ProgramCounter y e = λ x z. (rw (sym e), refl, refl)

module _ (t : Token) (x : List ℕ) where
  -- the base that a token is, by what the token passes
  abbrev Picked : Bool → Bool → Option Base
  Picked p q = pick p (Some (Base.Address (register_from t x))) (pick q (Some Base.ProgramCounter) None)

  pub no_unsuppressed : unsuppressed_base t x ≡ None → (an_address_register t x ≡ false) × (a_program_counter t x ≡ false)
  unfolding unsuppressed_base
  no_unsuppressed e = go (an_address_register t x) (a_program_counter t x) e
    where
      go : (p q : Bool) → Picked p q ≡ None → (p ≡ false) × (q ≡ false)
      go true q e = absurd (none-some _ (sym e))
      go false true e = absurd (none-some _ (sym e))
      go false false e = (refl, refl)

-- behind the base at the cursor
pub opened : {E : Type 0} {f : Option Operand → E} {Q : Option Operand → Counters → Type 0} {L T D D' : List ℕ} {c c₁ : Counters} {v : E} {r : Counters} {t : Token} (s : Setting) (k : Token) (y : Displacement) (b : Base)
    → token_at T c.at ≡ Some t → unsuppressed_base t (text_of L t.start t.end) ≡ Some b → c₁ ≡ stepped c t
    → Told f Q (behind_base s k b y) L T D D' c₁ v r → Told f Q (parse_base_and_index s k y) L T D D' c v r
unfolding unsuppressed_base behind_base parse_base_and_index after_base after_counter open_shape index_shape base_register closed indexed_by
opened {f = f} {Q = Q} {L = L} {T = T} {D = D} {D' = D'} {c = c} {c₁ = c₁} {v = v} {r = r} {t = t} s k y b at e step g = go (an_address_register t x) refl (a_program_counter t x) refl e
  where
    x : List ℕ
    x = text_of L t.start t.end

    Behind : Base → Type 0
    Behind z = Told f Q (behind_base s k z y) L T D D' c₁ v r

    go : (p : Bool) → an_address_register t x ≡ p → (q : Bool) → a_program_counter t x ≡ q → Picked t x p q ≡ Some b → Told f Q (parse_base_and_index s k y) L T D D' c v r
    go true i q j e = let z : Base.Address (register_from t x) ≡ b = cc in hit at i step (subst Behind (sym z) g)
    go false i true j e = let z : Base.ProgramCounter ≡ b = cc in miss at i (hit at j step (subst Behind (sym z) g))
    go false i false j e = absurd (none-some _ e)
