-- What the grammar asks for at a place: a token of a kind, a name that spells a register.
-- Assumes nothing.
use Rattle.std.specs.Prelude.{Option, Some, ◌≡◌, Bool, true, false, not, List, ℕ, eqb}
use Rattle.names.specs.Choice.{both}
use Rattle.names.specs.Kinds
use Rattle.names.specs.Places.{Place, stands}
use Rattle.names.specs.Registers.{register_of, program_counter, suppressed_of, reserved}
use Rattle.names.specs.declared.tokens.Token.{Token}
use Rattle.names.specs.declared.registers.Suppressed.{Suppressed}
use Rattle.records.specs.Spans.{span_of}
use Rattle.expressions.specs.declared.reading.Setting.{Setting}
use Rattle.operand.specs.declared.forms.Register.{Register}
use Rattle.operand.specs.Operand.{is_suppressed}

-- a token of a kind
pub record Sign (at : ℕ → Place) (kind i : ℕ) : Type 0 where
  pub token : Token
  pub text : List ℕ
  pub there : at i ≡ stands token text
  pub of : token.kind ≡ kind

abbrev pub Name : (ℕ → Place) → ℕ → Type 0
Name at i = Sign at Kinds.identifier i

-- Dn, An or `sp`, by its mask index
pub data RegisterAt (at : ℕ → Place) : ℕ → Register → Type 0 where
  register_spelled : {i r : ℕ} (t : Name at i) → register_of t.text ≡ Some r → RegisterAt at i (record { index = r; span = span_of t.token })

-- PC
pub record CounterAt (at : ℕ → Place) (i : ℕ) : Type 0 where
  pub name : Name at i
  pub counter : program_counter name.text ≡ true

-- Z: a suppressed name that is not at the mark
pub record SuppressedAt (s : Setting) (at : ℕ → Place) (i : ℕ) (z : Option Suppressed) : Type 0 where
  pub name : Name at i
  pub unmarked : eqb s.mark i ≡ false
  pub suppressed : suppressed_of name.text ≡ z

-- ---- the names that an expression may have

-- those that are not reserved
unfoldable pub unreserved : ℕ → List ℕ → Bool
unreserved i x = not (reserved x)

-- and, where it may be doubtful what is spelled, no Z either
unfoldable pub ordinary : ℕ → ℕ → List ℕ → Bool
ordinary mark i x = both (not (reserved x)) (not (both (not (eqb mark i)) (is_suppressed (suppressed_of x))))
