-- What stands at a place, as the code asks it: the value that a name is, and whether a full index or a base begins there.
-- Assumes nothing.
use Rattle.std.specs.Prelude.{◌≡◌, Bool, true, false, not, List, ℕ, ◌+◌, ◌-◌, eqb, leb, Option, Some, None, option_map}
use Rattle.names.specs.Choice.{pick, both, either}
use Rattle.names.specs.Kinds
use Rattle.names.specs.Places.{Place, text_of}
use Rattle.names.specs.Registers.{register_of, suppressed_of}
use Rattle.names.specs.declared.tokens.Token.{Token}
use Rattle.names.specs.declared.registers.Suppressed.{Suppressed}
use Rattle.records.specs.Spans.{span_of}
use Rattle.expressions.specs.Laws.{holds}
use Rattle.expressions.specs.Reader.{any, of_kind}
use Rattle.expressions.specs.declared.reading.Setting.{Setting}
use Rattle.operand.specs.Operand.{a_register, an_address_register, a_program_counter, unmarked, is_suppressed, closes, size_or_scale, register_from}
use Rattle.operand.specs.declared.forms.Register.{Register}
use Rattle.operand.specs.declared.forms.BaseRegister.{BaseRegister}
use Rattle.records.specs.Counters.{stepped}
use Rattle.records.specs.declared.counters.Counters.{Counters}
use Rattle.names.specs.Tokens.{token_at}

-- the register that a token is
unfoldable pub reg_at : Token → List ℕ → Option ℕ
reg_at t x = pick (eqb t.kind Kinds.identifier) (register_of x) None

-- a register, of its number, with the span of its token
abbrev pub registered : Token → ℕ → Register
registered t n = record { index = n; span = span_of t }

unfoldable pub register_at : Token → List ℕ → Option Register
register_at t x = option_map (registered t) (reg_at t x)

-- `address_register_at`
unfoldable pub address_of : Option Register → Option Register
address_of (Some r) = pick (leb 8 r.index) (Some r) None
address_of None = None

-- the suppressed register that the token at the place i is, if the mark does not turn it into a symbol
unfoldable pub suppressed_at : Setting → ℕ → Token → List ℕ → Option Suppressed
suppressed_at s i t x = pick (eqb s.mark i) None (pick (eqb t.kind Kinds.identifier) (suppressed_of x) None)

-- the number of the register that a suppressed name is, as an index
unfoldable pub suppressed_reg : Option Suppressed → Option ℕ
suppressed_reg (Some (Suppressed.Register r)) = Some r
suppressed_reg (Some Suppressed.ProgramCounter) = None
suppressed_reg None = None

unfoldable pub suppressed_index_at : Setting → ℕ → Token → List ℕ → Option Register
suppressed_index_at s i t x = option_map (registered t) (suppressed_reg (suppressed_at s i t x))

-- whether `starts_a_full_index` hits at the place i
unfoldable pub full_index_starts : Setting → (ℕ → Place) → ℕ → Bool
full_index_starts s at i =
    pick (holds (unmarked s i is_suppressed) (at i)) (holds (closes true true) (at (i + 1)))
    (pick (holds an_address_register (at i)) (holds (closes false false) (at (i + 1)))
    (both (holds a_register (at i)) (holds (closes true false) (at (i + 1)))))

-- whether `starts_a_base` hits at the place i
unfoldable pub base_starts : (ℕ → Place) → ℕ → Bool
base_starts at i =
    both (holds (λ t x. either (a_register t x) (a_program_counter t x)) (at i))
    (either (not (holds any (at (i + 1)))) (holds (λ t x. either (eqb t.kind Kinds.right_paren) (eqb t.kind Kinds.comma)) (at (i + 1))))

-- the base that a register is: a data register is none
unfoldable pub address_base : Option Register → Option BaseRegister → Option BaseRegister
address_base (Some r) b = pick (leb 8 r.index) (Some (BaseRegister.Address r)) b
address_base None b = b

unfoldable pub suppressed_base : Option Suppressed → Option BaseRegister
suppressed_base (Some (Suppressed.Register r)) = pick (leb 8 r) (Some (BaseRegister.SuppressedAddress (r - 8))) None
suppressed_base (Some Suppressed.ProgramCounter) = None
suppressed_base None = None

unfoldable pub is_counter : Option Suppressed → Bool
is_counter (Some (Suppressed.Register r)) = false
is_counter (Some Suppressed.ProgramCounter) = true
is_counter None = false

-- `base_at`: the base that the token t with the text x is at the place i
unfoldable pub base_at : Setting → (ℕ → Place) → ℕ → Token → List ℕ → Option BaseRegister
base_at s at i t x =
    pick (a_program_counter t x) (Some BaseRegister.ProgramCounter)
    (pick (is_counter (suppressed_at s i t x)) (Some BaseRegister.SuppressedProgramCounter)
    (pick (holds size_or_scale (at (i + 1))) None
    (address_base (register_at t x) (suppressed_base (suppressed_at s i t x)))))

-- the register that is written suppressed, or else the other one
unfoldable pub suppressed_or : Option Register → Option Register → Option (Register × Bool)
suppressed_or (Some r) q = Some (r, true)
suppressed_or None q = option_map (λ r. (r, false)) q

-- an index register at the place i, and whether it is written suppressed
unfoldable pub index_at : Setting → ℕ → Token → List ℕ → Option (Register × Bool)
index_at s i t x = suppressed_or (suppressed_index_at s i t x) (register_at t x)

-- what a look-up says of the token at the cursor, which is stepped over where it hits
pub data NextBy {A : Type 0} (look : Token → List ℕ → Option A) (L T : List ℕ) (c : Counters) (v : Option A) (r : Counters) : Type 0 where
  hits : (t : Token) (x : A) → token_at T c.at ≡ Some t → look t (text_of L t.start t.end) ≡ Some x → v ≡ Some x → r ≡ stepped c t → NextBy look L T c v r
  misses : (t : Token) → token_at T c.at ≡ Some t → look t (text_of L t.start t.end) ≡ None → v ≡ None → r ≡ c → NextBy look L T c v r
  ends : token_at T c.at ≡ None → v ≡ None → r ≡ c → NextBy look L T c v r

-- a parenthesis and the token behind it, with the register that the token is
abbrev pub with_register : List ℕ → Token × Token → Token × Token × Register
with_register L y = (y.0, y.1, register_from y.1 (text_of L y.1.start y.1.end))

-- the parenthesis and the register behind the place i
pub data PredecrementAt (L T : List ℕ) (i : ℕ) (v : Option (Token × Token × Register)) : Type 0 where
  predecrement : {k t : Token} {r : Register} → of_kind Kinds.left_paren (token_at T (i + 1)) ≡ Some k → token_at T (i + 2) ≡ Some t → register_at t (text_of L t.start t.end) ≡ Some r
      → v ≡ Some (k, t, r) → PredecrementAt L T i v
  paren_not : of_kind Kinds.left_paren (token_at T (i + 1)) ≡ None → v ≡ None → PredecrementAt L T i v
  token_not : {k : Token} → of_kind Kinds.left_paren (token_at T (i + 1)) ≡ Some k → token_at T (i + 2) ≡ None → v ≡ None → PredecrementAt L T i v
  register_not : {k t : Token} → of_kind Kinds.left_paren (token_at T (i + 1)) ≡ Some k → token_at T (i + 2) ≡ Some t → register_at t (text_of L t.start t.end) ≡ None → v ≡ None → PredecrementAt L T i v
