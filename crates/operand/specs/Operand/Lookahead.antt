-- What stands at a place.
-- Assumes nothing.
use Rattle.std.specs.Prelude.{Option, Some, None, Bool, true, false, not, List, ℕ, eqb, leb}
use Rattle.names.specs.Choice.{both, either}
use Rattle.names.specs.Kinds
use Rattle.names.specs.Registers.{register_of, program_counter, suppressed_of}
use Rattle.names.specs.Reserved.{is_register}
use Rattle.names.specs.Cases.{register_number, index_number}
use Rattle.names.specs.declared.tokens.Token.{Token}
use Rattle.names.specs.declared.registers.Suppressed.{Suppressed}
use Rattle.records.specs.Spans.{span_of}
use Rattle.expressions.specs.declared.reading.Setting.{Setting}
use Rattle.expressions.specs.Reader.{Test}
use Rattle.operand.specs.declared.forms.Register.{Register}

unfoldable pub is_address : Option ℕ → Bool
is_address (Some r) = leb 8 r
is_address None = false

unfoldable pub is_suppressed : Option Suppressed → Bool
is_suppressed (Some (Suppressed.Register r)) = true
is_suppressed (Some Suppressed.ProgramCounter) = true
is_suppressed None = false

unfoldable pub is_suppressed_register : Option Suppressed → Bool
is_suppressed_register (Some (Suppressed.Register r)) = true
is_suppressed_register (Some Suppressed.ProgramCounter) = false
is_suppressed_register None = false

unfoldable pub is_suppressed_address : Option Suppressed → Bool
is_suppressed_address (Some (Suppressed.Register r)) = leb 8 r
is_suppressed_address (Some Suppressed.ProgramCounter) = false
is_suppressed_address None = false

-- a name of some sort
abbrev pub name : (List ℕ → Bool) → Test
name f k x = both (eqb k.kind Kinds.identifier) (f x)

-- `register_at`, `address_register_at`, `program_counter_at`
unfoldable pub a_register : Test
a_register = name λ x. is_register (register_of x)

unfoldable pub an_address_register : Test
an_address_register = name λ x. is_address (register_of x)

unfoldable pub a_program_counter : Test
a_program_counter = name program_counter

-- `suppressed_register_at` the place i, which the mark may turn into a symbol
unfoldable pub unmarked : Setting → ℕ → (Option Suppressed → Bool) → Test
unmarked s i f k x = both (not (eqb s.mark i)) (name (λ x. f (suppressed_of x)) k x)

-- `is_an_index_at` the place i
unfoldable pub an_index : Setting → ℕ → Test
an_index s i k x = either (a_register k x) (unmarked s i is_suppressed_register k x)

-- `is_a_base_or_an_index`; an address register with a size or a scale, which is no base, is an index
unfoldable pub a_base_or_an_index : Setting → ℕ → Test
a_base_or_an_index s i k x = either (a_program_counter k x) (either (a_register k x) (unmarked s i is_suppressed k x))

-- the register that a name is, where it is one
unfoldable pub index_of : Option ℕ → ℕ
index_of (Some r) = register_number (Some r)
index_of None = 0

unfoldable pub suppressed_index : Option Suppressed → ℕ
suppressed_index (Some (Suppressed.Register r)) = index_number (Some (Suppressed.Register r))
suppressed_index (Some Suppressed.ProgramCounter) = 0
suppressed_index None = 0

unfoldable pub register_from : Token → List ℕ → Register
register_from k x = record { index = index_of (register_of x); span = span_of k }
