-- The problems of malformed operands, by their texts in the Rust, from 1 in the order in which the functions that `parse_operand` reaches first have them;
-- and the signs that kind 9 has in a problem's place.
-- Assumes nothing.
use Rattle.std.specs.Prelude.{ℕ}
use Rattle.records.specs.declared.problems.Problem.{Problem}

-- of a kind that has none
abbrev pub no_problem : ℕ
no_problem = 0

-- "an immediate carries no size: .."
abbrev pub immediate_carries_no_size : ℕ
immediate_carries_no_size = 1

-- "`..` is not an address register"
abbrev pub not_an_address_register : ℕ
not_an_address_register = 2

-- "the `)` is missing"
abbrev pub paren_missing : ℕ
paren_missing = 3

-- "the displacement is missing"
abbrev pub the_displacement_missing : ℕ
the_displacement_missing = 4

-- "the base register is missing"
abbrev pub base_missing : ℕ
base_missing = 5

-- "the index register is missing"
abbrev pub index_missing : ℕ
index_missing = 6

-- "the scale after `*` must be 1, 2, 4 or 8"
abbrev pub bad_scale : ℕ
bad_scale = 7

-- "the `]` is missing"
abbrev pub bracket_missing : ℕ
bracket_missing = 8

-- "the index register goes inside the brackets or after them, not both"
abbrev pub index_twice : ℕ
index_twice = 9

-- "a displacement is missing"
abbrev pub a_displacement_missing : ℕ
a_displacement_missing = 10

-- "a base register or an index register is missing"
abbrev pub base_or_index_missing : ℕ
base_or_index_missing = 11

-- the sign that the register would follow, by its ASCII code: `-`
abbrev pub after_minus : ℕ
after_minus = 45

-- `/`
abbrev pub after_slash : ℕ
after_slash = 47

-- the number of each
abbrev pub number : Problem → ℕ
number Problem.ImmediateCarriesNoSize = immediate_carries_no_size
number Problem.NotAnAddressRegister = not_an_address_register
number Problem.ParenMissing = paren_missing
number Problem.TheDisplacementMissing = the_displacement_missing
number Problem.BaseMissing = base_missing
number Problem.IndexMissing = index_missing
number Problem.BadScale = bad_scale
number Problem.BracketMissing = bracket_missing
number Problem.IndexTwice = index_twice
number Problem.ADisplacementMissing = a_displacement_missing
number Problem.BaseOrIndexMissing = base_or_index_missing
number Problem.AfterMinus = after_minus
number Problem.AfterSlash = after_slash
