-- The kinds of tokens, 0 to 29 in the order of the Rust's `TokenKind`.
-- Assumes nothing.
use Rattle.std.specs.Prelude.{ℕ}

abbrev pub identifier : ℕ
identifier = 0

abbrev pub local_identifier : ℕ
local_identifier = 1

abbrev pub number : ℕ
number = 2

abbrev pub string_literal : ℕ
string_literal = 3

abbrev pub size_suffix : ℕ
size_suffix = 4

abbrev pub hash : ℕ
hash = 5

abbrev pub comma : ℕ
comma = 6

abbrev pub left_paren : ℕ
left_paren = 7

abbrev pub right_paren : ℕ
right_paren = 8

abbrev pub left_bracket : ℕ
left_bracket = 9

abbrev pub right_bracket : ℕ
right_bracket = 10

abbrev pub left_brace : ℕ
left_brace = 11

abbrev pub right_brace : ℕ
right_brace = 12

abbrev pub colon : ℕ
colon = 13

abbrev pub plus : ℕ
plus = 14

abbrev pub minus : ℕ
minus = 15

abbrev pub star : ℕ
star = 16

abbrev pub slash : ℕ
slash = 17

abbrev pub backslash : ℕ
backslash = 18

abbrev pub ampersand : ℕ
ampersand = 19

abbrev pub bang : ℕ
bang = 20

abbrev pub pipe : ℕ
pipe = 21

abbrev pub caret : ℕ
caret = 22

abbrev pub tilde : ℕ
tilde = 23

abbrev pub shift_left : ℕ
shift_left = 24

abbrev pub shift_right : ℕ
shift_right = 25

abbrev pub whitespace : ℕ
whitespace = 26

abbrev pub comment : ℕ
comment = 27

abbrev pub end_of_line : ℕ
end_of_line = 28

abbrev pub error : ℕ
error = 29
