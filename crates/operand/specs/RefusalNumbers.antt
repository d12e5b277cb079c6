-- The refusals by their numbers (docs/FORMAT.md has the order in which they are looked for).
-- Assumes nothing.
use Rattle.std.specs.Prelude.{◌≡◌, refl, ℕ, suc, eqb, Result, Ok, Err}
use Rattle.names.specs.Choice.{pick}
use Rattle.operand.specs.declared.refusals.Refusal.{Refusal}

-- over 255 bytes, or 4,095 in the wide layout
abbrev pub long_line : ℕ
long_line = 1

-- a byte that is not printable
abbrev pub foreign_byte : ℕ
foreign_byte = 2

-- no whole tokens, or over 255, or 1,023 in the wide layout
abbrev pub bad_list : ℕ
bad_list = 3

-- a token that may not stand so
abbrev pub bad_token : ℕ
bad_token = 4

-- past the tokens
abbrev pub bad_start : ℕ
bad_start = 5

-- a node store that is too short
abbrev pub short_nodes : ℕ
short_nodes = 6

-- too few diagnostic records are free
abbrev pub short_diagnostics : ℕ
short_diagnostics = 7

-- of the program alone: a line of the input that is no frame
abbrev pub bad_frame : ℕ
bad_frame = 8

-- a nesting limit outside 1 to 128
abbrev pub bad_limit : ℕ
bad_limit = 18

-- the number of each
abbrev pub number : Refusal → ℕ
number Refusal.LongLine = long_line
number Refusal.ForeignByte = foreign_byte
number Refusal.BadList = bad_list
number Refusal.BadToken = bad_token
number Refusal.BadStart = bad_start
number Refusal.ShortNodes = short_nodes
number Refusal.ShortDiagnostics = short_diagnostics
number Refusal.BadFrame = bad_frame
number Refusal.BadLimit = bad_limit

-- of an answer that may be a refusal: its number, 0 for none
abbrev pub number_in : {A : Type 0} → Result A Refusal → ℕ
number_in (Ok x) = 0
number_in (Err k) = number k

-- the refusal of a number
unfoldable pub numbered : ℕ → Refusal
numbered n =
    pick (eqb n long_line) Refusal.LongLine
    (pick (eqb n foreign_byte) Refusal.ForeignByte
    (pick (eqb n bad_list) Refusal.BadList
    (pick (eqb n bad_token) Refusal.BadToken
    (pick (eqb n bad_start) Refusal.BadStart
    (pick (eqb n short_nodes) Refusal.ShortNodes
    (pick (eqb n short_diagnostics) Refusal.ShortDiagnostics
    (pick (eqb n bad_frame) Refusal.BadFrame Refusal.BadLimit)))))))

pub number_numbered : (k : Refusal) → numbered (number k) ≡ k
unfolding numbered
number_numbered Refusal.LongLine = refl
number_numbered Refusal.ForeignByte = refl
number_numbered Refusal.BadList = refl
number_numbered Refusal.BadToken = refl
number_numbered Refusal.BadStart = refl
number_numbered Refusal.ShortNodes = refl
number_numbered Refusal.ShortDiagnostics = refl
number_numbered Refusal.BadFrame = refl
number_numbered Refusal.BadLimit = refl

-- none is 0
pub number_more : (k : Refusal) → (n : ℕ) × (number k ≡ suc n)
number_more Refusal.LongLine = (0, refl)
number_more Refusal.ForeignByte = (1, refl)
number_more Refusal.BadList = (2, refl)
number_more Refusal.BadToken = (3, refl)
number_more Refusal.BadStart = (4, refl)
number_more Refusal.ShortNodes = (5, refl)
number_more Refusal.ShortDiagnostics = (6, refl)
number_more Refusal.BadFrame = (7, refl)
number_more Refusal.BadLimit = (17, refl)
