-- The program's state, and what a part of the input does to it.
-- Assumes nothing.
use Rattle.std.specs.Prelude.{List, [], ◌∷◌, ℕ, ◌+◌, eqb, ltb, length, take, set}
use Rattle.names.specs.Choice.{pick}
use Rattle.records.specs.Stores.{written}
use Rattle.operand.specs.RefusalNumbers
use Rattle.frames.specs.Frame.{layout_of}
use Rattle.frames.specs.Reply.{refused, ended, answer_line}

-- the characters of the longest line that is a frame, a wide one: 1 + 2 * (65,535 + 6 * 65,535 + 8)
unfoldable pub longest : ℕ
longest = 917507

-- the bytes of the output store
unfoldable pub out_bytes : ℕ
out_bytes = 163840

-- what may be filled of them so that the longest answer still has room: 1 + 2 * (7 + 30 + 18,414 + 32,752) + 1 bytes
unfoldable pub roomy : ℕ
roomy = 61432

-- how much of the input is consumed; how many bytes of the unfinished line are held, above `longest` for one that is longer;
-- how many bytes of the output are filled; and both stores
pub record State : Type 0 where
  pub consumed : ℕ
  pub held : ℕ
  pub filled : ℕ
  pub carry : List ℕ
  pub out : List ℕ

-- the answer to a line that is held
unfoldable pub held_line : ℕ → List ℕ → List ℕ
held_line held carry = pick (ltb longest held) (ended (layout_of carry) (refused RefusalNumbers.bad_frame)) (answer_line (take held carry))

-- a line feed: the answer, and nothing held
abbrev pub fed : State → State
fed s =
    let y = held_line s.held s.carry in
    record { consumed = s.consumed + 1; held = 0; filled = s.filled + length y; carry = s.carry; out = written s.out s.filled y }

-- one byte more is held, if there is room for it
unfoldable pub held_on : ℕ → ℕ
held_on held = pick (ltb held longest) (held + 1) (longest + 1)

unfoldable pub carry_on : List ℕ → ℕ → ℕ → List ℕ
carry_on carry held b = pick (ltb held longest) (set carry held b) carry

abbrev pub kept : ℕ → State → State
kept b s = record { consumed = s.consumed + 1; held = held_on s.held; filled = s.filled; carry = carry_on s.carry s.held b; out = s.out }

unfoldable pub step : ℕ → State → State
step b s = pick (eqb b 10) (fed s) (kept b s)

-- byte for byte, up to the input's end or where the longest answer has no room
unfoldable pub steps : List ℕ → State → State
steps [] s = s
steps (b ∷ bs) s = pick (ltb roomy s.filled) s (steps bs (step b s))

-- a call's beginning: nothing consumed, nothing filled
abbrev pub fresh : ℕ → List ℕ → List ℕ → State
fresh held carry out = record { consumed = 0; held = held; filled = 0; carry = carry; out = out }

-- what is left to write at the input's end: the answer to a last line without a line feed
unfoldable pub last_line : ℕ → List ℕ → List ℕ
last_line held carry = pick (eqb held 0) [] (held_line held carry)
