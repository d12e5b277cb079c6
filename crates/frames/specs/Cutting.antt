-- However an input is cut into parts, the same is written.
-- Assumes nothing.
use Rattle.std.specs.Prelude.{◌≡◌, List, ℕ, ◌+◌, ◌≤◌, ◌<◌, length, take, get_or}
use Rattle.frames.specs.Machine.{longest}

-- how the state has the bytes l of an unfinished line: all of them, or, of one that is longer than any frame, the first
pub data Holds (h : ℕ) (C l : List ℕ) : Type 0 where
  whole : h ≡ length l → h ≤ longest → take h C ≡ l → Holds h C l
  long : h ≡ longest + 1 → longest < length l → get_or C 0 0 ≡ get_or l 0 0 → Holds h C l
