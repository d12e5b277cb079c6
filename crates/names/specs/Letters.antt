-- Texts are lists of bytes, and names are matched by their small letters.
-- Assumes nothing.
use Rattle.std.specs.Prelude.{Bool, true, false, List, [], ◌∷◌, ℕ, ◌+◌, leb, eqb}
use Prim.Native.Char.{code}
use Prim.Native.String.{String}
use Prim.Native.String as S
use Rattle.names.specs.Choice.{pick, both}

-- the bytes of a quoted text
abbrev pub bytes : String → List ℕ
bytes S.[] = []
bytes (S.◌∷◌ c cs) = code c ∷ bytes cs

-- a letter in small, as Rust's `to_ascii_lowercase`: A to Z are 65 to 90
unfoldable pub lower : ℕ → ℕ
lower c = pick (both (leb 65 c) (leb c 90)) (c + 32) c

unfoldable pub lowered : List ℕ → List ℕ
lowered [] = []
lowered (c ∷ cs) = lower c ∷ lowered cs

-- two texts have the same bytes
unfoldable pub same : List ℕ → List ℕ → Bool
same [] [] = true
same [] (d ∷ ds) = false
same (c ∷ cs) [] = false
same (c ∷ cs) (d ∷ ds) = both (eqb c d) (same cs ds)

-- a name's small letters are those of a word
unfoldable pub spelled : List ℕ → List ℕ → Bool
spelled word name = same (lowered name) word
