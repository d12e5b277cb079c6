-- Size suffixes.
-- Assumes nothing.
use Rattle.std.specs.Prelude.{Option, Some, None, List, [], ◌∷◌, ℕ, eqb, drop}
use Rattle.names.specs.Choice.{pick}
use Rattle.names.specs.Letters.{lower}
use Rattle.names.specs.declared.sizes.SizeSuffix.{SizeSuffix}
use Rattle.names.specs.declared.sizes.SizeSuffix.TheVariants.{Byte, Word, Long, Short}

-- the run behind the first byte, whatever that is
unfoldable pub run_of : List ℕ → List ℕ
run_of text = drop 1 text

-- by the small letter: b (98), w (119), l (108) or s (115)
unfoldable pub letter_size : ℕ → Option SizeSuffix
letter_size c = pick (eqb c 98) (Some Byte) (pick (eqb c 119) (Some Word) (pick (eqb c 108) (Some Long) (pick (eqb c 115) (Some Short) None)))

-- `SizeSuffix::from_run`: one letter
unfoldable pub size_of : List ℕ → Option SizeSuffix
size_of [] = None
size_of (c ∷ []) = letter_size (lower c)
size_of (c ∷ d ∷ ds) = None
