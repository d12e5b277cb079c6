-- Diagnostics encoded into the lent list. Where they do not fit, nothing moves.
-- Assumes nothing.
use Rattle.std.specs.Prelude.{List, [], ◌∷◌, ◌++◌, ℕ, ◌+◌, ◌*◌, leb, length, get_or}
use Rattle.names.specs.Choice.{pick}
use Rattle.records.specs.Stores.{written}
use Rattle.operand.specs.declared.layouts.Layout.{Layout}
use Rattle.operand.specs.Layouts.{number, diagnostic_size}
use Rattle.operand.specs.Layout.{low, records_laid}

-- the record whose ten numbers begin at p
unfoldable pub diagnostic_from : Layout → List ℕ → ℕ → List ℕ
diagnostic_from w M p =
    low (get_or M p 0) ∷ low (get_or M (p + 1) 0) ∷ low (get_or M (p + 2) 0)
    ∷ (number w (get_or M (p + 3) 0) ++ (number w (get_or M (p + 4) 0) ++ (number w (get_or M (p + 5) 0) ++ (number w (get_or M (p + 6) 0)
    ++ (number w (get_or M (p + 7) 0) ++ (number w (get_or M (p + 8) 0) ++ (low (get_or M (p + 9) 0) ∷ [])))))))

-- the first n diagnostic records of M, behind the used ones
unfoldable pub diagnostics_encoded : Layout → List ℕ → ℕ → List ℕ → ℕ → List ℕ
diagnostics_encoded w M n D used = pick (leb (10 * n) (length M)) (written D (diagnostic_size w * used) (records_laid (diagnostic_from w) M n)) D
