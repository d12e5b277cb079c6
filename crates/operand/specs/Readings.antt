-- What holds of every reading of an operand, over whatever places.
-- Assumes nothing.
use Rattle.std.specs.Prelude.{ℕ, Option, Some, None}
use Rattle.std.proofs.Math.Dec.{ltb}
use Rattle.names.specs.Choice.{pick}
use Rattle.names.specs.Places.{Place, nothing}

-- how far past the cursor a reading has looked: nowhere, and one place where there is no operand
unfoldable pub gap : {A : Type 0} → Option A → ℕ
gap (Some x) = 0
gap None = 1

-- ---- never in silence

-- nothing before the place i
unfoldable pub from : ℕ → (ℕ → Place) → ℕ → Place
from i at j = pick (ltb j i) nothing (at j)
