-- How long an answer's beginning is.
-- Assumes nothing.
use Rattle.std.specs.Prelude.{◌≡◌, refl, ℕ, length}
use Rattle.records.specs.Nodes.{low_first}
use Rattle.operand.specs.declared.layouts.Layout.{Layout}
use Rattle.operand.specs.Layouts.{number}
use Rattle.operand.specs.Layout.{head_laid}

abbrev pub head_size : Layout → ℕ
head_size Layout.Narrow = 5
head_size Layout.Wide = 7

pub length_head : (w : Layout) (k cursor n d : ℕ) → length (head_laid w k cursor n d) ≡ head_size w
unfolding head_laid number low_first
length_head Layout.Narrow k cursor n d = refl
length_head Layout.Wide k cursor n d = refl
