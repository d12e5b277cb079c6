-- Choices by a test.
-- Assumes nothing.
use Rattle.std.specs.Prelude.{Bool, true, false}

abbrev pub pick : {A : Type 0} → Bool → A → A → A
pick true a b = a
pick false a b = b

abbrev pub both : Bool → Bool → Bool
both true b = b
both false b = false

abbrev pub either : Bool → Bool → Bool
either true b = true
either false b = b
