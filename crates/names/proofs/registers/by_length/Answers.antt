-- `names::registers::by_length` meets its contract.
-- Assumes nothing.
use Rattle.names.specs.Laws.{both_false, then_some_pick}
use Rattle.names.specs.Letters.{same}
use Rattle.names.specs.Registers.{named}
use Rattle.names.proofs.letters.Spelling.{spelled_letters}
use Rattle.names.proofs.registers.Specials.{special_letters}
use Rattle.names.proofs.registers.by_length.Goals as goal

pub returns-in-2 : goal.returns-in-2
unfolding named same
returns-in-2 c =
    rw (c.then_some.ensures, then_some_pick, c.spells.ensures, spelled_letters _ _ 0 2 c.in-2.is, special_letters _ 2 c.in-2.is) (simp both_false)
