-- `names::letters::spells` meets its contract.
-- Assumes nothing.
use Rattle.names.proofs.letters.Spelling.{spelled_test}
use Rattle.names.proofs.letters.spells.Goals as goal

pub returns : goal.returns
returns c =
    spelled_test _ _ _ c.requires c.eq_ignore_ascii_case.ensures.test
