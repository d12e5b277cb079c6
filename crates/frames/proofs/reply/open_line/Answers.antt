-- `frames::reply::open_line` meets its contract.
-- Assumes nothing.
use native.Mathlib.Omega.{arith}
use Rattle.frames.proofs.reply.Putting.{opened, opened_wide}
use Rattle.frames.proofs.reply.open_line.Goals as goal

pub returns-in-Narrow-clause-wrote : goal.returns-in-Narrow-clause-wrote
returns-in-Narrow-clause-wrote c =
    opened _ _ _ (omega (arith, c.requires)) c.in-Narrow.is

pub returns-in-Wide-clause-wrote : goal.returns-in-Wide-clause-wrote
returns-in-Wide-clause-wrote c =
    opened_wide _ c.in-Wide.is c.push.ensures.wrote
