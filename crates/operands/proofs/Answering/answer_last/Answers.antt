-- `operands::Answering::answer_last` meets its contract: what `finish` writes is in the store.
-- Assumes nothing.
use native.Mathlib.Omega.{arith}
use Rattle.frames.specs.Bounds.{finish_bound}
use Rattle.operands.proofs.Answering.answer_last.Goals as goal

pub write-requires : goal.write-requires
write-requires g c =
    omega (arith, finish_bound _ _ _ _ _ c.finish-n.ensures)
