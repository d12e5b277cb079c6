-- `operands::Answering::answer_part` meets its contract and ends: each call of `batch` consumes a byte at least.
-- The loop's invariant: the run over what is left leaves what the whole run leaves.
-- Assumes nothing.
use lib.ListN.{length}
use Rattle.operands.proofs.Rests.{Rest}
use Rattle.operands.proofs.Answering.answer_part.Given as goal

abbrev pub invariant-loop-rest : goal.invariant-loop-rest
invariant-loop-rest g l = Rest l.input l.rest l.self.held l.self.carry l.self.out l.initial.self.held l.initial.self.carry l.initial.self.out

abbrev pub decreases-loop-rest : goal.decreases-loop-rest
decreases-loop-rest g l = length l.rest
