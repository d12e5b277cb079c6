-- `operands::Answering::answer_part` meets its contract and ends: each call of `batch` consumes a byte at least.
-- The loop's invariant: the run over what is left leaves what the whole run leaves.
-- Assumes nothing.
use native.Mathlib.Omega.{arith}
use Rattle.std.proofs.Common.{true-eqb, false-eqb}
use Rattle.frames.specs.Bounds.{batch_bounds}
use Rattle.operands.proofs.Rests.{rest_all, rest_on, rest_less, rest_end}
use Rattle.operands.proofs.Answering.answer_part.Goals as goal

pub loop-rest-init : goal.loop-rest-init
loop-rest-init g c =
    rest_all c.args.input.now c.args.self.now.held c.args.self.now.carry c.args.self.now.out

pub write-requires : goal.write-requires
write-requires g c =
    omega (arith, batch_bounds _ _ _ _ _ _ _ c.batch-r.ensures)

pub slice_bounds-rest-count : goal.slice_bounds-rest-count
slice_bounds-rest-count g c =
    (batch_bounds _ _ _ _ _ _ _ c.batch-r.ensures).0

pub slice_bounds-rest-start : goal.slice_bounds-rest-start
slice_bounds-rest-start g c =
    (batch_bounds _ _ _ _ _ _ _ c.batch-r.ensures).0

pub loop-rest-smaller : goal.loop-rest-smaller
loop-rest-smaller g c =
    rest_less c.loop-rest.rest.now _ _ _ _ _ _ (omega (arith, false-eqb _ _ c.loop-rest-test.ensures)) c.batch-r.ensures

pub loop-rest-preserved : goal.loop-rest-preserved
loop-rest-preserved g c =
    rest_on c.args.input.now c.loop-rest.rest.now _ _ _ _ _ _ _ _ _ (omega (arith, false-eqb _ _ c.loop-rest-test.ensures)) c.batch-r.ensures c.loop-rest.invariant

pub returns : goal.returns
returns g c =
    rest_end c.args.input.now c.loop-rest.rest.now _ _ _ _ _ _ (true-eqb _ _ c.loop-rest-test.ensures) c.loop-rest.invariant
