-- `frames::batches::batch_in` meets its contract. The loop's invariant: the rest of the input takes this state where the whole takes the first one.
-- Assumes nothing.
use Rattle.std.proofs.Common.{◌≡◌, ◌≤◌, length, drop}
use Rattle.frames.specs.Machine.{steps, fresh}
use Rattle.frames.specs.Inner.{state}
use Rattle.frames.proofs.batches.batch_in.Given as goal

abbrev pub invariant-loop-i : goal.invariant-loop-i
invariant-loop-i l =
    (steps (drop l.i l.input) (state l.i l.h l.out.filled l.carry l.out.bytes.now) ≡ steps l.input (fresh l.held l.initial.carry l.initial.out.bytes.now))
    × (l.out.filled ≤ 61432)
    × (length l.out.bytes.now ≡ 163840)
    × (l.out.bytes.ghost_name ≡ l.initial.out.bytes.ghost_name)
