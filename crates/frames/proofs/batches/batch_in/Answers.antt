-- `frames::batches::batch_in` meets its contract. The loop's invariant: the rest of the input takes this state where the whole takes the first one.
-- Assumes nothing.
use mathlib.Core.Path.{◌≡◌, ◌∙◌}
use Prim.Native.Nat.{◌+◌}
use native.Mathlib.Omega.{arith}
use lib.ListN.{length, drop}
use Rattle.frames.specs.Machine.{steps, fresh}
use Rattle.frames.specs.Inner.{state}
use Rattle.frames.proofs.batches.Turns.{turn_fed, turn_kept, batch_end, batch_full, batch_on}
use Rattle.frames.proofs.batches.batch_in.Goals as goal
use Rattle.frames.proofs.batches.batch_in.Goals.{After-answer}

-- behind the answer to a line
fed : (c : After-answer)
    → steps (drop (c.loop-i.i + 1) c.args.input.now) (state (c.loop-i.i + 1) 0 c.answer.new.out.filled c.loop-i.carry c.answer.new.out.bytes.now) ≡ steps c.args.input.now (fresh c.args.held c.args.carry.now c.args.out.now)
fed c =
    let p = c.loop-i.invariant in
    batch_on c.args.input.now _ _ _ c.loop-i.i c.loop-i.h c.loop-i.out.filled _ _ p.0 (omega arith) _ _ _ _ p.1 (turn_fed _ _ _ _ _ _ _ c.if-b-ne10.false c.answer.ensures.wrote)

pub loop-i-preserved-then-b-ne10 : goal.loop-i-preserved-then-b-ne10
loop-i-preserved-then-b-ne10 c =
    let p = c.loop-i.invariant in
    (batch_on c.args.input.now _ _ _ c.loop-i.i c.loop-i.h c.loop-i.out.filled _ _ p.0 (omega arith) _ _ _ _ p.1 (turn_kept _ _ _ _ _ _ _ c.if-b-ne10.true c.hold-h.ensures), p.1, p.2, p.3)

pub returns-then-out-gt-ROOMY : goal.returns-then-out-gt-ROOMY
returns-then-out-gt-ROOMY c =
    batch_full c.args.input.now _ _ _ (c.loop-i.i + 1) 0 c.answer.new.out.filled _ _ (fed (goal.at.returns-then-out-gt-ROOMY c).After-answer) (omega (arith, c.if-out-gt-ROOMY.true))

pub loop-i-preserved : goal.loop-i-preserved
loop-i-preserved c =
    let p = c.loop-i.invariant in
    let e = c.answer.ensures in
    (fed (goal.at.loop-i-preserved c).After-answer, omega (arith, c.if-out-gt-ROOMY.false), e.wrote.kept ∙ p.2, e.lent ∙ p.3)

pub returns : goal.returns
returns c =
    let end : c.loop-i.i ≡ length c.args.input.now = omega arith in
    rw end at (batch_end c.args.input.now _ _ _ c.loop-i.i c.loop-i.h c.loop-i.out.filled _ _ c.loop-i.invariant.0 (omega arith))
