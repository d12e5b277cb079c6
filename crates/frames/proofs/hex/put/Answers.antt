-- `frames::hex::put` meets its contract. The loop's invariant: the digits of the first i bytes are written.
-- Assumes nothing.
use mathlib.Core.Path.{sym}
use native.Mathlib.Omega.{arith}
use Rattle.frames.specs.Hex.{digits}
use Rattle.frames.proofs.hex.Digits.{put_next, put_all}
use Rattle.records.specs.Written.{written_nothing}
use Rattle.frames.proofs.hex.put.Goals as goal

pub loop-i-init : goal.loop-i-init
unfolding digits
loop-i-init c =
    sym (written_nothing _ _)

pub loop-i-preserved : goal.loop-i-preserved
loop-i-preserved c =
    put_next _ _ _ _ _ _ _ c.loop-i.invariant (omega arith) c.requires c.digit.ensures c.digit-in-loop-i.ensures

pub returns : goal.returns
returns c =
    put_all _ _ _ _ c.loop-i.i c.loop-i.invariant (omega arith) c.requires
