-- `frames::reply::answer_digits` meets its contract.
-- Assumes nothing.
use mathlib.Core.Path.{ap}
use native.Mathlib.Omega.{arith}
use Rattle.frames.specs.Inner.{ReadTold}
use Rattle.frames.specs.Reply.{ended}
use Rattle.frames.proofs.output.Filling.{put_as}
use Rattle.frames.proofs.reply.Replies.{put_asks}
use Rattle.frames.proofs.reply.answer_digits.Goals as goal

pub read_digits-requires : goal.read_digits-requires
read_digits-requires c =
    c.requires.stores

pub put_answer-requires : goal.put_answer-requires
unfolding ReadTold
put_answer-requires c =
    put_asks c.args.layout c.args.line.now _ _ _ _ (rw c.in-Ok.is at c.read_digits.ensures) (omega (arith, c.requires.stores, c.read_digits.auto)) (omega (arith, c.requires.stores, c.read_digits.auto)) c.requires.room

pub refuse-requires : goal.refuse-requires
refuse-requires c =
    omega (arith, c.requires.room)

pub returns-in-Ok-clause-wrote : goal.returns-in-Ok-clause-wrote
unfolding ReadTold
returns-in-Ok-clause-wrote c =
    put_as _ _ (ap (ended c.args.layout) (rw c.in-Ok.is at c.read_digits.ensures).bytes) c.put_answer.ensures.wrote

pub returns-in-Err-clause-wrote : goal.returns-in-Err-clause-wrote
unfolding ReadTold
returns-in-Err-clause-wrote c =
    put_as _ _ (ap (ended c.args.layout) (rw c.in-Err.is at c.read_digits.ensures)) c.refuse.ensures.wrote
