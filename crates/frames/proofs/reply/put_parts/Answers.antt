-- `frames::reply::put_parts` meets its contract.
-- Assumes nothing.
use native.Mathlib.Omega.{arith}
use Rattle.frames.proofs.output.Filling.{next_digits}
use Rattle.frames.proofs.reply.Putting.{next_opening, parts_put}
use Rattle.frames.proofs.reply.put_parts.Goals as goal

pub put-requires : goal.put-requires
put-requires c =
    omega (arith, c.requires, c.open_line.ensures.wrote, next_opening c.args.layout c.open_line.ensures.wrote)

pub put-requires-2 : goal.put-requires-2
put-requires-2 c =
    omega (arith, c.requires, c.open_line.ensures.wrote, next_opening c.args.layout c.open_line.ensures.wrote, c.put.ensures.wrote, next_digits _ c.put.ensures.wrote)

pub put-requires-3 : goal.put-requires-3
put-requires-3 c =
    omega (arith, c.requires, c.open_line.ensures.wrote, next_opening c.args.layout c.open_line.ensures.wrote, c.put.ensures.wrote, next_digits _ c.put.ensures.wrote, c.put-2.ensures.wrote, next_digits _ c.put-2.ensures.wrote)

pub put-requires-4 : goal.put-requires-4
put-requires-4 c =
    omega (arith, c.requires, c.open_line.ensures.wrote, next_opening c.args.layout c.open_line.ensures.wrote, c.put.ensures.wrote, next_digits _ c.put.ensures.wrote, c.put-2.ensures.wrote, next_digits _ c.put-2.ensures.wrote, c.put-3.ensures.wrote, next_digits _ c.put-3.ensures.wrote)

pub push-requires : goal.push-requires
push-requires c =
    omega (arith, c.requires, c.open_line.ensures.wrote, next_opening c.args.layout c.open_line.ensures.wrote, c.put.ensures.wrote, next_digits _ c.put.ensures.wrote, c.put-2.ensures.wrote, next_digits _ c.put-2.ensures.wrote, c.put-3.ensures.wrote, next_digits _ c.put-3.ensures.wrote, c.put-4.ensures.wrote, next_digits _ c.put-4.ensures.wrote)

pub returns-clause-wrote : goal.returns-clause-wrote
returns-clause-wrote c =
    parts_put c.args.layout _ _ _ _ c.requires c.open_line.ensures.wrote c.put.ensures.wrote c.put-2.ensures.wrote c.put-3.ensures.wrote c.put-4.ensures.wrote c.push.ensures.wrote
