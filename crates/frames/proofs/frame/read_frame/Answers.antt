-- `frames::frame::read_frame` meets its contract.
-- Assumes nothing.
use Rattle.frames.proofs.reply.Replies.{read_lent}
use Rattle.frames.proofs.frame.read_frame.Goals as goal

pub returns : goal.returns
returns c =
    read_lent c.args.layout c.args.bytes.now c.args.line c.width-k.result c.number_at-start.result c.number_at-mark.result c.args.nodes.now c.args.diagnostics.now _ _ c.requires c.width-k.ensures c.number_at-start.ensures.0 c.number_at-mark.ensures.0 _ c.parse_operand.ensures
