-- `frames::frame::frame_line` meets its contract.
-- Assumes nothing.
use mathlib.Core.Path.{ap}
use Prim.Native.Nat.{◌*◌}
use native.Mathlib.Omega.{arith}
use Rattle.frames.specs.Inner.{FramedAs}
use Rattle.frames.proofs.reply.Replies.{frame_tokens, framed_if}
use Rattle.frames.proofs.frame.frame_line.Goals as goal

pub returns-in_err-line_and_list : goal.returns-in_err-line_and_list
unfolding FramedAs
returns-in_err-line_and_list c =
    rw c.from_residual.ensures (λ e. c.in_err-line_and_list.ensures (omega (arith, c.width-k.ensures)))

pub returns-in_err-list : goal.returns-in_err-list
unfolding FramedAs
returns-in_err-list c =
    rw c.from_residual-in_err-list.ensures (λ e. c.in_err-list.ensures (omega (arith, c.in_ok-line_and_list.ensures, c.width-k.ensures, c.number_at-line.ensures)))

pub returns : goal.returns
returns c =
    rw c.then_some.ensures
    (framed_if c.args.layout c.args.bytes.now c.number_at-line.result c.in_ok-list.list _ c.number_at-line.ensures.0
    (frame_tokens c.args.layout c.args.bytes.now c.number_at-line.result c.width-k.result c.number_at-count.result _ c.number_at-line.ensures.0 c.width-k.ensures c.number_at-count.ensures.0 (ap (λ n. n * c.number_at-count.result) c.token_size.ensures))
    (omega (arith, c.in_ok-line_and_list.ensures, c.in_ok-list.ensures, c.width-k.ensures)))
