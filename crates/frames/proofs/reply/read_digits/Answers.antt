-- `frames::reply::read_digits` meets its contract.
-- Assumes nothing.
use mathlib.Core.Path.{sym, ◌∙◌, ap}
use native.Mathlib.Omega.{arith}
use lib.Seq.{length-take-le}
use Rattle.std.specs.Prelude.{Err}
use Rattle.std.proofs.lemmas.Result.{err_from_is_err_and}
use Rattle.frames.proofs.reply.Replies.{spelled_by, unspelled_by, framed_by, unframed_by, told_bad, read_told, not_frame}
use Rattle.frames.proofs.batches.Turns.{digits_bad, digits_frame, digits_fit}
use Rattle.frames.proofs.reply.read_digits.Goals as goal

pub decode-requires : goal.decode-requires
decode-requires c =
    c.requires.fits

pub returns-in_err-n : goal.returns-in_err-n
returns-in_err-n c =
    let p = err_from_is_err_and c.from_residual.result c.from_residual.ensures.1 in
    let n = unspelled_by _ _ _ _ c.decode.ensures c.ok_or.ensures.value c.in_err-n.was in
    told_bad c.args.layout c.args.line.now _ _ _ (p.1 ∙ ap Err (p.2 ∙ n.1)) (digits_bad c.args.layout c.args.line.now n.0)

pub slice_bounds-bytes-end : goal.slice_bounds-bytes-end
slice_bounds-bytes-end c =
    omega (arith, digits_fit c.args.layout c.args.line.now _ _ (spelled_by _ _ c.decode.ensures c.ok_or.ensures.value c.in_ok-n.was) (omega (arith, c.requires.fits, c.decode.auto)))

pub slice_bounds-bytes-end-2 : goal.slice_bounds-bytes-end-2
slice_bounds-bytes-end-2 c =
    sym (length-take-le _ _ (digits_fit c.args.layout c.args.line.now _ _ (spelled_by _ _ c.decode.ensures c.ok_or.ensures.value c.in_ok-n.was) (omega (arith, c.requires.fits, c.decode.auto))))

pub returns-in_err-k : goal.returns-in_err-k
returns-in_err-k c =
    let p = err_from_is_err_and c.from_residual-in_err-k.result c.from_residual-in_err-k.ensures.1 in
    let k = unframed_by _ _ _ _ c.frame_line.ensures c.ok_or-2.ensures.value c.in_err-k.was in
    told_bad c.args.layout c.args.line.now _ _ _ (p.1 ∙ ap Err (p.2 ∙ k.1))
    (sym (not_frame c.args.layout _ k.0) ∙ digits_frame c.args.layout c.args.line.now _ _ (spelled_by _ _ c.decode.ensures c.ok_or.ensures.value c.in_ok-n.was))

pub read_frame-requires : goal.read_frame-requires
read_frame-requires c =
    framed_by _ _ c.frame_line.ensures c.ok_or-2.ensures.value c.in_ok-k.was

pub returns : goal.returns
returns c =
    read_told c.args.layout c.args.line.now _ _ _ _ _ (digits_frame c.args.layout c.args.line.now _ _ (spelled_by _ _ c.decode.ensures c.ok_or.ensures.value c.in_ok-n.was)) (framed_by _ _ c.frame_line.ensures c.ok_or-2.ensures.value c.in_ok-k.was).whole c.requires.nodes_long c.requires.diagnostics_long _ c.read_frame.ensures
