-- `frames::reply::put_answer` meets its contract.
-- Assumes nothing.
use mathlib.Core.Path.{◌≡◌, ap, sym, ◌∙◌}
use Prim.Native.Nat.{◌*◌}
use native.Mathlib.Omega.{arith}
use lib.ListN.{length}
use lib.Seq.{length-take-le}
use Rattle.operand.specs.Layouts.{node_size, diagnostic_size}
use Rattle.operand.specs.Layout.{head_laid}
use Rattle.layout.specs.Head.{length_head}
use Rattle.frames.proofs.reply.Putting.{answer_long, record_long, alone, answer_line}
use Rattle.frames.proofs.reply.put_answer.Goals as goal

pub overflow_mul-node_end : goal.overflow_mul-node_end
overflow_mul-node_end c =
    let l = answer_long c.args.layout c.args.nodes.now c.args.diagnostics.now c.args.out.now c.args.x c.requires in
    let n : c.node_size.result * c.args.x.nodes ≡ node_size c.args.layout * c.args.x.nodes = ap (λ k. k * c.args.x.nodes) c.node_size.ensures in
    omega (arith, l.nodes)

pub overflow_mul-diagnostic_end : goal.overflow_mul-diagnostic_end
overflow_mul-diagnostic_end c =
    let l = answer_long c.args.layout c.args.nodes.now c.args.diagnostics.now c.args.out.now c.args.x c.requires in
    let d : c.diagnostic_size.result * c.args.x.diagnostics ≡ diagnostic_size c.args.layout * c.args.x.diagnostics = ap (λ k. k * c.args.x.diagnostics) c.diagnostic_size.ensures in
    omega (arith, l.diagnostics)

pub slice_bounds-put_parts-end-3 : goal.slice_bounds-put_parts-end-3
slice_bounds-put_parts-end-3 c =
    let l = answer_long c.args.layout c.args.nodes.now c.args.diagnostics.now c.args.out.now c.args.x c.requires in
    let n : c.node_size.result * c.args.x.nodes ≡ node_size c.args.layout * c.args.x.nodes = ap (λ k. k * c.args.x.nodes) c.node_size.ensures in
    sym (length-take-le _ _ (omega (arith, l.nodes)))

pub slice_bounds-put_parts-end-4 : goal.slice_bounds-put_parts-end-4
slice_bounds-put_parts-end-4 c =
    let l = answer_long c.args.layout c.args.nodes.now c.args.diagnostics.now c.args.out.now c.args.x c.requires in
    let d : c.diagnostic_size.result * c.args.x.diagnostics ≡ diagnostic_size c.args.layout * c.args.x.diagnostics = ap (λ k. k * c.args.x.diagnostics) c.diagnostic_size.ensures in
    sym (length-take-le _ _ (omega (arith, l.diagnostics)))

pub put_parts-requires : goal.put_parts-requires
put_parts-requires c =
    let l = answer_long c.args.layout c.args.nodes.now c.args.diagnostics.now c.args.out.now c.args.x c.requires in
    let n : c.node_size.result * c.args.x.nodes ≡ node_size c.args.layout * c.args.x.nodes = ap (λ k. k * c.args.x.nodes) c.node_size.ensures in
    let d : c.diagnostic_size.result * c.args.x.diagnostics ≡ diagnostic_size c.args.layout * c.args.x.diagnostics = ap (λ k. k * c.args.x.diagnostics) c.diagnostic_size.ensures in
    let long = length_head c.args.layout c.case_of-case.result c.args.x.cursor c.args.x.nodes c.args.x.diagnostics in
    let head = alone c.args.layout _ _ _ c.head_size-head_end.result (omega (arith, c.head_size-head_end.ensures, long)) (omega (arith, l.head, long)) c.write_head.ensures in
    let nodes = length-take-le (c.node_size.result * c.args.x.nodes) c.args.nodes.now (omega (arith, l.nodes)) in
    let diagnostics = length-take-le (c.diagnostic_size.result * c.args.x.diagnostics) c.args.diagnostics.now (omega (arith, l.diagnostics)) in
    omega (arith, l.room, ap length head, ap length c.put_record-record_end.ensures.bytes, record_long c.args.layout c.args.x.operand)

pub returns-clause-wrote : goal.returns-clause-wrote
returns-clause-wrote c =
    let l = answer_long c.args.layout c.args.nodes.now c.args.diagnostics.now c.args.out.now c.args.x c.requires in
    let n : c.node_size.result * c.args.x.nodes ≡ node_size c.args.layout * c.args.x.nodes = ap (λ k. k * c.args.x.nodes) c.node_size.ensures in
    let d : c.diagnostic_size.result * c.args.x.diagnostics ≡ diagnostic_size c.args.layout * c.args.x.diagnostics = ap (λ k. k * c.args.x.diagnostics) c.diagnostic_size.ensures in
    let long = length_head c.args.layout c.case_of-case.result c.args.x.cursor c.args.x.nodes c.args.x.diagnostics in
    let head = alone c.args.layout _ _ _ c.head_size-head_end.result (omega (arith, c.head_size-head_end.ensures, long)) (omega (arith, l.head, long)) c.write_head.ensures in
    answer_line c.args.layout c.args.x _ _ _ _ _ _ _ _ c.head_size-head_end.result c.put_record-record_end.result _ _
    (head ∙ ap (λ k. head_laid c.args.layout k c.args.x.cursor c.args.x.nodes c.args.x.diagnostics) c.case_of-case.ensures)
    c.put_record-record_end.ensures.bytes n d c.put_parts.ensures.wrote
