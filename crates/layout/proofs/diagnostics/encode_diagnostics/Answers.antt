-- `layout::diagnostics::encode_diagnostics` meets its contract. The loop's invariant: the first i records are written behind the used ones.
-- Assumes nothing.
use mathlib.Core.Path.{◌≡◌, ap, ◌∙◌}
use Prim.Native.Nat.{◌+◌, ◌*◌, ◌≤◌, ◌<◌}
use native.Mathlib.Nat.{mul-add}
use native.Mathlib.Omega.{arith}
use Rattle.std.proofs.Common.{rules}
use mathlib.Core.List.{[]}
use lib.ListN.{length, get_or}
use Rattle.operand.specs.Layouts.{diagnostic_size}
use Rattle.layout.specs.Diagnostics.{diagnostic_from}
use Rattle.layout.proofs.store.Chunks.{diagnostic_from_chunk}
use Rattle.layout.proofs.store.Encoding.{records_on, place_within, length_diagnostic_from, records_together, diagnostics_all}
use Rattle.layout.proofs.diagnostics.encode_diagnostics.Goals as goal

pub loop-i-preserved : goal.loop-i-preserved
loop-i-preserved c =
    let w = c.args.layout in
    let M = c.args.numbers.now in
    let k = diagnostic_size w in
    let i = c.loop-i.i in
    let used = c.args.used in
    let on : i < c.args.n = omega (arith, c.in-Some.ensures.lookup.0.3) in
    let at : c.diagnostic_size-size.result * (used + i) ≡ k * used + k * i = ap (λ s. s * (used + i)) c.diagnostic_size-size.ensures ∙ mul-add k used i in
    let all : k * used + k * c.args.n ≤ length c.args.diagnostics.now = records_together w M c.args.n c.args.diagnostics.now used _ c.diagnostic_count-count.ensures (search rules) in
    records_on (diagnostic_from w) k M (length_diagnostic_from w M) _ (k * used) _ _ i _ at (omega (arith, place_within k i c.args.n on)) c.loop-i.invariant (diagnostic_from_chunk M _ c.args.n i _ _ c.as_chunks.ensures.front c.as_chunks.ensures.front_len (ap (λ l. get_or l i []) c.in-Some.ensures.lookup.0.2) on c.in-Some.ensures.lookup.0.1 w _ _ _ c.encode_diagnostic.ensures)

pub returns : goal.returns
returns c =
    diagnostics_all c.args.layout c.args.numbers.now c.args.n c.args.diagnostics.now c.args.used (omega (arith, c.in-Some.ensures.lookup.0.1, c.as_chunks.ensures.front_len)) _ c.loop-i.i (omega (arith, c.in-Some.ensures.lookup.0.3)) c.loop-i.invariant
