-- `layout::diagnostics::encode_diagnostics` meets its contract. The loop's invariant: the first i records are written behind the used ones.
-- Assumes nothing.
use Rattle.std.proofs.Common.{◌≡◌, ◌*◌}
use Rattle.records.specs.Stores.{written}
use Rattle.operand.specs.Layouts.{diagnostic_size}
use Rattle.operand.specs.Layout.{records_laid}
use Rattle.layout.specs.Diagnostics.{diagnostic_from}
use Rattle.layout.proofs.diagnostics.encode_diagnostics.Given as goal

abbrev pub invariant-loop-i : goal.invariant-loop-i
invariant-loop-i l = l.diagnostics ≡ written l.initial.diagnostics (diagnostic_size l.layout * l.used) (records_laid (diagnostic_from l.layout) l.numbers l.i)
