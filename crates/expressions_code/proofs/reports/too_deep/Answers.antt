-- `expressions_code::reports::too_deep` meets its contract.
-- Assumes nothing.
use Rattle.records.specs.Spans.{blank}
use Rattle.expressions_code.proofs.leaves.Returns.{depth_told}
use Rattle.expressions_code.proofs.reports.too_deep.Goals as goal

pub returns-clause-told : goal.returns-clause-told
returns-clause-told c =
    depth_told c.span_at-span.ensures (rw (blank c.default.ensures) at c.plain.ensures) c.report.ensures.told
