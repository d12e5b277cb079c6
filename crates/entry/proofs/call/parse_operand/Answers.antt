-- `entry::call::parse_operand` meets its contract.
-- Assumes nothing.
use mathlib.Core.Path.{◌≡◌}
use borrow.Author.Rules.{rules}
use native.Mathlib.Omega.{arith}
use Rattle.std.specs.Prelude.{Err}
use Rattle.entry.proofs.call.Refusals.{line_refused, asked, asked_most}
use Rattle.entry.proofs.call.parse_operand.Goals as goal

pub returns-in_err-refuse_line_and_list : goal.returns-in_err-refuse_line_and_list
returns-in_err-refuse_line_and_list c =
    let e : c.from_residual.result ≡ Err c.in_err-refuse_line_and_list.field-0.0 = search rules in
    rw e (line_refused _ c.in_err-refuse_line_and_list.ensures)

pub read_within-requires-clause-asked : goal.read_within-requires-clause-asked
read_within-requires-clause-asked c =
    asked 8 c.in_ok-refuse_line_and_list.ensures c.token_count.ensures (omega arith)

pub read_within-requires-in-9-to-16-clause-asked : goal.read_within-requires-in-9-to-16-clause-asked
read_within-requires-in-9-to-16-clause-asked c =
    asked 16 c.in_ok-refuse_line_and_list.ensures c.token_count.ensures (omega arith)

pub read_within-requires-in-17-to-64-clause-asked : goal.read_within-requires-in-17-to-64-clause-asked
read_within-requires-in-17-to-64-clause-asked c =
    asked 64 c.in_ok-refuse_line_and_list.ensures c.token_count.ensures (omega arith)

pub read_within-requires-in-65-to-255-clause-asked : goal.read_within-requires-in-65-to-255-clause-asked
read_within-requires-in-65-to-255-clause-asked c =
    asked 255 c.in_ok-refuse_line_and_list.ensures c.token_count.ensures (omega arith)

pub read_within-requires-in-256-to-511-clause-asked : goal.read_within-requires-in-256-to-511-clause-asked
read_within-requires-in-256-to-511-clause-asked c =
    asked 511 c.in_ok-refuse_line_and_list.ensures c.token_count.ensures (omega arith)

pub read_within-requires-in_default-clause-asked : goal.read_within-requires-in_default-clause-asked
read_within-requires-in_default-clause-asked c =
    asked_most c.in_ok-refuse_line_and_list.ensures
