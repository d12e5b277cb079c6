-- `entry::call::read_operand` meets its contract.
-- Assumes nothing.
use mathlib.Core.Path.{◌≡◌, sym}
use mathlib.Core.List.{List}
use Prim.Native.Nat.{ℕ}
use native.Mathlib.Omega.{arith}
use borrow.Author.Rules.{rules}
use lib.Seq.{length-take-le}
use Rattle.std.specs.Prelude.{Err}
use Rattle.operand.specs.Entry.{Input, call}
use Rattle.entry.specs.declared.call.Given.{Given}
use Rattle.entry.proofs.call.Refusals.{list_fits, token_refused, store_refused}
use Rattle.entry.proofs.call.Outcomes.{limit_few, never_unfit, is_read}
use Rattle.entry.proofs.call.read_operand.Goals as goal

abbrev input : Given → List ℕ → List ℕ → List ℕ → List ℕ → Input
input g L T N D = call g.layout L T g.start g.mark g.limit N D g.used

pub returns-in_err-decode_tokens : goal.returns-in_err-decode_tokens
returns-in_err-decode_tokens c =
    let e : c.from_residual.result ≡ Err c.in_err-decode_tokens.field-0.0 = search rules in
    rw e (token_refused _ c.requires.passed _ _ c.requires.tokens c.in_err-decode_tokens.ensures)

pub returns-in_err-refuse_start_stores_and_limit : goal.returns-in_err-refuse_start_stores_and_limit
returns-in_err-refuse_start_stores_and_limit c =
    let e : c.from_residual-in_err-refuse_start_stores_and_limit.result ≡ Err c.in_err-refuse_start_stores_and_limit.field-0.0 = search rules in
    rw e (store_refused _ c.requires.passed _ _ c.requires.tokens c.in_ok-decode_tokens.ensures _ c.token_count-count.ensures c.in_err-refuse_start_stores_and_limit.ensures)

pub slice_bounds-numbers-end : goal.slice_bounds-numbers-end
slice_bounds-numbers-end c =
    omega (arith, list_fits c.requires c.token_count-count.ensures, c.decode_tokens.auto)

pub slice_bounds-numbers-end-2 : goal.slice_bounds-numbers-end-2
slice_bounds-numbers-end-2 c =
    sym (length-take-le _ _ (omega (arith, list_fits c.requires c.token_count-count.ensures, c.decode_tokens.auto)))

pub overflow_cast-depth : goal.overflow_cast-depth
overflow_cast-depth c =
    omega (arith, limit_few (input c.args.given c.args.line.now c.args.tokens.now c.args.nodes.now c.args.diagnostics.now) _ _ _ _ c.requires c.in_ok-decode_tokens.ensures c.token_count-count.ensures c.in_ok-refuse_start_stores_and_limit.ensures)

pub returns : goal.returns
returns c =
    is_read _ _ _ _ _ c.requires c.in_ok-decode_tokens.ensures c.token_count-count.ensures c.in_ok-refuse_start_stores_and_limit.ensures _ c.operand_at-read.ensures _ (grind arith) _ _ _ c.answered.ensures

pub returns-in_err-r : goal.returns-in_err-r
returns-in_err-r c =
    absurd (never_unfit (input c.args.given c.args.line.now c.args.tokens.now c.args.nodes.now c.args.diagnostics.now) _ _ _ _ c.requires c.in_ok-decode_tokens.ensures c.token_count-count.ensures c.in_ok-refuse_start_stores_and_limit.ensures _ c.operand_at-read.ensures (grind arith))
