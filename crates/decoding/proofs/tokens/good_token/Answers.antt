-- `decoding::tokens::good_token` meets its contract.
-- Assumes nothing.
use mathlib.Core.Path.{◌≡◌, sym, ◌∙◌}
use Prim.Native.Nat.{◌≤◌}
use mathlib.Core.Bool.{true}
use native.Mathlib.Omega.{arith}
use borrow.Author.Tests.{le-leb}
use lib.ListN.{length}
use Rattle.names.specs.Tokens.{detail_defined}
use Rattle.names.specs.Places.{text_of}
use Rattle.operand.specs.Entry.{good_token}
use Rattle.decoding.proofs.tokens.good_token.Goals as goal

pub returns-then-last-token : goal.returns-then-last-token
unfolding good_token text_of
returns-then-last-token c =
    let h = c.in-Some.ensures.lookup in
    let a : c.args.token.start ≤ c.args.token.end = omega (arith, h, c.from.ensures, c.from-2.ensures) in
    let b : c.args.token.end ≤ length c.args.line.now = omega (arith, h, c.from.ensures, c.from-2.ensures) in
    let d : detail_defined c.args.token.kind c.args.token.detail ≡ true = sym c.detail_defined.ensures ∙ c.if-last-token.true.0 in
    rw (d, le-leb _ _ a, le-leb _ _ b, le-leb _ _ c.if-last-token.true.1, c.well_spelled.ensures, h.0.2, c.from.ensures, c.from-2.ensures)
