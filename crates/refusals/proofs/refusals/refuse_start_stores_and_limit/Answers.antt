-- `refusals::refusals::refuse_start_stores_and_limit` meets its contract: each test fails up to the one whose refusal is returned.
-- Assumes nothing.
use mathlib.Core.Path.{sym, ◌∙◌, ap}
use mathlib.Core.Bool.{not}
use native.Mathlib.Omega.{arith}
use borrow.Author.Tests.{le-ltb}
use Rattle.operand.specs.Layouts.{node_store}
use Rattle.operand.specs.Entry.{highest_limit, start_stores_and_limit, first_of}
use Rattle.refusals.proofs.refusals.Checks.{outside}
use Rattle.refusals.proofs.refusals.refuse_start_stores_and_limit.Goals as goal

pub returns-then-not-contains : goal.returns-then-not-contains
unfolding first_of start_stores_and_limit highest_limit
returns-then-not-contains c =
    rw (le-ltb c.args.tokens c.args.start (omega (arith, c.if-tokens-start.false)), le-ltb c.args.nodes (node_store c.args.layout) (omega (arith, c.if-nodes-node_store.false, c.node_store.ensures)), sym c.crowded.ensures ∙ c.if-crowded.false, sym (outside 1 highest_limit _ _ _ _ c.new.ensures.start c.new.ensures.end c.new.ensures.exhausted) ∙ ap not (sym c.contains.ensures.value ∙ c.if-not-contains.true))

pub returns : goal.returns
unfolding first_of start_stores_and_limit highest_limit
returns c =
    rw (le-ltb c.args.tokens c.args.start (omega (arith, c.if-tokens-start.false)), le-ltb c.args.nodes (node_store c.args.layout) (omega (arith, c.if-nodes-node_store.false, c.node_store.ensures)), sym c.crowded.ensures ∙ c.if-crowded.false, sym (outside 1 highest_limit _ _ _ _ c.new.ensures.start c.new.ensures.end c.new.ensures.exhausted) ∙ ap not (sym c.contains.ensures.value ∙ c.if-not-contains.false))
