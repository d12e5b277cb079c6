-- `expressions_code::leaves::parse_leaf` meets its contract.
-- Assumes nothing.
use Rattle.expressions_code.proofs.leaves.Returns.{star_told, number_told, string_told, name_told, local_told, error_told, other_told}
use Rattle.expressions_code.proofs.leaves.parse_leaf.Goals as goal

pub returns-in-16-clause-told : goal.returns-in-16-clause-told
returns-in-16-clause-told c =
    star_told c.requires.1 c.step_over.ensures c.from-span.ensures c.in-16.is c.read_leaf.ensures

pub returns-in-2-clause-told : goal.returns-in-2-clause-told
returns-in-2-clause-told c =
    number_told c.requires.1 c.step_over.ensures c.in-2.is c.number_leaf.ensures.told

pub returns-in-3-clause-told : goal.returns-in-3-clause-told
returns-in-3-clause-told c =
    string_told c.requires.1 c.step_over.ensures c.from-span.ensures c.packed.ensures c.in-3.is c.read_leaf-in-3.ensures

pub returns-in-0-clause-told : goal.returns-in-0-clause-told
returns-in-0-clause-told c =
    name_told c.requires.1 c.step_over.ensures c.in-0.is c.name_leaf.ensures.told

pub returns-in-1-clause-told : goal.returns-in-1-clause-told
returns-in-1-clause-told c =
    local_told c.requires.1 c.step_over.ensures c.from-span.ensures c.in-1.is c.symbol_leaf.ensures

pub returns-in-29-clause-told : goal.returns-in-29-clause-told
returns-in-29-clause-told c =
    error_told c.requires.1 c.step_over.ensures c.in-29.is

pub returns-in_default-clause-told : goal.returns-in_default-clause-told
returns-in_default-clause-told c =
    rw (c.step_over.ensures.nodes, c.step_over.ensures.diagnostics) (other_told (search) (search) (search) (search) (search) (search))
