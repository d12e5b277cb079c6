-- `operand_code::lists::parse_register_list` meets its contract. The loop's invariant: the mask and the nodes are those of the items so far.
-- Assumes nothing.
use mathlib.Core.Path.{refl, ◌∙◌}
use native.Mathlib.Omega.{arith}
use Rattle.operand_code.proofs.lists.Ranges.{found_at}
use Rattle.operand_code.proofs.lists.Turns.{started, item_behind, ends_none, reached, ends, ends_expected, again}
use Rattle.operand_code.proofs.Next.{not_some}
use Rattle.operand_code.proofs.lists.parse_register_list.Goals as goal

pub loop-item-init : goal.loop-item-init
loop-item-init c =
    (started c.requires, refl)

pub returns-in_err-item-clause-told : goal.returns-in_err-item-clause-told
returns-in_err-item-clause-told c =
    rw c.from_residual.ensures (ends_none c.loop-item.invariant.0 c.list_item.ensures.told c.in_err-item.was)

pub range_bits-mask-requires : goal.range_bits-mask-requires
range_bits-mask-requires c =
    omega (arith, item_behind c.loop-item.r c.list_item.ensures.told c.in_ok-item.was)

pub put_item-requires : goal.put_item-requires
put_item-requires c =
    omega (arith, item_behind c.loop-item.r c.list_item.ensures.told c.in_ok-item.was, c.loop-item.invariant.0, c.requires)

pub expect_register-requires : goal.expect_register-requires
expect_register-requires c =
    let w = reached c.loop-item.invariant.0 c.list_item.ensures.told c.in_ok-item.was c.put_item.ensures c.range_bits-mask.ensures in
    omega (arith, w.room, c.next_of_kind.ensures)

pub returns-in_default-clause-told : goal.returns-in_default-clause-told
returns-in_default-clause-told c =
    let w = reached c.loop-item.invariant.0 c.list_item.ensures.told c.in_ok-item.was c.put_item.ensures c.range_bits-mask.ensures in
    ends_expected w c.next_of_kind.ensures c.if-is_none.ensures c.expect_register.ensures.told c.in_default.is

pub loop-item-smaller : goal.loop-item-smaller
loop-item-smaller c =
    omega (arith, item_behind c.loop-item.r c.list_item.ensures.told c.in_ok-item.was, c.put_item.ensures, c.next_of_kind.ensures, found_at c.expect_register.ensures.told c.in-Some.is)

pub loop-item-preserved : goal.loop-item-preserved
loop-item-preserved c =
    let w = reached c.loop-item.invariant.0 c.list_item.ensures.told c.in_ok-item.was c.put_item.ensures c.range_bits-mask.ensures in (
      again w c.next_of_kind.ensures c.if-is_none.ensures c.expect_register.ensures.told c.in-Some.is (omega (arith, c.put_item.auto, c.loop-item.invariant.0)),
      c.expect_register.ensures.lent ∙ c.list_item.ensures.lent ∙ c.loop-item.invariant.1,
    )

pub returns-clause-told : goal.returns-clause-told
returns-clause-told c =
    ends (reached c.loop-item.invariant.0 c.list_item.ensures.told c.in_ok-item.was c.put_item.ensures c.range_bits-mask.ensures) c.next_of_kind.ensures (not_some _ c.if-is_none.ensures) c.span_to.ensures c.listed.ensures
