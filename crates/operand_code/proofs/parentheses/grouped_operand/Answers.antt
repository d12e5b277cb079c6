-- `operand_code::parentheses::grouped_operand` meets its contract.
-- Assumes nothing.
use mathlib.Core.Path.{sym, ap}
use native.Mathlib.Omega.{arith}
use Rattle.std.specs.Prelude.{option_map}
use Rattle.operand.specs.Operand.{displacement_tail, grouped_expression}
use Rattle.expressions.specs.Paths.{renamed, hit_next, miss_next}
use Rattle.operand_code.proofs.Holdings.{tree_stored, stands_size, stands_from}
use Rattle.operand_code.proofs.operands.Behind.{base_behind}
use Rattle.operand_code.proofs.parentheses.grouped_operand.Goals as goal

pub returns-in_default-clause-told : goal.returns-in_default-clause-told
unfolding displacement_tail
returns-in_default-clause-told c =
    let h = c.opening_at.ensures.next in
    record {
      told = λ e s w. miss_next h (ap (option_map _) c.in_default.is) (renamed (ap (λ l. grouped_expression c.args.source.now.setting c.args.paren l e) (ap (λ z. z.end) (h.stays (ap (option_map _) c.in_default.is))))
          (c.grouped_expression.ensures.told.told e (stands_from (sym h.nodes) s) w));
    }

pub returns-clause-told : goal.returns-clause-told
unfolding displacement_tail
returns-clause-told c =
    let h = c.opening_at.ensures.next in
    record { told = λ e s w. hit_next h (ap (option_map _) c.in-Some.is) (omega (arith, c.requires)) (tree_stored _ s (base_behind e (stands_size s) (c.opening_at.ensures.tree _ c.in-Some.is) h.nodes c.parse_base_and_index.ensures.told)) }
