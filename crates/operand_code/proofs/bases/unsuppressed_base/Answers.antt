-- `operand_code::bases::unsuppressed_base` meets its contract.
-- Assumes nothing.
use mathlib.Core.Path.{sym, ◌∙◌}
use Rattle.operand_code.specs.Bases.{unsuppressed_base}
use Rattle.operand_code.proofs.lookahead.Names.{address_hit}
use Rattle.operand_code.proofs.bases.unsuppressed_base.Goals as goal

pub returns-in-Some : goal.returns-in-Some
unfolding unsuppressed_base
returns-in-Some c =
    let h = address_hit _ _ (sym c.address_register_at.ensures ∙ c.in-Some.is) in rw (h.passes, h.from)
