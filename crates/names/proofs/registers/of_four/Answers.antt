-- `names::registers::of_four` meets its contract.
-- Assumes nothing.
use Rattle.std.proofs.Common.{sym, ◌∙◌, ne_eqb}
use Rattle.names.specs.Laws.{both_false}
use Rattle.names.specs.Letters.{same}
use Rattle.names.specs.Registers.{named}
use Rattle.names.proofs.registers.Specials.{special_letters, special_third}
use Rattle.names.proofs.registers.of_four.Goals.{then-lower-ne99-via-then-lower-ne99, then-lower-ne99-via-else-lower-ne99+then-lower-ne97, then-lower-ne99-via-else-lower-ne99+else-lower-ne97+then-lower-ne114}
use Rattle.names.proofs.registers.of_four.Goals as goal

pub returns-then-lower-ne99 : goal.returns-then-lower-ne99
unfolding named same
returns-then-lower-ne99 c =
    rw (special_letters _ 4 c.requires, ← c.lower.ensures)
    (elim c.then-lower-ne99.branch [
      | then-lower-ne99-via-then-lower-ne99 w ↦ simp (both_false, ne_eqb _ 99 w.if-lower-ne99.true)
      | then-lower-ne99-via-else-lower-ne99+then-lower-ne97 w ↦ rw (← w.lower-else-lower-ne99.ensures) (simp (both_false, ne_eqb _ 97 w.if-lower-ne97.true))
      | then-lower-ne99-via-else-lower-ne99+else-lower-ne97+then-lower-ne114 w ↦ rw (← w.lower-else-lower-ne97.ensures) (simp (both_false, ne_eqb _ 114 w.if-lower-ne114.true))
    ])

pub returns-in-99 : goal.returns-in-99
unfolding named same
returns-in-99 c =
    rw (special_third _ c.requires (sym c.lower.ensures ∙ c.if-lower-ne99.false) (sym c.lower-else-lower-ne99.ensures ∙ c.if-lower-ne97.false) (sym c.lower-else-lower-ne97.ensures ∙ c.if-lower-ne114.false) (sym c.lower-2.ensures ∙ c.in-99.is))

pub returns-in-97 : goal.returns-in-97
unfolding named same
returns-in-97 c =
    rw (special_third _ c.requires (sym c.lower.ensures ∙ c.if-lower-ne99.false) (sym c.lower-else-lower-ne99.ensures ∙ c.if-lower-ne97.false) (sym c.lower-else-lower-ne97.ensures ∙ c.if-lower-ne114.false) (sym c.lower-2.ensures ∙ c.in-97.is))

pub returns-in_default : goal.returns-in_default
unfolding named same
returns-in_default c =
    rw (special_letters _ 4 c.requires, ← c.lower-2.ensures)
    (simp (both_false, ne_eqb _ 99 c.in_default.in_default-own.rest.0.1, ne_eqb _ 97 c.in_default.in_default-own.rest.1))
