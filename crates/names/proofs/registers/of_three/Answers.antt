-- `names::registers::of_three` meets its contract.
-- Assumes nothing.
use Rattle.std.proofs.Common.{ne_eqb}
use Rattle.names.specs.Laws.{both_false, then_some_pick}
use Rattle.names.specs.Letters.{same}
use Rattle.names.specs.Registers.{named}
use Rattle.std.proofs.lemmas.List.{take_rest}
use Rattle.names.proofs.letters.Spelling.{spelled_letters}
use Rattle.names.proofs.registers.Specials.{special_letters}
use Rattle.names.proofs.registers.of_three.Goals.{in-99, in-117, in-115, in-100, in-118, in-109, in-105}
use Rattle.names.proofs.registers.of_three.Goals as goal

pub returns : goal.returns
unfolding named same
returns c =
    rw (c.then_some.ensures, then_some_pick, c.spells.ensures, take_rest, special_letters _ 3 c.requires, ← c.lower.ensures)
    (elim c.match-lower.branch [
      | in-99 w ↦ rw (w.register-is, spelled_letters _ _ 1 2 c.requires, w.in-99.is) (simp both_false)
      | in-117 w ↦ rw (w.register-is, spelled_letters _ _ 1 2 c.requires, w.in-117.is)
      | in-115 w ↦ rw (w.register-is, spelled_letters _ _ 1 2 c.requires, w.in-115.is) (simp both_false)
      | in-100 w ↦ rw (w.register-is, spelled_letters _ _ 1 2 c.requires, w.in-100.is)
      | in-118 w ↦ rw (w.register-is, spelled_letters _ _ 1 2 c.requires, w.in-118.is)
      | in-109 w ↦ rw (w.register-is, spelled_letters _ _ 1 2 c.requires, w.in-109.is)
      | in-105 w ↦ rw (w.register-is, spelled_letters _ _ 1 2 c.requires, w.in-105.is)
    ])

pub returns-in_default : goal.returns-in_default
unfolding named same
returns-in_default c =
    rw (special_letters _ 3 c.requires, ← c.lower.ensures)
    (simp (
      both_false,
      ne_eqb _ 99 c.in_default.in_default-own.rest.0.0.0.0.0.0.1,
      ne_eqb _ 117 c.in_default.in_default-own.rest.0.0.0.0.0.1,
      ne_eqb _ 115 c.in_default.in_default-own.rest.0.0.0.0.1,
      ne_eqb _ 100 c.in_default.in_default-own.rest.0.0.0.1,
      ne_eqb _ 118 c.in_default.in_default-own.rest.0.0.1,
      ne_eqb _ 109 c.in_default.in_default-own.rest.0.1,
      ne_eqb _ 105 c.in_default.in_default-own.rest.1,
    ))
