-- `names::sizes::SizeSuffix::from_run` meets its contract.
-- Assumes nothing.
use Rattle.std.proofs.Common.{sym, arith, ne_eqb}
use Rattle.names.specs.Sizes.{letter_size}
use Rattle.names.proofs.Cases.{told_size}
use Rattle.names.proofs.registers.Pairs.{size_not, size_letter}
use Rattle.names.proofs.sizes.SizeSuffix.from_run.Goals as goal

pub returns-in_default : goal.returns-in_default
returns-in_default c =
    told_size (sym (size_not _ (λ e. omega arith)))

pub returns-in_default-2 : goal.returns-in_default-2
returns-in_default-2 c =
    told_size (sym (size_not _ (λ e. omega arith)))

pub returns-in-98 : goal.returns-in-98
unfolding letter_size
returns-in-98 c =
    told_size (rw (size_letter c.args.run.now (omega arith), ← c.lower.ensures, c.in-98.is))

pub returns-in-119 : goal.returns-in-119
unfolding letter_size
returns-in-119 c =
    told_size (rw (size_letter c.args.run.now (omega arith), ← c.lower.ensures, c.in-119.is))

pub returns-in-108 : goal.returns-in-108
unfolding letter_size
returns-in-108 c =
    told_size (rw (size_letter c.args.run.now (omega arith), ← c.lower.ensures, c.in-108.is))

pub returns-in-115 : goal.returns-in-115
unfolding letter_size
returns-in-115 c =
    told_size (rw (size_letter c.args.run.now (omega arith), ← c.lower.ensures, c.in-115.is))

pub returns-in_default-lower : goal.returns-in_default-lower
unfolding letter_size
returns-in_default-lower c =
    told_size (rw (size_letter c.args.run.now (omega arith), ← c.lower.ensures) (simp (ne_eqb _ 98 c.in_default-lower.in_default-lower-own.rest.0.0.0.1, ne_eqb _ 119 c.in_default-lower.in_default-lower-own.rest.0.0.1, ne_eqb _ 108 c.in_default-lower.in_default-lower-own.rest.0.1, ne_eqb _ 115 c.in_default-lower.in_default-lower-own.rest.1)))
