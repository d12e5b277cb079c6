-- `names::numbers::parse_number` meets its contract.
-- Assumes nothing.
use Rattle.std.proofs.Common.{◌∙◌, ap}
use Rattle.std.proofs.lemmas.Result.{err_from_is_err_and}
use Rattle.names.specs.Numbers.{digits_of}
use Rattle.names.proofs.Cases.{told_number}
use Rattle.names.proofs.numbers.Figures.{number_in, number_no}
use Rattle.names.proofs.numbers.parse_number.Goals as goal

pub returns-in_err-base : goal.returns-in_err-base
returns-in_err-base c =
    let p = err_from_is_err_and c.from_residual.result c.from_residual.ensures.1 in
    told_number (p.1 ∙ rw p.2 (number_no c.args.detail c.args.text.now c.in_err-base.ensures))

pub returns : goal.returns
returns c =
    told_number (c.parse_digits.ensures ∙ ap (digits_of _) c.digits.ensures ∙ number_in c.args.detail c.args.text.now c.in_ok-base.ensures)
