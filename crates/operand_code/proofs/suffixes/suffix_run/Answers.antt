-- `operand_code::suffixes::suffix_run` meets its contract.
-- Assumes nothing.
use mathlib.Core.Path.{sym, ◌∙◌, ap}
use native.Mathlib.Omega.{arith}
use Rattle.names.specs.Sizes.{run_of, size_of}
use Rattle.expressions.specs.Paths.{told_one}
use Rattle.operand_code.proofs.indexes.Returns.{suffix_dotted, suffix_known, suffix_unknown}
use Rattle.operand_code.proofs.suffixes.suffix_run.Goals as goal

pub returns-then-run-ge2-clause-told : goal.returns-then-run-ge2-clause-told
returns-then-run-ge2-clause-told c =
    suffix_dotted _ _ _ _ _ _ _ (c.suffix_run-run.ensures ∙ ap run_of c.text_of.ensures) c.if-run-ge2.true c.from-span.ensures c.plain.ensures (told_one (omega (arith, c.requires)) c.raise.ensures.told c.raise.ensures.counted)

pub returns-in-Some-clause-told : goal.returns-in-Some-clause-told
returns-in-Some-clause-told c =
    suffix_known _ _ _ c.args.out.now.diagnostics.now _ _ _ (c.suffix_run-run.ensures ∙ ap run_of c.text_of.ensures) c.if-run-ge2.false c.from-span.ensures (sym (ap size_of (c.suffix_run-run.ensures ∙ ap run_of c.text_of.ensures)) ∙ sym c.from_run.ensures.size ∙ c.in-Some.is) (sym c.from.ensures)

pub returns-in-None-clause-told : goal.returns-in-None-clause-told
returns-in-None-clause-told c =
    suffix_unknown _ _ _ _ _ _ _ (c.suffix_run-run.ensures ∙ ap run_of c.text_of.ensures) c.if-run-ge2.false c.from-span.ensures (sym (ap size_of (c.suffix_run-run.ensures ∙ ap run_of c.text_of.ensures)) ∙ sym c.from_run.ensures.size ∙ c.in-None.is) c.run_span-text.ensures c.plain-in-None.ensures (told_one (omega (arith, c.requires)) c.raise-in-None.ensures.told c.raise-in-None.ensures.counted)
