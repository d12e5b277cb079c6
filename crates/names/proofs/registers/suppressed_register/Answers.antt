-- `names::registers::suppressed_register` meets its contract.
-- Assumes nothing.
use Rattle.std.proofs.Common.{◌≡◌, sym, ◌∙◌, true, false, eqb, get_or, arith}
use Rattle.std.proofs.lemmas.Grind.{common_steps}
use Rattle.names.specs.Letters.{lower}
use Rattle.names.specs.Registers.{suppressing}
use Rattle.names.proofs.Cases.{told_suppressed}
use Rattle.names.proofs.letters.Spelling.{lower_std}
use Rattle.names.proofs.registers.Pairs.{suppressed_none, suppressed_some}
use Rattle.names.proofs.registers.suppressed_register.Goals as goal

pub returns-in_default : goal.returns-in_default
returns-in_default c =
    told_suppressed (sym (suppressed_none _ (omega (arith, c.in_default.len_below))))

pub returns-then-not-eq_ignore_ascii_case : goal.returns-then-not-eq_ignore_ascii_case
returns-then-not-eq_ignore_ascii_case c =
    let z : eqb (lower (get_or c.args.name.now 0 0)) 122 ≡ false = grind (arith, common_steps, lower_std) in
    told_suppressed (rw (suppressed_some _ c.in-len1-up.len_at_least, z))

pub returns-then-is_program_counter : goal.returns-then-is_program_counter
returns-then-is_program_counter c =
    let z : eqb (lower (get_or c.args.name.now 0 0)) 122 ≡ true = grind (arith, common_steps, lower_std) in
    told_suppressed (rw (suppressed_some _ c.in-len1-up.len_at_least, z, ← c.if-is_program_counter.ensures))

pub returns : goal.returns
unfolding suppressing
returns c =
    let z : eqb (lower (get_or c.args.name.now 0 0)) 122 ≡ true = grind (arith, common_steps, lower_std) in
    let m : c.map.result ≡ suppressing c.parse_register.result = grind (arith, common_steps) in
    told_suppressed (m ∙ rw (suppressed_some _ c.in-len1-up.len_at_least, z, ← c.if-is_program_counter.ensures, ← c.parse_register.ensures.register))
