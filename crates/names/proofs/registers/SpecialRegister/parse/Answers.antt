-- `names::registers::SpecialRegister::parse` meets its contract.
-- Assumes nothing.
use Rattle.std.proofs.Common.{sym, arith}
use Rattle.names.proofs.Cases.{told_special}
use Rattle.names.proofs.registers.Specials.{special_other}
use Rattle.names.proofs.registers.SpecialRegister.parse.Goals as goal

pub returns-then-name-gt4 : goal.returns-then-name-gt4
returns-then-name-gt4 c =
    told_special (sym (special_other _ (omega (arith, c.if-name-gt4.true)) (omega (arith, c.if-name-gt4.true)) (omega (arith, c.if-name-gt4.true))))
