-- The parts of an operand's record that may be absent, and what stands for them with the same bytes, in both layouts.
-- Assumes nothing.
use Rattle.std.specs.Prelude.{◌≡◌, Option, Some}
use Rattle.operand.specs.Records.{flag}
use Rattle.operand.specs.declared.layouts.Layout.{Layout}
use Rattle.operand.specs.Layout.{sized_part, base_part, index_part}
use Rattle.operand.specs.declared.forms.BaseRegister.{BaseRegister}
use Rattle.operand.specs.declared.forms.OperandRecord.{OperandRecord}
use Rattle.operand.specs.declared.forms.Register.{Register}
use Rattle.operand.specs.declared.forms.IndexRegister.{IndexRegister}
use Rattle.operand.specs.declared.forms.Sized.{Sized}
use Rattle.layout.specs.declared.record.Filled.{Filled}

abbrev pub SizedAs : Sized → Option Sized → Type 0
SizedAs r d = (w : Layout) → sized_part w (Some r) ≡ sized_part w d

abbrev pub BaseAs : Register → BaseRegister → Type 0
BaseAs r b = (w : Layout) → base_part w (BaseRegister.Address r) ≡ base_part w b

abbrev pub IndexAs : IndexRegister → Option IndexRegister → Type 0
IndexAs r x = (w : Layout) → index_part w (Some r) ≡ index_part w x

pub record FilledFrom (x : OperandRecord) (p : Filled) : Type 0 where
  pub displacement : SizedAs p.displacement x.displacement
  pub base : BaseAs p.base x.base
  pub index : IndexAs p.index x.index
  pub outer : SizedAs p.outer x.outer
  pub suppressed : p.suppressed ≡ flag p.index.suppressed
