-- Operands as the Rust has them. What holds no expression is as the code declares it (forms.rt). A register is its mask index, 0 to 15.
-- Assumes nothing.
use Rattle.std.specs.Prelude.{Bool, List, ℕ, Option}
use Rattle.expressions.specs.Trees.{Expr}
use Rattle.records.specs.declared.spans.Span.{Span}
use Rattle.operand.specs.declared.forms.Register.{Register}
use Rattle.operand.specs.declared.forms.IndexRegister.{IndexRegister}
use Rattle.operand.specs.declared.forms.BaseRegister.{BaseRegister}

-- `Option<SizedDisplacement>`: with its size, 0 for none
pub data Displacement : Type 0 where
  displaced : Expr → ℕ → Displacement
  undisplaced : Displacement

pub data RegisterListItem : Type 0 where
  single : Register → RegisterListItem
  range : Register → Register → Span → RegisterListItem

-- `Operand`, the forms 1 to 14. Indirection: 0 none, 1 preindexed, 2 postindexed; special registers 1 to 10
pub data Operand : Type 0 where
  immediate : Expr → Bool → Span → Operand
  data_register_direct : Register → Span → Operand
  address_register_direct : Register → Span → Operand
  special_register : ℕ → Span → Operand
  indirect : Register → Span → Operand
  postincrement : Register → Span → Operand
  predecrement : Register → Span → Operand
  displacement : Expr → Register → Span → Operand
  index : Displacement → Register → IndexRegister → Span → Operand
  pc_displacement : Expr → Span → Operand
  pc_index : Displacement → IndexRegister → Span → Operand
  full_index : Displacement → BaseRegister → Option IndexRegister → ℕ → Displacement → Span → Operand
  absolute : Expr → ℕ → Span → Operand
  register_list : List RegisterListItem → Span → Operand
