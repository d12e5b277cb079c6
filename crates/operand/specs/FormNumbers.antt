-- The forms of operands: the Rust's `Operand`, from 1 in the enum's order.
-- Assumes nothing.
use Rattle.std.specs.Prelude.{ℕ}
use Rattle.operand.specs.declared.form_numbers.Form.{Form}

abbrev pub immediate : ℕ
immediate = 1

abbrev pub data_register_direct : ℕ
data_register_direct = 2

abbrev pub address_register_direct : ℕ
address_register_direct = 3

abbrev pub special_register : ℕ
special_register = 4

abbrev pub indirect : ℕ
indirect = 5

abbrev pub postincrement : ℕ
postincrement = 6

abbrev pub predecrement : ℕ
predecrement = 7

abbrev pub displacement : ℕ
displacement = 8

abbrev pub index : ℕ
index = 9

abbrev pub pc_displacement : ℕ
pc_displacement = 10

abbrev pub pc_index : ℕ
pc_index = 11

abbrev pub full_index : ℕ
full_index = 12

abbrev pub absolute : ℕ
absolute = 13

abbrev pub register_list : ℕ
register_list = 14

-- the number of each
abbrev pub number : Form → ℕ
number Form.Immediate = immediate
number Form.DataRegisterDirect = data_register_direct
number Form.AddressRegisterDirect = address_register_direct
number Form.SpecialRegister = special_register
number Form.Indirect = indirect
number Form.Postincrement = postincrement
number Form.Predecrement = predecrement
number Form.Displacement = displacement
number Form.Index = index
number Form.PcDisplacement = pc_displacement
number Form.PcIndex = pc_index
number Form.FullIndex = full_index
number Form.Absolute = absolute
number Form.RegisterList = register_list
