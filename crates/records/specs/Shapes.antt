-- The shapes of operands that a malformed one is told by: the Rust's `OperandShape`, from 1 in the enum's order.
-- Assumes nothing.
use Rattle.std.specs.Prelude.{ℕ}
use Rattle.records.specs.declared.shapes.OperandShape.{OperandShape}

-- of a kind that has none
abbrev pub no_shape : ℕ
no_shape = 0

-- `#5`
abbrev pub immediate : ℕ
immediate = 1

-- `(a0)`
abbrev pub indirect : ℕ
indirect = 2

-- `(a0)+`
abbrev pub postincrement : ℕ
postincrement = 3

-- `-(a0)`
abbrev pub predecrement : ℕ
predecrement = 4

-- `4(a0)`
abbrev pub displacement : ℕ
displacement = 5

-- `4(a0,d1.w)`
abbrev pub index : ℕ
index = 6

-- `label(pc)`
abbrev pub pc_displacement : ℕ
pc_displacement = 7

-- `label(pc,d1.w)`
abbrev pub pc_index : ℕ
pc_index = 8

-- `([4,a0],d1.w*4,8)`
abbrev pub memory_indirect : ℕ
memory_indirect = 9

-- `$1000`
abbrev pub absolute : ℕ
absolute = 10

-- `d0-d3/a0-a2`
abbrev pub register_list : ℕ
register_list = 11

-- `(640-2)/2`
abbrev pub grouped_expression : ℕ
grouped_expression = 12

-- `d1:d2`
abbrev pub register_pair : ℕ
register_pair = 13

-- `d0{4:8}`
abbrev pub bit_field : ℕ
bit_field = 14

-- the number of each
abbrev pub number : OperandShape → ℕ
number OperandShape.Immediate = immediate
number OperandShape.Indirect = indirect
number OperandShape.Postincrement = postincrement
number OperandShape.Predecrement = predecrement
number OperandShape.Displacement = displacement
number OperandShape.Index = index
number OperandShape.PcDisplacement = pc_displacement
number OperandShape.PcIndex = pc_index
number OperandShape.MemoryIndirect = memory_indirect
number OperandShape.Absolute = absolute
number OperandShape.RegisterList = register_list
number OperandShape.GroupedExpression = grouped_expression
number OperandShape.RegisterPair = register_pair
number OperandShape.BitField = bit_field
