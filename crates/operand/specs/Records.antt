-- A reading's nodes and diagnostics as numbers, ten a record.
-- Assumes nothing.
use Rattle.std.specs.Prelude.{Bool, true, false, List, [], ◌∷◌, ◌++◌, ℕ, ◌+◌, length, Option, Some, None}
use Rattle.expressions.specs.Trees.{size}
use Rattle.records.specs.Diagnostics.{diagnostic_record}
use Rattle.records.specs.declared.diagnostics.Diagnostic.{Diagnostic}
use Rattle.records.specs.Nodes.{node_record}
use Rattle.expressions.specs.Records.{nodes}
use Rattle.operand.specs.Operands.{Displacement, displaced, undisplaced, RegisterListItem, single, range, Operand}
use Rattle.operand.specs.Operands as O

unfoldable pub flag : Bool → ℕ
flag true = 1
flag false = 0

-- ---- nodes

unfoldable pub item_record : RegisterListItem → List ℕ
item_record (single r) =
    node_record 7 0 r.index r.index r.span (r.span.start ∷ r.span.end ∷ r.span.start ∷ r.span.end ∷ [])
item_record (range r q s) =
    node_record 8 0 r.index q.index s (r.span.start ∷ r.span.end ∷ q.span.start ∷ q.span.end ∷ [])

unfoldable pub item_records : List RegisterListItem → List ℕ
item_records [] = []
item_records (x ∷ xs) = item_record x ++ item_records xs

unfoldable pub size_d : Displacement → ℕ
size_d (displaced e n) = size e
size_d undisplaced = 0

unfoldable pub nodes_d : ℕ → Displacement → List ℕ
nodes_d b (displaced e n) = nodes b e
nodes_d b undisplaced = []

-- how many nodes an operand has
unfoldable pub size_o : Operand → ℕ
size_o (O.immediate e l s) = size e
size_o (O.data_register_direct r s) = 0
size_o (O.address_register_direct r s) = 0
size_o (O.special_register n s) = 0
size_o (O.indirect r s) = 0
size_o (O.postincrement r s) = 0
size_o (O.predecrement r s) = 0
size_o (O.displacement e r s) = size e
size_o (O.index d r x s) = size_d d
size_o (O.pc_displacement e s) = size e
size_o (O.pc_index d x s) = size_d d
size_o (O.full_index d b x n e s) = size_d d + size_d e
size_o (O.absolute e n s) = size e
size_o (O.register_list items s) = length items

-- the base displacement's tree before the outer one's
unfoldable pub nodes_o : Operand → List ℕ
nodes_o (O.immediate e l s) = nodes 0 e
nodes_o (O.data_register_direct r s) = []
nodes_o (O.address_register_direct r s) = []
nodes_o (O.special_register n s) = []
nodes_o (O.indirect r s) = []
nodes_o (O.postincrement r s) = []
nodes_o (O.predecrement r s) = []
nodes_o (O.displacement e r s) = nodes 0 e
nodes_o (O.index d r x s) = nodes_d 0 d
nodes_o (O.pc_displacement e s) = nodes 0 e
nodes_o (O.pc_index d x s) = nodes_d 0 d
nodes_o (O.full_index d b x n e s) = nodes_d 0 d ++ nodes_d (size_d d) e
nodes_o (O.absolute e n s) = nodes 0 e
nodes_o (O.register_list items s) = item_records items

-- ---- the answer

unfoldable pub size_m : Option Operand → ℕ
size_m (Some x) = size_o x
size_m None = 0

unfoldable pub nodes_m : Option Operand → List ℕ
nodes_m (Some x) = nodes_o x
nodes_m None = []

unfoldable pub diagnostic_records : List Diagnostic → List ℕ
diagnostic_records [] = []
diagnostic_records (d ∷ ds) = diagnostic_record d ++ diagnostic_records ds
