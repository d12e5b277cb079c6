-- The code's values (forms.rt) for those of the definition: a tree is the number of its root's node.
-- Assumes nothing.
use Rattle.std.specs.Prelude.{ℕ, ◌+◌, ◌-◌, Option, Some, None}
use Rattle.expressions.specs.Trees.{size}
use Rattle.expressions.specs.Expressions.{Suffix, suffixed, bare}
use Rattle.records.specs.declared.spans.Span.{Span}
use Rattle.operand.specs.FormNumbers
use Rattle.operand.specs.Operands.{Displacement, displaced, undisplaced, Operand}
use Rattle.operand.specs.Operands as O
use Rattle.operand.specs.Records.{flag, size_d}
use Rattle.operand.specs.Mask.{mask}
use Rattle.operand.specs.declared.forms.IndexRegister.{IndexRegister}
use Rattle.operand.specs.declared.forms.BaseRegister.{BaseRegister}
use Rattle.operand.specs.declared.forms.OperandRecord.{OperandRecord}
use Rattle.operand.specs.declared.forms.Sized.{Sized}
use Rattle.operand.specs.declared.forms.Suffixed.{Suffixed}

-- a displacement whose tree begins at node b
unfoldable pub sized_of : ℕ → Displacement → Option Sized
sized_of b (displaced e n) = Some (record { node = b + size e - 1; size = n })
sized_of b undisplaced = None

-- ---- an operand

-- one without an indirection
abbrev pub form_of : ℕ → Span → Option Sized → BaseRegister → Option IndexRegister → OperandRecord
form_of form s d base x =
    record { form = form; span = s; displacement = d; base = base; index = x; indirection = 0; outer = None; special = 0; mask = 0 }

-- the displacement's tree begins at node 0, the outer one's behind it
unfoldable pub record_of : Operand → OperandRecord
record_of (O.immediate e l s) =
    record { form = FormNumbers.immediate; span = s; displacement = sized_of 0 (displaced e 0); base = BaseRegister.Omitted; index = None; indirection = 0; outer = None; special = flag l; mask = 0 }
record_of (O.data_register_direct r s) = form_of FormNumbers.data_register_direct s None (BaseRegister.Address r) None
record_of (O.address_register_direct r s) = form_of FormNumbers.address_register_direct s None (BaseRegister.Address r) None
record_of (O.special_register n s) =
    record { form = FormNumbers.special_register; span = s; displacement = None; base = BaseRegister.Omitted; index = None; indirection = 0; outer = None; special = n; mask = 0 }
record_of (O.indirect r s) = form_of FormNumbers.indirect s None (BaseRegister.Address r) None
record_of (O.postincrement r s) = form_of FormNumbers.postincrement s None (BaseRegister.Address r) None
record_of (O.predecrement r s) = form_of FormNumbers.predecrement s None (BaseRegister.Address r) None
record_of (O.displacement e r s) = form_of FormNumbers.displacement s (sized_of 0 (displaced e 0)) (BaseRegister.Address r) None
record_of (O.index d r x s) = form_of FormNumbers.index s (sized_of 0 d) (BaseRegister.Address r) (Some x)
record_of (O.pc_displacement e s) = form_of FormNumbers.pc_displacement s (sized_of 0 (displaced e 0)) BaseRegister.ProgramCounter None
record_of (O.pc_index d x s) = form_of FormNumbers.pc_index s (sized_of 0 d) BaseRegister.ProgramCounter (Some x)
record_of (O.full_index d b x n e s) =
    record { form = FormNumbers.full_index; span = s; displacement = sized_of 0 d; base = b; index = x; indirection = n; outer = sized_of (size_d d) e; special = 0; mask = 0 }
record_of (O.absolute e n s) = form_of FormNumbers.absolute s (sized_of 0 (displaced e n)) BaseRegister.Omitted None
record_of (O.register_list items s) =
    record { form = FormNumbers.register_list; span = s; displacement = Some (record { node = 0; size = 0 }); base = BaseRegister.Omitted; index = None; indirection = 0; outer = None; special = 0; mask = mask items }

-- without a list it is 0
abbrev pub mask_o : Operand → ℕ
mask_o x = (record_of x).mask

-- ---- what the functions answer

unfoldable pub suffix_read : Suffix → Option Suffixed
suffix_read (suffixed n s) = Some (record { size = n; span = s })
suffix_read bare = None
