-- What of an operand lies within m: every offset that it has. And a suppressed address register is one of eight.
-- Assumes nothing.
use Rattle.std.specs.Prelude.{List, [], ◌∷◌, ℕ, ◌≤◌, Option, Some, None}
use Rattle.expressions.proofs.Offsets.{SpanIn, TreeIn}
use Rattle.operand.specs.Operands.{Displacement, displaced, undisplaced, RegisterListItem, single, range, Operand}
use Rattle.operand.specs.Operands as O
use Rattle.operand.specs.declared.forms.Register.{Register}
use Rattle.operand.specs.declared.forms.IndexRegister.{IndexRegister}
use Rattle.operand.specs.declared.forms.BaseRegister.{BaseRegister}
use Rattle.operand.specs.declared.forms.Registers.{Registers}

abbrev pub RegisterIn : ℕ → Register → Type 0
RegisterIn m r = SpanIn m r.span

abbrev pub IndexRegisterIn : ℕ → IndexRegister → Type 0
IndexRegisterIn m x = RegisterIn m x.register × SpanIn m x.span

abbrev pub BaseIn : ℕ → BaseRegister → Type 0
BaseIn m (BaseRegister.Address r) = RegisterIn m r
BaseIn m BaseRegister.ProgramCounter = Unit {0}
BaseIn m (BaseRegister.SuppressedAddress n) = n ≤ 7
BaseIn m BaseRegister.SuppressedProgramCounter = Unit {0}
BaseIn m BaseRegister.Omitted = Unit {0}

abbrev pub IndexIn : ℕ → Option IndexRegister → Type 0
IndexIn m (Some x) = IndexRegisterIn m x
IndexIn m None = Unit {0}

abbrev pub RegistersIn : ℕ → Registers → Type 0
RegistersIn m r = BaseIn m r.base × IndexIn m r.index

abbrev pub DisplacementIn : ℕ → Displacement → Type 0
DisplacementIn m (displaced e n) = TreeIn m e
DisplacementIn m undisplaced = Unit {0}

abbrev pub ItemIn : ℕ → RegisterListItem → Type 0
ItemIn m (single r) = RegisterIn m r
ItemIn m (range r q s) = RegisterIn m r × RegisterIn m q × SpanIn m s

abbrev pub ItemsIn : ℕ → List RegisterListItem → Type 0
ItemsIn m [] = Unit {0}
ItemsIn m (x ∷ xs) = ItemIn m x × ItemsIn m xs

abbrev pub OperandIn : ℕ → Operand → Type 0
OperandIn m (O.immediate e b s) = TreeIn m e × SpanIn m s
OperandIn m (O.data_register_direct r s) = RegisterIn m r × SpanIn m s
OperandIn m (O.address_register_direct r s) = RegisterIn m r × SpanIn m s
OperandIn m (O.special_register n s) = SpanIn m s
OperandIn m (O.indirect r s) = RegisterIn m r × SpanIn m s
OperandIn m (O.postincrement r s) = RegisterIn m r × SpanIn m s
OperandIn m (O.predecrement r s) = RegisterIn m r × SpanIn m s
OperandIn m (O.displacement e r s) = TreeIn m e × RegisterIn m r × SpanIn m s
OperandIn m (O.index d r x s) = DisplacementIn m d × RegisterIn m r × IndexRegisterIn m x × SpanIn m s
OperandIn m (O.pc_displacement e s) = TreeIn m e × SpanIn m s
OperandIn m (O.pc_index d x s) = DisplacementIn m d × IndexRegisterIn m x × SpanIn m s
OperandIn m (O.full_index d b x n u s) = DisplacementIn m d × BaseIn m b × IndexIn m x × DisplacementIn m u × SpanIn m s
OperandIn m (O.absolute e n s) = TreeIn m e × SpanIn m s
OperandIn m (O.register_list xs s) = ItemsIn m xs × SpanIn m s

-- of an answer, if there is one
abbrev pub MaybeIn : {A : Type 0} → (A → Type 0) → Option A → Type 0
MaybeIn P (Some x) = P x
MaybeIn P None = Unit {0}
