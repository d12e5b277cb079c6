-- What the functions tell of displacements and operands, by the reading that the definition gives.
-- Assumes nothing.
use Rattle.std.specs.Prelude.{◌≡◌, List, ℕ, ◌*◌, take, Option, Some, None, option_map}
use Rattle.records.specs.declared.progress.Progress.{Progress}
use Rattle.expressions.specs.declared.source.Source.{Source}
use Rattle.records.specs.declared.counters.Counters.{Counters}
use Rattle.expressions.specs.Reader.{Reader}
use Rattle.expressions.specs.Told.{Told}
use Rattle.records.specs.Rooms.{NodeRoom}
use Rattle.operand.specs.Operands.{Displacement, displaced, undisplaced, Operand}
use Rattle.operand.specs.Records.{size_d, nodes_d, size_o, nodes_o}
use Rattle.operand.specs.Forms.{sized_of, form_of, record_of}
use Rattle.records.specs.declared.spans.Span.{Span}
use Rattle.operand.specs.declared.forms.IndexRegister.{IndexRegister}
use Rattle.operand.specs.declared.forms.BaseRegister.{BaseRegister}
use Rattle.operand.specs.declared.forms.OperandRecord.{OperandRecord}
use Rattle.operand.specs.declared.forms.Sized.{Sized}

-- ---- operands

-- the nodes of an operand are n records, of these numbers
unfoldable pub HeldBy : List ℕ → ℕ → Option Operand → Type 0
HeldBy b n (Some x) = (nodes_o x ≡ b) × (size_o x ≡ n)
HeldBy b n None = Unit {0}

-- the operand's nodes are those of its displacement, whose tree stands there
abbrev pub Kept : ℕ → Displacement → Option Operand → Counters → Type 0
Kept n y x r = (r.nodes ≡ n) × HeldBy (nodes_d 0 y) (size_d y) x

-- a reader behind a displacement d that begins at node 0
pub record TailTold (p : Displacement → Reader (Option Operand)) (L T D D' : List ℕ) (c : Counters) (d : Option Sized) (v : Option OperandRecord) (r : Counters) : Type 0 where
  pub told : (y : Displacement) → sized_of 0 y ≡ d → Told (option_map record_of) (Kept c.nodes y) (p y) L T D D' c v r

-- a base takes a displacement without a size
unfoldable pub Unsized : Displacement → Type 0
Unsized (displaced e n) = n ≡ 0
Unsized undisplaced = Unit {0}

pub record BaseTold (p : Displacement → Reader (Option Operand)) (L T D D' : List ℕ) (c : Counters) (d : Option Sized) (v : Option OperandRecord) (r : Counters) : Type 0 where
  pub told : (y : Displacement) → sized_of 0 y ≡ d → Unsized y → Told (option_map record_of) (Kept c.nodes y) (p y) L T D D' c v r

-- ---- an index behind a base

-- the operand that an index makes with a base, where it is not suppressed: of this form, with the displacement y
abbrev pub Plain : ℕ → Option Sized → BaseRegister → Displacement → (IndexRegister → Span → Operand) → Type 0
Plain form d base y plain = (x : IndexRegister) (z : Span) → (record_of (plain x z) ≡ form_of form z d base (Some x)) × (nodes_o (plain x z) ≡ nodes_d 0 y) × (size_o (plain x z) ≡ size_d y)

pub record IndexedTold (p : Displacement → (IndexRegister → Span → Operand) → Reader (Option Operand)) (L T D D' : List ℕ) (c : Counters) (form : ℕ) (d : Option Sized) (base : BaseRegister) (v : Option OperandRecord) (r : Counters) : Type 0 where
  pub told : (y : Displacement) → sized_of 0 y ≡ d → (plain : IndexRegister → Span → Operand) → Plain form d base y plain
      → Told (option_map record_of) (Kept c.nodes y) (p y plain) L T D D' c v r

-- ---- operands with nodes

-- the operand's nodes are the records that count
abbrev pub Stored : List ℕ → Option Operand → Counters → Type 0
Stored N' x r = HeldBy (take (10 * r.nodes) N') r.nodes x

-- a reader of an operand, from no node on. The records behind those that count are free, and without an operand how many count
pub record OperandTold (p : Reader (Option Operand)) (L T D N' D' : List ℕ) (c : Counters) (v : Option OperandRecord) (r : Counters) : Type 0 where
  pub told : Told (option_map record_of) (Stored N') p L T D D' c v r

-- ---- the same by the source, and by how far the reading is

-- room for the nodes of an operand, of which none stands yet
abbrev pub FirstRoom : Source → List ℕ → Progress → Type 0
FirstRoom a N o = NodeRoom a.tokens.now N o.counters 0 0 1 × (o.counters.nodes ≡ 0)

abbrev pub KeptBy : Displacement → Reader (Option Operand) → Source → Progress → Progress → Option OperandRecord → Type 0
KeptBy y p a o o' v = Told (option_map record_of) (Kept o.counters.nodes y) p a.line.now a.tokens.now o.diagnostics.now o'.diagnostics.now o.counters v o'.counters

abbrev pub TailBy : (Displacement → Reader (Option Operand)) → Source → Progress → Progress → Option Sized → Option OperandRecord → Type 0
TailBy p a o o' d v = TailTold p a.line.now a.tokens.now o.diagnostics.now o'.diagnostics.now o.counters d v o'.counters

abbrev pub BaseBy : (Displacement → Reader (Option Operand)) → Source → Progress → Progress → Option Sized → Option OperandRecord → Type 0
BaseBy p a o o' d v = BaseTold p a.line.now a.tokens.now o.diagnostics.now o'.diagnostics.now o.counters d v o'.counters

abbrev pub IndexedBy : (Displacement → (IndexRegister → Span → Operand) → Reader (Option Operand)) → Source → Progress → Progress → ℕ → Option Sized → BaseRegister → Option OperandRecord → Type 0
IndexedBy p a o o' form d base v = IndexedTold p a.line.now a.tokens.now o.diagnostics.now o'.diagnostics.now o.counters form d base v o'.counters

abbrev pub OperandBy : Reader (Option Operand) → Source → Progress → List ℕ → Progress → Option OperandRecord → Type 0
OperandBy p a o N' o' v = OperandTold p a.line.now a.tokens.now o.diagnostics.now N' o'.diagnostics.now o.counters v o'.counters
