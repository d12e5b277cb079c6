-- What the functions of memory indirect operands ask and tell, and the code's values (memory_inner.rt, memory_outer.rt) for those of the definition.
-- Assumes nothing.
use Rattle.std.specs.Prelude.{◌≡◌, List, [], ◌++◌, ℕ, ◌+◌, ◌*◌, take, Option, Some, None, option_map}
use Rattle.names.specs.declared.tokens.Token.{Token}
use Rattle.expressions.specs.declared.reading.Setting.{Setting}
use Rattle.records.specs.Spans.{span}
use Rattle.records.specs.declared.progress.Progress.{Progress}
use Rattle.expressions.specs.declared.source.Source.{Source}
use Rattle.records.specs.declared.counters.Counters.{Counters}
use Rattle.expressions.specs.Expressions.{take_size_suffix}
use Rattle.expressions.specs.Reader.{Reader, ◌>>=◌}
use Rattle.expressions.specs.Trees.{Expr}
use Rattle.operand.specs.FormNumbers
use Rattle.operand.specs.Operands.{Displacement, displaced}
use Rattle.operand.specs.Operand.{sized, Inner, Outer, close_indirect, after_inner}
use Rattle.operand.specs.Records.{size_d, nodes_d}
use Rattle.operand.specs.Forms.{sized_of, record_of}
use Rattle.expressions.specs.Told.{Told}
use Rattle.operand_code.specs.Operands.{Stored}
use Rattle.operand.specs.declared.forms.OperandRecord.{OperandRecord}
use Rattle.operand_code.specs.declared.memory_inner.InnerPart.{InnerPart}
use Rattle.operand_code.specs.declared.memory_outer.OuterPart.{OuterPart}
use Rattle.operand.specs.declared.forms.Sized.{Sized}
use Rattle.records.specs.declared.spans.Span.{Span}

-- ---- nodes

-- the records of a displacement stand from node n on, behind those of N
pub record StoredD (N N' : List ℕ) (n : ℕ) (y : Displacement) (c : Counters) : Type 0 where
  pub bytes : take (10 * c.nodes) N' ≡ take (10 * n) N ++ nodes_d n y
  pub total : c.nodes ≡ n + size_d y

-- the same of an answer, whose displacement is g
abbrev pub StoredPart : {A : Type 0} → (A → Displacement) → List ℕ → List ℕ → ℕ → Option A → Counters → Type 0
StoredPart g N N' n (Some x) c = StoredD N N' n (g x) c
StoredPart g N N' n None c = Unit {0}

-- ---- a displacement

-- behind the expression e, which begins at `start`
pub record SizedTold (value : Span) (L T D D' : List ℕ) (c : Counters) (v : Option (Option Sized)) (r : Counters) : Type 0 where
  pub told : (N N' : List ℕ) (n : ℕ) (e : Expr) → StoredD N N' n (displaced e 0) c
      → Told (option_map (sized_of n)) (StoredPart (λ y. y) N N' n) (take_size_suffix value.start >>= sized e) L T D D' c v r

pub record DisplacementTold (p : Reader (Option Displacement)) (L T N D N' D' : List ℕ) (c : Counters) (v : Option (Option Sized)) (r : Counters) : Type 0 where
  pub told : Told (option_map (sized_of c.nodes)) (StoredPart (λ y. y) N N' c.nodes) p L T D D' c v r

-- ---- what stands between the brackets

-- the tree begins at node b
unfoldable pub inner_of : ℕ → Inner → InnerPart
inner_of b x = record { displacement = sized_of b x.displacement; registers = x.registers }

abbrev pub inner_d : Inner → Displacement
inner_d x = x.displacement

-- a reader behind a displacement d, which writes no node
pub record InnerBehind (p : Displacement → Reader (Option Inner)) (L T D D' : List ℕ) (c : Counters) (d : Option Sized) (v : Option InnerPart) (r : Counters) : Type 0 where
  pub told : (N N' : List ℕ) (n : ℕ) (y : Displacement) → sized_of n y ≡ d → StoredD N N' n y c
      → Told (option_map (inner_of n)) (StoredPart inner_d N N' n) (p y) L T D D' c v r

pub record InnerTold (p : Reader (Option Inner)) (L T N D N' D' : List ℕ) (c : Counters) (v : Option InnerPart) (r : Counters) : Type 0 where
  pub told : Told (option_map (inner_of c.nodes)) (StoredPart inner_d N N' c.nodes) p L T D D' c v r

-- ---- what stands behind them

unfoldable pub outer_of : ℕ → Outer → OuterPart
outer_of b x = record { index = x.index; indirection = x.indirection; displacement = sized_of b x.displacement }

abbrev pub outer_d : Outer → Displacement
outer_d x = x.displacement

pub record OuterTold (p : Reader (Option Outer)) (L T N D N' D' : List ℕ) (c : Counters) (v : Option OuterPart) (r : Counters) : Type 0 where
  pub told : Told (option_map (outer_of c.nodes)) (StoredPart outer_d N N' c.nodes) p L T D D' c v r

-- ---- the operand

-- both displacements' trees, from node 0 on
pub record StoredBoth (N : List ℕ) (d e : Displacement) (c : Counters) : Type 0 where
  pub bytes : take (10 * c.nodes) N ≡ nodes_d 0 d ++ nodes_d (size_d d) e
  pub total : c.nodes ≡ size_d d + size_d e

-- the operand between two offsets, of what stands within the brackets and behind them
abbrev pub indirect_record : ℕ → ℕ → InnerPart → OuterPart → OperandRecord
indirect_record start end n u =
    record { form = FormNumbers.full_index; span = span start end; displacement = n.displacement; base = n.registers.base; index = u.index; indirection = u.indirection; outer = u.displacement; special = 0; mask = 0 }

pub record ClosedTold (s : Setting) (k : Token) (L T D D' : List ℕ) (c : Counters) (n : InnerPart) (u : OuterPart) (v : Option OperandRecord) (r : Counters) : Type 0 where
  pub told : (N : List ℕ) (x : Inner) (y : Outer) → inner_of 0 x ≡ n → outer_of (size_d x.displacement) y ≡ u → StoredBoth N x.displacement y.displacement c
      → Told (option_map record_of) (Stored N) (close_indirect s k x y) L T D D' c v r

-- behind the bracket that closes the inner part n
pub record BehindTold (s : Setting) (k : Token) (L T N D N' D' : List ℕ) (c : Counters) (n : InnerPart) (v : Option OperandRecord) (r : Counters) : Type 0 where
  pub told : (x : Inner) → inner_of 0 x ≡ n → StoredD [] N 0 x.displacement c
      → Told (option_map record_of) (Stored N') (after_inner s k x) L T D D' c v r

-- ---- the same by the source, and by how far the reading is

abbrev pub SizedBy : Span → Source → Progress → Progress → Option (Option Sized) → Type 0
SizedBy value a o o' v = SizedTold value a.line.now a.tokens.now o.diagnostics.now o'.diagnostics.now o.counters v o'.counters

abbrev pub DisplacementBy : Reader (Option Displacement) → Source → List ℕ → Progress → List ℕ → Progress → Option (Option Sized) → Type 0
DisplacementBy p a N o N' o' v = DisplacementTold p a.line.now a.tokens.now N o.diagnostics.now N' o'.diagnostics.now o.counters v o'.counters

abbrev pub InnerBehindBy : (Displacement → Reader (Option Inner)) → Source → Progress → Progress → Option Sized → Option InnerPart → Type 0
InnerBehindBy p a o o' d v = InnerBehind p a.line.now a.tokens.now o.diagnostics.now o'.diagnostics.now o.counters d v o'.counters

abbrev pub InnerBy : Reader (Option Inner) → Source → List ℕ → Progress → List ℕ → Progress → Option InnerPart → Type 0
InnerBy p a N o N' o' v = InnerTold p a.line.now a.tokens.now N o.diagnostics.now N' o'.diagnostics.now o.counters v o'.counters

abbrev pub OuterBy : Reader (Option Outer) → Source → List ℕ → Progress → List ℕ → Progress → Option OuterPart → Type 0
OuterBy p a N o N' o' v = OuterTold p a.line.now a.tokens.now N o.diagnostics.now N' o'.diagnostics.now o.counters v o'.counters

abbrev pub ClosedBy : Source → Token → Progress → Progress → InnerPart → OuterPart → Option OperandRecord → Type 0
ClosedBy a k o o' n u v = ClosedTold a.setting k a.line.now a.tokens.now o.diagnostics.now o'.diagnostics.now o.counters n u v o'.counters

abbrev pub BehindBy : Source → Token → List ℕ → Progress → List ℕ → Progress → InnerPart → Option OperandRecord → Type 0
BehindBy a k N o N' o' n v = BehindTold a.setting k a.line.now a.tokens.now N o.diagnostics.now N' o'.diagnostics.now o.counters n v o'.counters
