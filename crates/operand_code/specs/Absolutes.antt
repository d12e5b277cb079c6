-- What the functions of the operand forms tell: behind a register, and behind an expression whose tree stands in the records.
-- Assumes nothing.
use Rattle.std.specs.Prelude.{◌≡◌, List, [], ℕ, ◌-◌, Option, Some, None, Ok, Err, option_map}
use Rattle.names.specs.Kinds
use Rattle.names.specs.Tokens.{token_at}
use Rattle.names.specs.declared.tokens.Token.{Token}
use Rattle.expressions.specs.Reader.{Reader}
use Rattle.records.specs.Spans.{span}
use Rattle.expressions.specs.Trees.{Expr, span_e, size}
use Rattle.expressions_code.specs.Left.{Stands}
use Rattle.records.specs.declared.spans.Span.{Span}
use Rattle.records.specs.declared.progress.Progress.{Progress}
use Rattle.expressions.specs.declared.source.Source.{Source}
use Rattle.records.specs.declared.counters.Counters.{Counters}
use Rattle.operand.specs.FormNumbers
use Rattle.operand.specs.Operands.{Displacement, displaced, Operand}
use Rattle.operand.specs.Forms.{form_of, record_of}
use Rattle.expressions.specs.Told.{NextTold, Raised, Told}
use Rattle.records.specs.declared.diagnostics.Diagnostic.{Diagnostic}
use Rattle.expressions_code.specs.declared.terms.TermError.TheVariants as errors
use Rattle.expressions_code.specs.Reading.{ExpressionFits}
use Rattle.operand_code.specs.declared.bases.Opening.{Opening}
use Rattle.operand_code.specs.Operands.{Kept, Stored}
use Rattle.operand.specs.declared.forms.BaseRegister.{BaseRegister}
use Rattle.operand.specs.declared.forms.OperandRecord.{OperandRecord}
use Rattle.operand.specs.declared.forms.Sized.{Sized}

-- ---- answers with the tree that the last records hold

abbrev pub last_tree : Counters → ℕ → Option Sized
last_tree c n = Some (record { node = c.nodes - 1; size = n })

abbrev pub immediate_record : Counters → ℕ → ℕ → ℕ → OperandRecord
immediate_record c s l long =
    record { form = FormNumbers.immediate; span = span s l; displacement = last_tree c 0; base = BaseRegister.Omitted; index = None; indirection = 0; outer = None; special = long; mask = 0 }

abbrev pub absolute_record : Counters → ℕ → ℕ → ℕ → OperandRecord
absolute_record c s l n = form_of FormNumbers.absolute (span s l) (last_tree c n) BaseRegister.Omitted None

-- ---- readers that write no node

-- a reader that fails, whatever displacement stands there
pub record FailTold (p : Reader (Option Operand)) (T D D' : List ℕ) (c : Counters) (v : Option OperandRecord) (r : Counters) : Type 0 where
  pub told : (L : List ℕ) (y : Displacement) → Told (option_map record_of) (Kept c.nodes y) p L T D D' c v r

-- a size stands at the place i
pub record SizeAt (T : List ℕ) (i : ℕ) (token : Token) : Type 0 where
  pub stands : token_at T i ≡ Some token
  pub kind : token.kind ≡ Kinds.size_suffix

-- the tree e of all records, whose span the code has
pub record TreeTold (p : Expr → Reader (Option Operand)) (L T D D' : List ℕ) (c : Counters) (value : Span) (v : Option OperandRecord) (r : Counters) : Type 0 where
  pub told : (e : Expr) → c.nodes ≡ size e → value ≡ span_e e → Told (option_map record_of) (Kept c.nodes (displaced e 0)) (p e) L T D D' c v r

-- ---- and readers that may write more of them

-- behind the tree e that stands in the records N, of which W holds
pub record StandTold (W : Expr → Type 0) (p : Expr → Reader (Option Operand)) (L T N D N' D' : List ℕ) (c : Counters) (v : Option OperandRecord) (r : Counters) : Type 0 where
  pub told : (e : Expr) → Stands N c.nodes [] 0 e → W e → Told (option_map record_of) (Stored N') (p e) L T D D' c v r

-- an expression; where it has told nothing and there is none, x is told
pub data OrTold (limit : ℕ) (x : Diagnostic) (L T N D N' D' : List ℕ) (c : Counters) (v : Option Span) (r : Counters) : Type 0 where
  there : (s : Span) → v ≡ Some s → ExpressionFits L T N D N' D' c limit (Ok s) r → OrTold limit x L T N D N' D' c v r
  failed : v ≡ None → ExpressionFits L T N D N' D' c limit (Err errors.Reported) r → OrTold limit x L T N D N' D' c v r
  missed : {D₁ : List ℕ} {m : Counters} → v ≡ None → ExpressionFits L T N D N' D₁ c limit (Err errors.Absent) m → Raised D₁ D' m x r → OrTold limit x L T N D N' D' c v r

-- ---- a parenthesis behind an expression

-- the tree of the last records is its displacement
pub record OpeningTold (T : List ℕ) (c : Counters) (v : Option Opening) (r : Counters) : Type 0 where
  pub next : NextTold T Kinds.left_paren c (option_map (λ o. o.paren) v) r
  pub tree : (o : Opening) → v ≡ Some o → o.displacement ≡ last_tree r 0

-- ---- the same by the source, and by how far the reading is

abbrev pub OrBy : Diagnostic → Source → List ℕ → Progress → List ℕ → Progress → Option Span → Type 0
OrBy x a N o N' o' v = OrTold a.setting.limit x a.line.now a.tokens.now N o.diagnostics.now N' o'.diagnostics.now o.counters v o'.counters

abbrev pub FailBy : Reader (Option Operand) → Source → Progress → Progress → Option OperandRecord → Type 0
FailBy p a o o' v = FailTold p a.tokens.now o.diagnostics.now o'.diagnostics.now o.counters v o'.counters

abbrev pub TreeBy : (Expr → Reader (Option Operand)) → Source → Progress → Progress → Span → Option OperandRecord → Type 0
TreeBy p a o o' value v = TreeTold p a.line.now a.tokens.now o.diagnostics.now o'.diagnostics.now o.counters value v o'.counters

abbrev pub StandBy : (Expr → Type 0) → (Expr → Reader (Option Operand)) → Source → List ℕ → Progress → List ℕ → Progress → Option OperandRecord → Type 0
StandBy W p a N o N' o' v = StandTold W p a.line.now a.tokens.now N o.diagnostics.now N' o'.diagnostics.now o.counters v o'.counters
