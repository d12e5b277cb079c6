-- What the functions tell, by what they are lent: the source, and how far the reading is.
-- Assumes nothing.
use Rattle.std.specs.Option.{unwrap_or}
use Rattle.std.specs.Prelude.{◌≡◌, List, ℕ, Option}
use Rattle.records.specs.declared.spans.Span.{Span}
use Rattle.records.specs.declared.diagnostics.Diagnostic.{Diagnostic}
use Rattle.records.specs.declared.counters.Counters.{Counters}
use Rattle.records.specs.declared.progress.Progress.{Progress}
use Rattle.expressions.specs.declared.source.Source.{Source}
use Rattle.expressions.specs.Reader.{Reader}
use Rattle.expressions.specs.Told.{Raised, RaisedOver, Told, Same}
use Rattle.expressions.specs.Expressions.{take_size_suffix}
use Rattle.names.specs.Places.{text_of}
use Rattle.names.specs.declared.tokens.Token.{Token}
use Rattle.records.specs.Spans.{empty}
use Rattle.operand.specs.Forms.{suffix_read}
use Rattle.operand.specs.declared.forms.Suffixed.{Suffixed}
use Rattle.expressions_code.specs.Terms.{Parsed}
use Rattle.expressions_code.specs.Reading.{ExpressionFits, FromFits}

abbrev pub RaisedBy : Progress → Progress → Diagnostic → Type 0
RaisedBy o o' x = Raised o.diagnostics.now o'.diagnostics.now o.counters x o'.counters

abbrev pub RaisedOverBy : Source → Progress → Progress → (ℕ → Diagnostic) → Type 0
RaisedOverBy a o o' x = RaisedOver a.tokens.now o.diagnostics.now o'.diagnostics.now o.counters x o'.counters

abbrev pub Tells : {A B : Type 0} → (A → B) → (A → Counters → Type 0) → Reader A → Source → Progress → Progress → B → Type 0
Tells f Q p a o o' v = Told f Q p a.line.now a.tokens.now o.diagnostics.now o'.diagnostics.now o.counters v o'.counters

-- the same, of what the code has as it is, where no node is written
abbrev pub ReadBy : {A : Type 0} → Reader A → Source → Progress → Progress → A → Type 0
ReadBy p a o o' v = Tells (λ z. z) (Same o.counters.nodes) p a o o' v

abbrev pub token_text : Source → Token → List ℕ
token_text a t = text_of a.line.now t.start t.end

abbrev pub ExpressionTells : Source → List ℕ → Progress → List ℕ → Progress → Parsed → Type 0
ExpressionTells a N o N' o' v = ExpressionFits a.line.now a.tokens.now N o.diagnostics.now N' o'.diagnostics.now o.counters a.setting.limit v o'.counters

abbrev pub FromTells : Source → List ℕ → Progress → List ℕ → Progress → Span → Span → Type 0
FromTells a N o N' o' group v = FromFits a.line.now a.tokens.now N o.diagnostics.now N' o'.diagnostics.now o.counters group a.setting.limit v o'.counters

-- a size behind what the span has: the suffix that stands there, or else none at its end
abbrev pub size_or_none : Span → Option Suffixed → Suffixed
size_or_none value m = unwrap_or m (record { size = 0; span = empty value.end })

pub record SizeTold (L T D D' : List ℕ) (c : Counters) (value : Span) (v : Suffixed) (r : Counters) : Type 0 where
  pub suffix : Option Suffixed
  pub told : Told suffix_read (Same c.nodes) (take_size_suffix value.start) L T D D' c suffix r
  pub is : v ≡ size_or_none value suffix

abbrev pub SizeBy : Source → Progress → Progress → Span → Suffixed → Type 0
SizeBy a o o' value v = SizeTold a.line.now a.tokens.now o.diagnostics.now o'.diagnostics.now o.counters value v o'.counters
