-- Spans, as the Rust has them.
-- Assumes nothing.
use Rattle.std.specs.Prelude.{◌≡◌, ℕ, Option, Some, None}
use Rattle.std.proofs.Common.{ap₂}
use Rattle.names.specs.declared.tokens.Token.{Token}
use Rattle.records.specs.declared.spans.Span.{Span}

abbrev pub span : ℕ → ℕ → Span
span s e = record { start = s; end = e }

-- the empty span at an offset
abbrev pub empty : ℕ → Span
empty s = span s s

-- where a record has no span
abbrev pub no_span : Span
no_span = span 0 0

abbrev pub span_of : Token → Span
span_of t = span t.start t.end

-- the default span, by what is known of its fields
pub blank : {s : Span} → (s.start ≡ 0) × (s.end ≡ 0) → s ≡ no_span
blank h = ap₂ span h.0 h.1

-- of a token, or the empty one at an offset
unfoldable pub span_or : Option Token → ℕ → Span
span_or (Some t) l = span_of t
span_or None l = empty l
