-- take_size_suffix.
-- Assumes nothing.
use Rattle.std.specs.Prelude.{Option, Some, None, List, ℕ, leb, length}
use Rattle.names.specs.Kinds
use Rattle.names.specs.Sizes.{run_of, size_of}
use Rattle.names.specs.Cases.{size_number}
use Rattle.names.specs.declared.tokens.Token.{Token}
use Rattle.names.specs.declared.sizes.SizeSuffix.{SizeSuffix}
use Rattle.records.specs.Spans.{span_of}
use Rattle.records.specs.declared.spans.Span.{Span}
use Rattle.records.specs.Diagnostics.{unknown_size_suffix, dot_in_name}
use Rattle.expressions.specs.Reader.{is, Reader, answer, raise, bump, choose}

-- `ParsedSizeSuffix`: the size, 1 to 4, or 0 for one that is not known, and the suffix; or no suffix
pub data Suffix : Type 0 where
  suffixed : ℕ → Span → Suffix
  bare : Suffix

unfoldable pub known : Token → Option SizeSuffix → Reader Suffix
known k (Some size) = answer (suffixed (size_number (Some size)) (span_of k))
known k None = raise (unknown_size_suffix (span_of k)) (answer (suffixed (size_number None) (span_of k)))

-- a run of two letters or more is a dot inside a name, which began at `from`
unfoldable pub suffix_run : ℕ → Token → List ℕ → Reader Suffix
suffix_run from k run = choose (leb 2 (length run)) (raise (dot_in_name (span_of k) from) (answer (suffixed 0 (span_of k)))) (known k (size_of run))

-- `[ size_suffix ]`: a run of one letter is a size
unfoldable pub take_size_suffix : ℕ → Reader Suffix
take_size_suffix from = bump (is Kinds.size_suffix) (λ k x. suffix_run from k (run_of x)) λ u. answer bare
