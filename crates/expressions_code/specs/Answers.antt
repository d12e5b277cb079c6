-- What an answer says of the definition's term.
-- Assumes nothing.
use Rattle.std.specs.Prelude.{Result, Ok, Err}
use Rattle.std.specs.Prelude.{◌≡◌, refl, ℕ}
use Rattle.std.proofs.Common.{arith}
use Rattle.records.specs.declared.spans.Span.{Span}
use Rattle.expressions.specs.Trees.{Expr, span_e}
use Rattle.expressions.specs.Expressions.{Term, read, reported, absent}
use Rattle.expressions_code.specs.declared.terms.TermError.TheVariants as errors
use Rattle.expressions_code.specs.Terms.{parsed_of}

-- no answer is both
pub apart : {A E : Type 0} {v : Result A E} {a : A} {e : E} → v ≡ Ok a → v ≡ Err e → ⊥
apart h k = let z : ◌≡◌ {A = ℕ} 0 1 = cc in absurd (omega arith)

pub what_read : (v : Term) (x : Span) → parsed_of v ≡ Ok x → (e : Expr) × (v ≡ read e) × (x ≡ span_e e)
unfolding parsed_of
what_read (read e) x h = (e, refl, cc)
what_read reported x h = absurd (apart h refl)
what_read absent x h = absurd (apart h refl)

pub what_reported : (v : Term) → parsed_of v ≡ Err errors.Reported → v ≡ reported
unfolding parsed_of
what_reported (read e) h = absurd (apart refl h)
what_reported reported h = refl
what_reported absent h = let z : ◌≡◌ {A = ℕ} 0 1 = cc in absurd (omega arith)

pub what_absent : (v : Term) → parsed_of v ≡ Err errors.Absent → v ≡ absent
unfolding parsed_of
what_absent (read e) h = absurd (apart refl h)
what_absent reported h = let z : ◌≡◌ {A = ℕ} 0 1 = cc in absurd (omega arith)
what_absent absent h = refl
