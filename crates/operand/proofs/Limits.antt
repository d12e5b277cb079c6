-- The nesting limit, of which document 02 says: "A reading that raises no NestingTooDeep at one limit has the same answer at every higher one."
-- Assumes nothing.
use Rattle.std.specs.Prelude.{◌≡◌, refl, false, List, [], ◌∷◌, ◌++◌, ℕ, suc, ◌+◌, ◌*◌, ◌≤◌, ltb, length, take, drop, get_or}
use Rattle.std.proofs.Common.{sym, ◌∙◌, ap, ap₂, add_comm, mul-suc, arith, le-ltb}
use Rattle.std.proofs.Math.Seq.{drop-append-add}
use Rattle.names.specs.Choice.{either}
use Rattle.names.specs.Places.{Place}
use Rattle.records.specs.declared.diagnostics.Diagnostic.{Diagnostic}
use Rattle.expressions.specs.Laws.{Every}
use Rattle.expressions.specs.Limits.{NotTooDeep}
use Rattle.expressions.proofs.Limits.{expression_higher, expression_from_higher}
use Rattle.operand.specs.Operand.{reading_of}
use Rattle.operand.specs.declared.layouts.Layout.{Layout}
use Rattle.operand.specs.Layouts.{diagnostic_size}
use Rattle.operand.specs.Layout.{low, diagnostic_laid, diagnostics_laid}
use Rattle.operand.specs.Lengths.{length_diagnostic_laid}
use Rattle.operand.specs.Entry.{Input, place_of, highest_limit, start_stores_and_limit, refusals, refusal, reading_at, outcome}
use Rattle.operand.specs.Conditions.{record_at}
use Rattle.operand.proofs.Settings.{reading_alike, outcome_alike}
use Rattle.operand.specs.Limits.{limited, Higher, NoneTooDeep}

-- tree, cursor, end and diagnostics are the same, whatever stands at the places
pub reading_higher : (at : ℕ → Place) (limit higher mark i : ℕ) → limit ≤ higher → Every NotTooDeep (reading_of limit mark at i).raised
    → reading_of limit mark at i ≡ reading_of higher mark at i
unfolding reading_of
reading_higher at limit higher mark i le calm =
    (reading_alike NotTooDeep at limit higher mark mark (λ j k x h. refl) (expression_higher at le) (expression_from_higher at le) i).same calm

lawful : (m : ℕ) → 1 ≤ m → m ≤ highest_limit → either (ltb m 1) (ltb highest_limit m) ≡ false
lawful m one most = ap₂ either (le-ltb m 1 one) (le-ltb highest_limit m most)

-- both calls are refused alike
pub refusal_limited : (a : Input) (n : ℕ) → Higher a n → refusal a ≡ refusal (limited a n)
unfolding refusal refusals start_stores_and_limit
refusal_limited a n h = rw (lawful a.limit h.lowest (omega (arith, h.higher, h.highest)), lawful n (omega (arith, h.lowest, h.higher)) h.highest)

pub reading_limited : (a : Input) (n : ℕ) → Higher a n → Every NotTooDeep (reading_at a).raised → reading_at a ≡ reading_at (limited a n)
reading_limited a n h calm = reading_higher (place_of a) a.limit n a.mark a.start h.higher calm

-- the answer and every byte of both stores are the same
pub higher_limit : (a : Input) (n : ℕ) → Higher a n → Every NotTooDeep (reading_at a).raised → outcome a ≡ outcome (limited a n)
higher_limit a n h calm = outcome_alike a a.mark n (refusal_limited a n h) (reading_limited a n h calm)

-- a record's first byte is its kind
first_kind : (w : Layout) (d : Diagnostic) (D : List ℕ) → get_or (record_at w (diagnostic_laid w d ++ D) 0) 0 0 ≡ low d.kind
unfolding diagnostic_laid
first_kind Layout.Narrow d D = refl
first_kind Layout.Wide d D = refl

-- the records behind the first
later_record : (w : Layout) (d : Diagnostic) (D : List ℕ) (i : ℕ) → record_at w (diagnostic_laid w d ++ D) (suc i) ≡ record_at w D i
later_record w d D i =
    ap (λ n. take (diagnostic_size w) (drop n (diagnostic_laid w d ++ D)))
    (mul-suc (diagnostic_size w) i ∙ add_comm (diagnostic_size w * i) (diagnostic_size w) ∙ ap (λ n. n + diagnostic_size w * i) (sym (length_diagnostic_laid w d)))
    ∙ ap (take (diagnostic_size w)) (drop-append-add (diagnostic_laid w d) D (diagnostic_size w * i))

pub none_too_deep : (w : Layout) (ds : List Diagnostic) → NoneTooDeep w (diagnostics_laid w ds) (length ds) → Every NotTooDeep ds
unfolding diagnostics_laid
none_too_deep w [] h = tt
none_too_deep w (d ∷ ds) h = (
  (λ e. h 0 (omega arith) (first_kind w d (diagnostics_laid w ds) ∙ ap low e)),
  none_too_deep w ds λ i l e. h (suc i) (omega arith) (ap (λ x. get_or x 0 0) (later_record w d (diagnostics_laid w ds) i) ∙ e),
)
