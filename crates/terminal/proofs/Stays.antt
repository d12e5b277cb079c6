-- "It returns its number; all lent bytes stay.": so does the exported call, and of all three stores.
-- Assumes nothing.
use Rattle.std.specs.Prelude.{◌≡◌, refl, Bool, true, false, List, ℕ, zero, suc, ◌≤◌, ◌<◌, ltb, length, Option, Some, None}
use Rattle.std.proofs.Common.{ap, arith, lt-ltb, le-ltb}
use Rattle.names.specs.Choice.{pick}
use Rattle.records.specs.Written.{written_nothing}
use Rattle.operand.specs.Operands.{Operand}
use Rattle.expressions.specs.Reader.{Reading}
use Rattle.operand.specs.declared.layouts.Layout.{Layout}
use Rattle.operand.specs.Entry.{Input, reading_at, refusal, answer_of, outcome, outcome_of}
use Rattle.terminal.specs.Exported.{Exported, told, number_of, answer_laid, out_after, answered, answer_bytes, short_answer, exported}

none_refused : (w : Layout) (r : Reading (Option Operand)) (v : Option Operand) → number_of (answer_of w r v) ≡ 0
unfolding number_of answer_of
none_refused w r (Some x) = refl
none_refused w r None = refl

number_at : (a : Input) (k : ℕ) → number_of (outcome_of a k).answer ≡ k
unfolding number_of outcome_of
number_at a zero = none_refused a.layout (reading_at a) (reading_at a).value
number_at a (suc k) = refl

-- with room for an answer it is the refusal's number, 0 for none
pub number_roomy : (a : Input) (O : List ℕ) → answer_bytes a.layout ≤ length O → (exported a O).number ≡ refusal a
unfolding exported answered outcome
number_roomy a O h = rw (le-ltb (length O) (answer_bytes a.layout) h) (number_at a (refusal a))

pub number_short : (a : Input) (O : List ℕ) → length O < answer_bytes a.layout → (exported a O).number ≡ short_answer
unfolding exported
number_short a O h = rw (lt-ltb (length O) (answer_bytes a.layout) h)

-- where a number is returned, every byte stays
pub stays : (a : Input) (O : List ℕ) → 1 ≤ (exported a O).number → exported a O ≡ told (exported a O).number a.nodes a.diagnostics O
unfolding exported answered outcome outcome_of number_of out_after answer_laid
stays a O = go (ltb (length O) (answer_bytes a.layout)) (refusal a)
  where
    of : (c : Bool) (k : ℕ) → Exported
    of c k = pick c (told short_answer a.nodes a.diagnostics O) (answered a.layout (outcome_of a k) O)

    go : (c : Bool) (k : ℕ) → 1 ≤ (of c k).number → of c k ≡ told (of c k).number a.nodes a.diagnostics O
    go true k h = refl
    go false zero h = absurd (omega (arith, number_at a 0))
    go false (suc k) h = ap (told (suc k) a.nodes a.diagnostics) (written_nothing O 0)
