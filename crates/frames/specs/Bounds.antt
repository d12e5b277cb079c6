-- What a call consumes and writes: at most its input and its store, and of an input that is not empty at least a byte.
-- Assumes nothing.
use Rattle.std.specs.Prelude.{◌≡◌, refl, Bool, true, false, List, [], ◌∷◌, ℕ, ◌+◌, ◌≤◌, ◌<◌, eqb, ltb, length, take}
use Rattle.std.proofs.Common.{arith, ltb-false, le-ltb}
use Rattle.names.specs.Choice.{pick}
use Rattle.operand.specs.RefusalNumbers
use Rattle.frames.specs.Frame.{layout_of}
use Rattle.frames.specs.Reply.{refused, ended, answer_line}
use Rattle.frames.specs.Machine.{longest, roomy, State, held_line, fed, kept, step, steps, fresh, last_line}
use Rattle.frames.specs.Batches.{BatchTold, FinishTold}
use Rattle.frames.specs.Lengths.{ended_bound, answer_bound}
use Rattle.frames.specs.declared.batches.Batched.{Batched}

-- ---- what is consumed

consumed_step : (b : ℕ) (s : State) → (step b s).consumed ≡ s.consumed + 1
unfolding step
consumed_step b s = go (eqb b 10)
  where
    go : (c : Bool) → (pick c (fed s) (kept b s)).consumed ≡ s.consumed + 1
    go true = refl
    go false = refl

further : (bs : List ℕ) (s : State) → (s.consumed ≤ (steps bs s).consumed) × ((steps bs s).consumed ≤ s.consumed + length bs)
unfolding steps
further [] s = omega arith
further (b ∷ bs) s = go (ltb roomy s.filled) (further bs (step b s))
  where
    go : (c : Bool) → ((step b s).consumed ≤ (steps bs (step b s)).consumed) × ((steps bs (step b s)).consumed ≤ (step b s).consumed + length bs)
        → (s.consumed ≤ (pick c s (steps bs (step b s))).consumed) × ((pick c s (steps bs (step b s))).consumed ≤ s.consumed + length (b ∷ bs))
    go true h = omega arith
    go false h = omega (arith, consumed_step b s)

pub progress : (b : ℕ) (bs : List ℕ) (h : ℕ) (C O : List ℕ) → 1 ≤ (steps (b ∷ bs) (fresh h C O)).consumed
unfolding steps
progress b bs h C O = rw (le-ltb roomy 0 (omega arith)) (omega (arith, consumed_step b (fresh h C O), (further bs (step b (fresh h C O))).0))

-- ---- what is written

pub held_bound : (h : ℕ) (C : List ℕ) → length (held_line h C) ≤ 102408
unfolding held_line
held_bound h C = go (ltb longest h)
  where
    go : (c : Bool) → length (pick c (ended (layout_of C) (refused RefusalNumbers.bad_frame)) (answer_line (take h C))) ≤ 102408
    go true = omega (arith, ended_bound (layout_of C) (refused RefusalNumbers.bad_frame))
    go false = answer_bound (take h C)

pub last_bound : (h : ℕ) (C : List ℕ) → length (last_line h C) ≤ 102408
unfolding last_line
last_bound h C = go (eqb h 0)
  where
    go : (c : Bool) → length (pick c [] (held_line h C)) ≤ 102408
    go true = omega arith
    go false = held_bound h C

filled_within : (bs : List ℕ) (s : State) → s.filled ≤ 163840 → (steps bs s).filled ≤ 163840
unfolding steps step roomy
filled_within [] s h = h
filled_within (b ∷ bs) s h = go (ltb 61432 s.filled) refl (λ k. filled_within bs (step b s) k)
  where
    one : s.filled ≤ 61432 → (c : Bool) → (pick c (fed s) (kept b s)).filled ≤ 163840
    one g true = omega (arith, held_bound s.held s.carry)
    one g false = omega arith

    go : (c : Bool) → ltb 61432 s.filled ≡ c → ((step b s).filled ≤ 163840 → (steps bs (step b s)).filled ≤ 163840) → (pick c s (steps bs (step b s))).filled ≤ 163840
    go true e r = h
    go false e r = r (one (ltb-false 61432 s.filled e) (eqb b 10))

-- ---- of every call that keeps its promise

pub batch_bounds : (I : List ℕ) (H : ℕ) (C O C' O' : List ℕ) (r : Batched) → BatchTold I H C O C' O' r → (r.consumed ≤ length I) × (r.written ≤ 163840)
batch_bounds I H C O C' O' r p =
    (omega (arith, p.consumed, (further I (fresh H C O)).1), omega (arith, p.filled, filled_within I (fresh H C O) (omega arith)))

pub batch_progress : (I : List ℕ) (H : ℕ) (C O C' O' : List ℕ) (r : Batched) → BatchTold I H C O C' O' r → 0 < length I → 1 ≤ r.consumed
batch_progress [] H C O C' O' r p h = absurd (omega arith)
batch_progress (b ∷ bs) H C O C' O' r p h = omega (arith, p.consumed, progress b bs H C O)

pub finish_bound : (H : ℕ) (C O O' : List ℕ) (r : ℕ) → FinishTold H C O O' r → r ≤ 163840
finish_bound H C O O' r p = omega (arith, p.filled, last_bound H C)
