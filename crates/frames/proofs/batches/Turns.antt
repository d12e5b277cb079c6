-- A line that is held, and a part of the input byte for byte.
-- Assumes nothing.
use mathlib.Core.Path.{◌≡◌, refl, sym, ◌∙◌, ap}
use mathlib.Core.Bool.{Bool, true, false, ◌&&◌}
use mathlib.Core.List.{List, [], ◌∷◌}
use Prim.Native.Nat.{ℕ, zero, suc, ◌+◌, ◌*◌, ◌≤◌, ◌<◌}
use native.Mathlib.Omega.{arith}
use native.Mathlib.Numerals.{add-one}
use borrow.Author.Tests.{lt-ltb, le-ltb, eq-eqb, ne_eqb}
use lib.Dec.{eqb, ltb}
use lib.ListN.{length, take, drop, get_or, drop_of_length-le}
use lib.Seq.{drop-cons, length-take-le}
use Rattle.std.proofs.Common.{ltb-true, ltb-false}
use lib.Pointwise.{pointwise}
use Rattle.names.specs.Choice.{pick}
use Rattle.operand.specs.RefusalNumbers
use Rattle.operand.specs.declared.layouts.Layout.{Layout}
use Rattle.operand.specs.Layouts.{node_store}
use Rattle.frames.specs.Frame.{diagnostic_bytes, longest_frame, layout_of, behind_opening}
use Rattle.frames.specs.Hex.{spells}
use Rattle.frames.specs.Reply.{refused, ended, frame_bytes, line_bytes, answer_line}
use Rattle.frames.specs.Machine.{longest, roomy, State, held_line, step, steps, fresh}
use Rattle.frames.specs.Batches.{BatchTold}
use Rattle.frames.specs.Lengths.{length_spelled, long_refused}
use Rattle.frames.specs.Inner.{Put, Spelled, HoldTold, state}

-- ---- the line that is held

-- its layout is that of the store's first character
layout_first : (h : ℕ) (C : List ℕ) → (h ≡ 0 → ⊥) → layout_of (take h C) ≡ layout_of C
unfolding layout_of
layout_first zero C n = absurd (n refl)
layout_first (suc h) [] n = refl
layout_first (suc h) (c ∷ C) n = refl

-- what is found of the letter before it
pub layout_by : (x : List ℕ) (a : Bool) → pointwise eqb (take 1 x) (119 ∷ []) ≡ a → pick a Layout.Wide Layout.Narrow ≡ layout_of x
unfolding layout_of
layout_by [] a h = rw (sym h) refl
layout_by (c ∷ x) a h = go (eqb c 119) h
  where
    go : (b : Bool) → (b && true) ≡ a → pick a Layout.Wide Layout.Narrow ≡ pick b Layout.Wide Layout.Narrow
    go true e = rw (sym e) refl
    go false e = rw (sym e) refl

pub held_long : (h n : ℕ) (C : List ℕ) (w : Layout) → 917507 < h → n ≡ 917507 → w ≡ layout_of (take n C) → ended w (refused RefusalNumbers.bad_frame) ≡ held_line h C
unfolding held_line longest
held_long h n C w g all e = ap (λ v. ended v (refused RefusalNumbers.bad_frame)) (e ∙ layout_first n C (λ z. omega arith)) ∙ sym (rw (lt-ltb 917507 h g))

-- what is held, under the name of its length in the code
module _ (h n : ℕ) (C : List ℕ) (short : h ≤ 917507) (same : n ≡ h) where
  held_short : held_line h C ≡ answer_line (take n C)
  unfolding held_line longest
  held_short = rw (le-ltb 917507 h short, same)

  held_as : (w : Layout) → w ≡ layout_of (take n C) → ended w (line_bytes w (behind_opening w (take n C))) ≡ held_line h C
  unfolding answer_line
  held_as w is = ap (λ v. ended v (line_bytes v (behind_opening v (take n C)))) is ∙ sym held_short

  pub held_wide : (y : List ℕ) → y ≡ drop 1 (take n C) → Layout.Wide ≡ layout_of (take n C) → ended Layout.Wide (line_bytes Layout.Wide y) ≡ held_line h C
  unfolding behind_opening
  held_wide y e is = ap (λ x. ended Layout.Wide (line_bytes Layout.Wide x)) e ∙ held_as Layout.Wide is

  module _ (is : Layout.Narrow ≡ layout_of (take n C)) where
    pub held_narrow : ended Layout.Narrow (line_bytes Layout.Narrow (take n C)) ≡ held_line h C
    unfolding behind_opening
    held_narrow = held_as Layout.Narrow is

    -- longer than any narrow frame
    held_refused : 2558 < h → h ≤ length C → ended Layout.Narrow (refused RefusalNumbers.bad_frame) ≡ held_line h C
    unfolding longest_frame
    held_refused g l =
        let refused-so = long_refused Layout.Narrow (take n C) (omega (arith, length-take-le n C (omega arith))) in
        ap (ended Layout.Narrow) (sym refused-so) ∙ held_narrow

-- and where not all of it is held
pub held_over : (h n : ℕ) (C : List ℕ) → length C ≡ 917507 → (917507 < h → n ≡ 917507) → (h ≤ 917507 → n ≡ h) → Layout.Narrow ≡ layout_of (take n C) → 2558 < h
    → ended Layout.Narrow (refused RefusalNumbers.bad_frame) ≡ held_line h C
held_over h n C l long short is g = go (ltb 917507 h) refl
  where
    go : (b : Bool) → ltb 917507 h ≡ b → ended Layout.Narrow (refused RefusalNumbers.bad_frame) ≡ held_line h C
    go true e = let more = ltb-true 917507 h e in held_long h n C Layout.Narrow more (long more) is
    go false e = let all = ltb-false 917507 h e in held_refused h n C all (short all) is g (omega arith)

-- a line's bytes, where it spells some and where not
pub digits_bad : (w : Layout) (x : List ℕ) → spells x ≡ false → refused RefusalNumbers.bad_frame ≡ line_bytes w x
unfolding line_bytes
digits_bad w x e = sym (rw e)

module _ (w : Layout) (x S : List ℕ) (n : ℕ) (p : Spelled x S n) where
  pub digits_frame : frame_bytes w (take n S) ≡ line_bytes w x
  unfolding line_bytes
  digits_frame = sym (rw (p.good, sym p.bytes))

  pub digits_fit : length x ≤ 2 * length S → n ≤ length S
  digits_fit l = omega (arith, p.count, length_spelled x p.good)

-- the stores of a batch are those of a narrow frame
pub narrow_stores : (node_store Layout.Narrow ≡ 3570) × (diagnostic_bytes Layout.Narrow ≡ 5110)
unfolding node_store diagnostic_bytes
narrow_stores = (refl, refl)

pub wide_stores : (node_store Layout.Wide ≡ 18414) × (diagnostic_bytes Layout.Wide ≡ 32752)
unfolding node_store diagnostic_bytes
wide_stores = (refl, refl)

-- ---- one byte

-- a step, at whatever place of the input
abbrev pub Turned : ℕ → ℕ → ℕ → List ℕ → List ℕ → ℕ → ℕ → List ℕ → List ℕ → Type 0
Turned b h at C O h' at' C' O' = (i : ℕ) → step b (state i h at C O) ≡ state (i + 1) h' at' C' O'

pub turn_fed : (b h at : ℕ) (C O O' : List ℕ) (w : ℕ) → b ≡ 10 → Put O O' at (held_line h C) w → Turned b h at C O 0 w C O'
unfolding step
turn_fed b h at C O O' w e p = λ i. rw (eq-eqb b 10 e, p.next, p.out)

pub turn_kept : (b h at : ℕ) (C O C' : List ℕ) (r : ℕ) → (b ≡ 10 → ⊥) → HoldTold C h b C' r → Turned b h at C O r at C' O
unfolding step
turn_kept b h at C O C' r e p = λ i. rw (ne_eqb b 10 e, p.next, p.carry)

-- ---- a part of the input

-- without room for the longest answer nothing is read
steps_full : (l : List ℕ) (s : State) → 61432 < s.filled → steps l s ≡ s
unfolding steps roomy
steps_full [] s g = refl
steps_full (b ∷ bs) s g = rw (lt-ltb 61432 s.filled g)

module _ (I C₀ O₀ : List ℕ) (h₀ i h w : ℕ) (C O : List ℕ) (inv : steps (drop i I) (state i h w C O) ≡ steps I (fresh h₀ C₀ O₀)) where
  batch_told : state i h w C O ≡ steps I (fresh h₀ C₀ O₀) → BatchTold I h₀ C₀ O₀ C O (record { consumed = i; held = h; written = w })
  batch_told e = record {
    consumed = ap (λ (s : State). s.consumed) e;
    held = ap (λ (s : State). s.held) e;
    filled = ap (λ (s : State). s.filled) e;
    carry = ap (λ (s : State). s.carry) e;
    out = ap (λ (s : State). s.out) e;
  }

  pub batch_end : length I ≤ i → BatchTold I h₀ C₀ O₀ C O (record { consumed = i; held = h; written = w })
  unfolding steps
  batch_end g = batch_told (sym (ap (λ l. steps l (state i h w C O)) (drop_of_length-le I {i = i} g)) ∙ inv)

  pub batch_full : 61432 < w → BatchTold I h₀ C₀ O₀ C O (record { consumed = i; held = h; written = w })
  batch_full g = batch_told (sym (steps_full (drop i I) (state i h w C O) g) ∙ inv)

  module _ (on : i < length I) where
    next_byte : drop i I ≡ get_or I i 0 ∷ drop (i + 1) I
    next_byte = drop-cons I i 0 on ∙ ap (λ k. get_or I i 0 ∷ drop k I) (sym (add-one i))

    pub batch_on : (h' w' : ℕ) (C' O' : List ℕ) → w ≤ 61432 → Turned (get_or I i 0) h w C O h' w' C' O'
        → steps (drop (i + 1) I) (state (i + 1) h' w' C' O') ≡ steps I (fresh h₀ C₀ O₀)
    unfolding steps roomy
    batch_on h' w' C' O' g p =
        ap (λ s. steps (drop (i + 1) I) s) (sym (p i))
        ∙ sym (ap (λ l. steps l (state i h w C O)) next_byte ∙ rw (le-ltb 61432 w g))
        ∙ inv
