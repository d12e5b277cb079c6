-- What holds of every reading of an operand, over whatever places.
-- Assumes nothing.
use Rattle.std.proofs.Math.Path.{◌≡◌, refl}
use Rattle.std.proofs.Common.{sym, ◌∙◌, ltb-false, le-ltb}
use Rattle.std.specs.Prelude.{Bool, ℕ, ◌+◌, ◌≤◌, ◌<◌, max, length, Option, Some, None}
use Rattle.std.proofs.Math.Bool.{true, false}
use mathlib.Core.List.{List, []}
use native.Mathlib.Omega.{arith}
use Rattle.std.proofs.Math.Dec.{eqb, ltb}
use Rattle.names.specs.Choice.{pick}
use Rattle.names.specs.Kinds
use Rattle.names.specs.Places.{Place, nothing, stands}
use Rattle.names.specs.declared.tokens.Token.{Token}
use Rattle.expressions.specs.Reader.{answer, any, reading, run}
use Rattle.expressions.specs.Laws as L
use Rattle.expressions.specs.Laws.{holds, All, Law, call, law_run, Every, Fine, all_fine, met_yes, met_no}
use Rattle.expressions.proofs.Costs.{Clean, all_clean, true_false}
use Rattle.operand.specs.Operands.{Operand}
use Rattle.operand.specs.Operand.{setting_from, parse_operand, operand_from, reading_of}
use Rattle.operand.specs.Records.{size_m}
use Rattle.operand.proofs.Costs.{operand_from_cost}
use Rattle.operand.specs.Readings.{gap, from}

module _ (limit : ℕ) (lim : 1 ≤ limit) (mark : ℕ) (at : ℕ → Place) (i : ℕ) where
  abbrev Whole : ℕ → ℕ → ℕ → Option Operand → Type 0
  Whole j e r v = (size_m v + i ≤ j) × (e + i ≤ j + 1) × (r ≤ j + gap v)

  whole : Law (parse_operand limit mark) at Whole i 0 0 i
  unfolding All parse_operand size_m gap
  whole = record {
    all = (
      (λ k x h q. call (operand_from_cost at 0 (all_clean at) _ i 0 0 (max i (i + 0)) lim (omega arith)) λ j e r. elim [ Some x ↦ omega arith | None ↦ omega arith ]),
      λ n. omega arith,
    );
  }

  pub nodes_few : size_m (reading_of limit mark at i).value + i ≤ (reading_of limit mark at i).cursor
  unfolding reading_of
  nodes_few = (law_run whole).0

  pub raised_few : length (reading_of limit mark at i).raised + i ≤ (reading_of limit mark at i).cursor + 1
  unfolding reading_of
  raised_few = omega (arith, (law_run whole).1)

  pub plus_before : Every (λ d. Fine at d (reading_of limit mark at i).cursor) (reading_of limit mark at i).raised
  unfolding reading_of
  plus_before = all_fine _ _ _ _ _ _ _ whole.all

  -- a reading depends on the places from its start through its cursor, and one further where there is no operand
  pub local : (at' : ℕ → Place) → ((j : ℕ) → i ≤ j → j ≤ (reading_of limit mark at i).cursor + gap (reading_of limit mark at i).value → at j ≡ at' j)
      → reading_of limit mark at i ≡ reading_of limit mark at' i
  unfolding reading_of
  local at' h =
      let f = L.forward (parse_operand limit mark) at i 0 in
      L.local (parse_operand limit mark) at at' i 0 i λ j a b. h j a (omega (arith, (law_run whole).2))

pub forward : (limit mark : ℕ) (at : ℕ → Place) (i : ℕ) → i ≤ (reading_of limit mark at i).cursor
unfolding reading_of
forward limit mark at i = L.forward (parse_operand limit mark) at i 0

pub within : (limit mark : ℕ) (at : ℕ → Place) (count i : ℕ) → ((j : ℕ) (k : Token) (x : List ℕ) → at j ≡ stands k x → j < count) → i ≤ count
    → (reading_of limit mark at i).cursor ≤ count
unfolding reading_of
within limit mark at count i ends h = L.within (parse_operand limit mark) at count i 0 ends h

from_same : (i : ℕ) (at : ℕ → Place) (j : ℕ) → i ≤ j → at j ≡ from i at j
unfolding from
from_same i at j h = rw (le-ltb j i h)

-- at the end there is no operand
pub ended : (limit mark : ℕ) (at : ℕ → Place) (i : ℕ) → at i ≡ nothing → reading_of limit mark at i ≡ reading i 0 [] None
unfolding reading_of run parse_operand holds
ended limit mark at i there = let e : i + 0 ≡ i = omega arith in met_no any (λ k x. run (operand_from (setting_from limit mark k)) at i 0) (λ u. run (answer None) at i 0) (at (i + 0)) (rw (e, there))

-- from a token on, the reading is that of `operand_from`
pub started : (limit mark : ℕ) (at : ℕ → Place) (i : ℕ) (k : Token) (x : List ℕ) → at i ≡ stands k x → reading_of limit mark at i ≡ run (operand_from (setting_from limit mark k)) at i 0
unfolding reading_of run parse_operand
started limit mark at i k x there = let e : i + 0 ≡ i = omega arith in met_yes any (λ k x. run (operand_from (setting_from limit mark k)) at i 0) (λ u. run (answer None) at i 0) (at (i + 0)) k x (rw e there) refl

module _ (limit : ℕ) (lim : 1 ≤ limit) (mark : ℕ) (at : ℕ → Place) (i : ℕ) (k : Token) (x : List ℕ) (there : at i ≡ stands k x)
    (quiet : (j : ℕ) (t : Token) (y : List ℕ) → i ≤ j → at j ≡ stands t y → eqb t.kind Kinds.error ≡ false) where
  clean_1 : Clean (from i at) 1
  unfolding from
  clean_1 = record { small = omega arith; none = λ j t y h q. go j t y (ltb j i) refl h q }
    where
      go : (j : ℕ) (t : Token) (y : List ℕ) (b : Bool) → ltb j i ≡ b → pick b nothing (at j) ≡ stands t y → eqb t.kind Kinds.error ≡ true → ◌≡◌ {A = ℕ} 1 0
      go j t y true e h q = let z : ◌≡◌ {A = ℕ} 0 1 = cc in absurd (omega arith)
      go j t y false e h q = absurd (true_false (sym q ∙ quiet j t y (ltb-false j i e) h))

  same_from : reading_of limit mark at i ≡ run (operand_from (setting_from limit mark k)) (from i at) i 0
  same_from =
      local limit lim mark at i (from i at) (λ j a b. from_same i at j a)
      ∙ started limit mark (from i at) i k x (sym (from_same i at i (omega arith)) ∙ there)

  pub never_silent : (reading_of limit mark at i).value ≡ None → 0 < length (reading_of limit mark at i).raised
  never_silent e =
      let l = law_run (operand_from_cost (from i at) 1 clean_1 (setting_from limit mark k) i 0 0 i lim (omega arith)) in
      let n = rw same_from at e in
      rw same_from (omega (arith, (rw n at l).1))
