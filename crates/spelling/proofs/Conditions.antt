-- The buyer's second condition, as theorems over the definition. What they lean on is in Spelled.antt and Answered.antt.
-- Assumes nothing.
use Rattle.std.specs.Prelude.{◌≡◌, refl, Bool, true, false, List, [], ℕ, ◌≤◌, ◌<◌, Option, Some, None}
use Rattle.std.proofs.Common.{sym, ◌∙◌, ap, arith}
use Rattle.names.specs.Places.{Place, nothing, stands, below}
use Rattle.names.specs.Tokens.{count}
use Rattle.names.specs.declared.tokens.Token.{Token}
use Rattle.expressions.specs.Expressions.{fuel}
use Rattle.expressions.proofs.Costs.{true_false}
use Rattle.expressions.specs.Fuel.{fuel_enough}
use Rattle.operand.specs.Operands.{Operand}
use Rattle.operand.specs.Operand.{setting_from, reading_of, operand_from}
use Rattle.operand.specs.Entry.{Input, tokens_of, place_of, reading_at}
use Rattle.operand.proofs.Readings.{ended, started}
use Rattle.operand.specs.Conditions.{Valid}
use Rattle.operand.proofs.Conditions.{valid_count}
use Rattle.spelling.specs.Signs.{unreserved, ordinary}
use Rattle.spelling.specs.Spelling.{Closed, Spelled}
use Rattle.spelling.specs.Silence.{Unerring}
use Rattle.spelling.proofs.Silence.{silent_run}
use Rattle.spelling.proofs.Spelled.{operand_read_lem}
use Rattle.spelling.proofs.Grouped.{Found}
use Rattle.spelling.proofs.Answered.{operand_sound}
use Rattle.spelling.specs.Conditions.{Answers}

-- ---- over whatever places, with no more tokens than the fuel

module _ (limit mark : ℕ) (at : ℕ → Place) (count : ℕ) (ends : (j : ℕ) (k : Token) (x : List ℕ) → at j ≡ stands k x → j < count) (few : count ≤ fuel) (i : ℕ) where
  pub closed_is_read : {j : ℕ} {y : Operand} → Spelled limit mark at (ordinary mark) i j y → Closed at j → Answers (reading_of limit mark at i) y j
  closed_is_read h c =
      let r = operand_read_lem (setting_from limit mark h.first) at count ends few i h.spelling c 0 in
      let e = started limit mark at i h.first h.text h.there ∙ r.same in
      record { value = ap (λ r. r.value) e; cursor = ap (λ r. r.cursor) e; raised = ap (λ r. r.raised) e }

  pub silent_is_spelled : {y : Operand} → (reading_of limit mark at i).value ≡ Some y → (reading_of limit mark at i).raised ≡ [] → Unerring at i (reading_of limit mark at i).cursor
      → Spelled limit mark at unreserved i (reading_of limit mark at i).cursor y
  silent_is_spelled {y} e q u = go (at i) refl
    where
      is_some : Option Operand → Bool
      is_some (Some x) = true
      is_some None = false

      go : (p : Place) → at i ≡ p → Spelled limit mark at unreserved i (reading_of limit mark at i).cursor y
      go nothing h = absurd (true_false (ap is_some (sym e ∙ ap (λ r. r.value) (ended limit mark at i h))))
      go (stands k x) h =
          let z = started limit mark at i k x h in
          let s = setting_from limit mark k in
          let f = silent_run (operand_from s) at (Found s at count ends few i) i 0 (operand_sound s at count ends few i k x h 0).all (rw z at q) (rw z at u) in
          record { first = k; text = x; there = h; spelling = rw z ((rw (rw z at e) at f)) }

-- ---- condition 2

module _ (a : Input) (valid : Valid a) where
  abbrev inside : (j : ℕ) (k : Token) (x : List ℕ) → place_of a j ≡ stands k x → j < count (tokens_of a)
  inside j k x h = below a.line (tokens_of a) j k x h

  few : count (tokens_of a) ≤ fuel
  few = omega (arith, valid_count a valid, fuel_enough)

  -- Each addressing mode of Motorola's manual, spelled and closed as document 01 says, is read as that mode without diagnostic: no name in E is reserved or
  -- spells Z (`ordinary`), no number is too large and no more terms are open than the limit (`Spells`); the list's end, a comma or EndOfLine follows (`Closed`)
  pub spelled_is_read : {j : ℕ} {y : Operand} → Spelled a.limit a.mark (place_of a) (ordinary a.mark) a.start j y → Closed (place_of a) j
      → Answers (reading_at a) y j
  spelled_is_read h c = closed_is_read a.limit a.mark (place_of a) (count (tokens_of a)) inside few a.start h c

  -- And an operand read without diagnostic has such a spelling up to the cursor, where no Error token stands before it
  pub read_is_spelled : {y : Operand} → (reading_at a).value ≡ Some y → (reading_at a).raised ≡ []
      → Unerring (place_of a) a.start (reading_at a).cursor → Spelled a.limit a.mark (place_of a) unreserved a.start (reading_at a).cursor y
  read_is_spelled e q u = silent_is_spelled a.limit a.mark (place_of a) (count (tokens_of a)) inside few a.start e q u

some_same : {x y : Operand} → Some x ≡ Some y → x ≡ y
some_same {x} {y} e = ap (λ m. elim m [ Some z ↦ z | None ↦ x ]) e

-- a closed spelling is that of one operand, and of one end
pub unambiguous : (a : Input) → Valid a → {j n : ℕ} {x y : Operand}
    → Spelled a.limit a.mark (place_of a) (ordinary a.mark) a.start j x → Closed (place_of a) j
    → Spelled a.limit a.mark (place_of a) (ordinary a.mark) a.start n y → Closed (place_of a) n → (j ≡ n) × (x ≡ y)
unambiguous a valid h c g d =
    let p = spelled_is_read a valid h c in
    let q = spelled_is_read a valid g d in
    (sym p.cursor ∙ q.cursor, some_same (sym p.value ∙ q.value))
