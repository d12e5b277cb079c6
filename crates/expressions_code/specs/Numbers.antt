-- What the value of a number token tells, and that the reader of such a token says the same.
-- Assumes nothing.
use Rattle.std.specs.Prelude.{◌≡◌, Result, Ok, Err, List, ℕ, ◌*◌, ◌<◌}
use Rattle.std.proofs.Math.Path.{refl, ap}
use Rattle.names.specs.Places.{text_of}
use Rattle.names.specs.Numbers.{number_of}
use Rattle.names.specs.Cases.{value_number}
use Rattle.names.specs.declared.tokens.Token.{Token}
use Rattle.names.specs.declared.numbers.NumberError.{NumberError}
use Rattle.records.specs.Spans.{span_of}
use Rattle.records.specs.Diagnostics.{diagnostic_record, number_too_large}
use Rattle.records.specs.Counters.{OneMore}
use Rattle.records.specs.Stores.{written}
use Rattle.records.specs.declared.counters.Counters.{Counters}
use Rattle.records.specs.declared.progress.Progress.{Progress}
use Rattle.expressions.specs.declared.source.Source.{Source}
use Rattle.expressions.specs.Expressions.{valued}
use Rattle.expressions.specs.Told.{Told, Same}
use Rattle.expressions.specs.Paths.{answered, raised, raised_same, told_one}

-- The value v of the number token k, whose digits come to n. That they come to too much is told, as far as diagnostics are counted; and
-- else nothing moves
pub data ValueTold (D D' : List ℕ) (c : Counters) (k : Token) (n : Result ℕ NumberError) (v : ℕ) (r : Counters) : Type 0 where
  quiet : (n ≡ Err NumberError.TooLarge → ⊥) → v ≡ value_number n → D' ≡ D → r ≡ c → ValueTold D D' c k n v r
  large : n ≡ Err NumberError.TooLarge → v ≡ 0 → D' ≡ written D (10 * c.diagnostics) (diagnostic_record (number_too_large (span_of k))) → OneMore c r → ValueTold D D' c k n v r

abbrev pub ValueBy : Source → Progress → Progress → Token → ℕ → Type 0
ValueBy a o o' k v = ValueTold o.diagnostics.now o'.diagnostics.now o.counters k (number_of k.detail (text_of a.line.now k.start k.end)) v o'.counters

-- neither a token nor a node is counted
pub value_stays : {D D' : List ℕ} {c : Counters} {k : Token} {n : Result ℕ NumberError} {v : ℕ} {r : Counters} → ValueTold D D' c k n v r → (r.at ≡ c.at) × (r.nodes ≡ c.nodes)
value_stays (quiet e w d f) = (ap (λ z. z.at) f, ap (λ z. z.nodes) f)
value_stays (large e w d f) = (f.at, f.nodes)

-- where diagnostics are counted, it is the reader's value
pub value_told : {L T D D' : List ℕ} {c : Counters} {k : Token} (n : Result ℕ NumberError) {v : ℕ} {r : Counters} → c.diagnostics < 65535 → ValueTold D D' c k n v r → Told (λ z. z) (Same c.nodes) (valued k n) L T D D' c v r
unfolding valued
value_told n room (large e w d f) = rw (e, w) (let g = told_one room d f in raised g (answered refl refl (raised_same g)))
value_told (Ok x) room (quiet e w d f) = rw (w, d, f) (answered refl refl refl)
value_told (Err NumberError.Invalid) room (quiet e w d f) = rw (w, d, f) (answered refl refl refl)
value_told (Err NumberError.TooLarge) room (quiet e w d f) = absurd (e refl)
