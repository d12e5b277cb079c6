-- The buyer's conditions, as theorems over the definition. Words in quotes are document 01's; what the theorems lean on is in Readings.antt and Fuel.antt.
-- Assumes nothing.
use Rattle.std.specs.Prelude.{◌≡◌, refl, Bool, true, false, not, List, [], ◌∷◌, ℕ, zero, suc, ◌+◌, ◌*◌, ◌/◌, ◌%◌, ◌≤◌, ◌<◌, eqb, ltb, length, take, Option, Some, None}
use Rattle.std.proofs.Common.{◌∙◌, ap, ap₂, arith, take_at, length-take-le}
use borrow.Author.Tests.{ltb-false, not-false}
use Rattle.names.specs.Laws.{either_first, either_second}
use Rattle.names.specs.Choice.{pick}
use Rattle.names.specs.Kinds
use Rattle.names.specs.Tokens.{count}
use Rattle.names.specs.Places.{Place, stands, below}
use Rattle.names.specs.declared.tokens.Token.{Token}
use Rattle.expressions.specs.Trees.{Expr}
use Rattle.expressions.specs.Reader.{Reading, run}
use Rattle.expressions.specs.Expressions.{fuel, parse_prefix, parse_expression_from}
use Rattle.expressions.specs.Laws.{Every, Fine}
use Rattle.expressions.specs.Fuel.{turn, fuel_enough, climb_equation}
use Rattle.operand.specs.Operands.{RegisterListItem, Operand}
use Rattle.operand.specs.declared.forms.Register.{Register}
use Rattle.expressions.specs.declared.reading.Setting.{Setting}
use Rattle.operand.specs.Operand.{◌>>=?◌, reading_of, list_item, next_item, list_loop, parse_register_list}
use Rattle.operand.specs.Records.{size_m}
use Rattle.operand.specs.Layout.{nodes_laid, diagnostics_laid}
use Rattle.operand.specs.RefusalNumbers
use Rattle.operand.specs.declared.layouts.Layout.{Layout}
use Rattle.operand.specs.Layouts.{token_size, node_size, diagnostic_size, longest_line, most_tokens, node_store, free_records, numbers_count, nodes_within, free_records_lem, records_within, most_tokens_lem}
use Rattle.operand.specs.Entry.{Input, tokens_of, place_of, highest_limit, good_tokens, Check, line_and_list, start_stores_and_limit, refusals, first_of, refusal, reading_at, refused, diagnostics_after, outcome_of, outcome}
use Rattle.operand.proofs.Readings as R
use Rattle.operand.specs.Readings.{gap}
use Rattle.operand.specs.Fuel.{list_equation}
use Rattle.operand.specs.Conditions.{Valid, Refuses, early, late, record_m, SameAnswer, AlikeThrough, record_at, SameButPlus, SameAnswerButPlus, further}

-- ---- the numbers of the table

-- something of each refusal's number
abbrev Each : (ℕ → Type 0) → List Check → Type 0
Each P [] = Unit {0}
Each P (r ∷ rs) = P r.0 × Each P rs

first_of_lem : (P : ℕ → Type 0) (rs : List Check) → Each P rs → (first_of rs ≡ 0 → ⊥) → P (first_of rs)
unfolding first_of
first_of_lem P [] e h = absurd (h refl)
first_of_lem P ((n, true) ∷ rs) e h = e.0
first_of_lem P ((n, false) ∷ rs) e h = first_of_lem P rs e.1 h

-- so it is neither 0 nor above 18
pub refuses_bounds : {n : ℕ} → Refuses n → (1 ≤ n) × (n ≤ RefusalNumbers.bad_limit)
refuses_bounds (early h) = omega (arith, h)
refuses_bounds (late e) = omega (arith, e)

-- each is the number of a refusal
pub refuses_numbered : {n : ℕ} → Refuses n → RefusalNumbers.number (RefusalNumbers.numbered n) ≡ n
unfolding RefusalNumbers.numbered
refuses_numbered {n} h = go n h
  where
    go : (n : ℕ) → Refuses n → RefusalNumbers.number (RefusalNumbers.numbered n) ≡ n
    go n (late e) = rw e refl
    go zero (early h) = absurd (omega (arith, h))
    go (suc zero) (early h) = refl
    go (suc (suc zero)) (early h) = refl
    go (suc (suc (suc zero))) (early h) = refl
    go (suc (suc (suc (suc zero)))) (early h) = refl
    go (suc (suc (suc (suc (suc zero))))) (early h) = refl
    go (suc (suc (suc (suc (suc (suc zero)))))) (early h) = refl
    go (suc (suc (suc (suc (suc (suc (suc zero))))))) (early h) = refl
    go (suc (suc (suc (suc (suc (suc (suc (suc n)))))))) (early h) = absurd (omega (arith, h))

numbered : (a : Input) → Each Refuses (refusals a)
unfolding refusals line_and_list start_stores_and_limit
numbered a =
    (early (omega arith), (early (omega arith), (early (omega arith), (early (omega arith), (early (omega arith), (early (omega arith), (early (omega arith), (late refl, tt))))))))

pub refusal_number : (a : Input) → (refusal a ≡ 0 → ⊥) → Refuses (refusal a)
unfolding refusal
refusal_number a h = first_of_lem Refuses (refusals a) (numbered a) h

-- ---- what a valid input has

abbrev AllFalse : List Check → Type 0
AllFalse [] = Unit {0}
AllFalse (r ∷ rs) = (r.1 ≡ false) × AllFalse rs

none_holds : (rs : List Check) → Each Refuses rs → first_of rs ≡ 0 → AllFalse rs
unfolding first_of
none_holds [] e h = tt
none_holds ((n, true) ∷ rs) e h = absurd (omega (arith, refuses_bounds e.0))
none_holds ((n, false) ∷ rs) e h = (refl, none_holds rs e.1 h)

module _ (a : Input) (v : Valid a) where
  none_refuses : AllFalse (refusals a)
  unfolding refusal
  none_refuses = none_holds (refusals a) (numbered a) v

  -- a list of as many tokens as its layout allows, and a start within it
  pub valid_bounds : (count (tokens_of a) ≤ most_tokens a.layout) × (a.start ≤ count (tokens_of a))
  unfolding refusals line_and_list start_stores_and_limit
  valid_bounds =
      let h = none_refuses in
      let few = ltb-false (most_tokens a.layout) (length a.tokens / token_size a.layout) (either_second (not (eqb (length a.tokens % token_size a.layout) 0)) _ h.1.1.0) in
      (omega (arith, few, numbers_count a.layout a.tokens), ltb-false (count (tokens_of a)) a.start h.1.1.1.1.0)

  -- so in each layout there are at most as many as the fuel allows
  pub valid_count : count (tokens_of a) ≤ 1023
  valid_count = omega (arith, valid_bounds.0, most_tokens_lem a.layout)

  -- a line of as many bytes as its layout allows, over which each token is good
  pub valid_tokens : (length a.line ≤ longest_line a.layout) × (good_tokens a.line 0 (tokens_of a) ≡ true)
  unfolding refusals line_and_list
  valid_tokens = let h = none_refuses in (ltb-false (longest_line a.layout) (length a.line) h.0, not-false _ h.1.1.1.0)

  -- whole node records and free diagnostic records, as many as its layout asks for
  pub valid_stores : (node_store a.layout ≤ length a.nodes) × (diagnostic_size a.layout * (a.used + free_records a.layout) ≤ length a.diagnostics)
  unfolding refusals line_and_list start_stores_and_limit
  valid_stores =
      let h = none_refuses in
      let free = ltb-false (length a.diagnostics / diagnostic_size a.layout) (a.used + free_records a.layout) h.1.1.1.1.1.1.0 in
      (ltb-false (length a.nodes) (node_store a.layout) h.1.1.1.1.1.0, records_within a.layout (a.used + free_records a.layout) (length a.diagnostics) free)

  -- "Let the caller choose the nesting limit from 1 to 128" (document 02)
  pub valid_limit : (1 ≤ a.limit) × (a.limit ≤ 128)
  unfolding refusals line_and_list start_stores_and_limit highest_limit
  valid_limit =
      let h = none_refuses.1.1.1.1.1.1.1.0 in
      (ltb-false a.limit 1 (either_first (ltb a.limit 1) _ h), ltb-false 128 a.limit (either_second (ltb a.limit 1) _ h))

module _ (a : Input) (lim : 1 ≤ a.limit) where
  abbrev pub answered : Reading (Option Operand)
  answered = reading_at a

  -- ---- condition 1

  -- the cursor neither goes back nor passes the end
  pub cursor_bounds : Valid a → (a.start ≤ answered.cursor) × (answered.cursor ≤ count (tokens_of a))
  cursor_bounds v = (
    R.forward a.limit a.mark (place_of a) a.start,
    R.within a.limit a.mark (place_of a) (count (tokens_of a)) a.start (λ j k x h. below a.line (tokens_of a) j k x h) (valid_bounds a v).1,
  )

  -- no operand is never silent, unless the start is the end or an Error token stood from there on
  pub never_silent : (k : Token) (x : List ℕ) → place_of a a.start ≡ stands k x
      → ((j : ℕ) (t : Token) (y : List ℕ) → a.start ≤ j → place_of a j ≡ stands t y → eqb t.kind Kinds.error ≡ false)
      → answered.value ≡ None → 0 < length answered.raised
  never_silent k x there quiet e = R.never_silent a.limit lim a.mark (place_of a) a.start k x there quiet e

  -- "A reading adds at most twice its consumed tokens plus one." (The number is at most the consumed tokens plus one.)
  pub diagnostics_bound : length answered.raised + 2 * a.start ≤ 2 * answered.cursor + 1
  diagnostics_bound = omega (arith, R.raised_few a.limit lim a.mark (place_of a) a.start, R.forward a.limit a.mark (place_of a) a.start)

  -- so the records that must be free are enough: 511, and 2,047 in the wide layout
  pub records_enough : Valid a → length answered.raised ≤ free_records a.layout
  records_enough v = omega (arith, diagnostics_bound, (cursor_bounds v).0, (cursor_bounds v).1, (valid_bounds a v).0, free_records_lem a.layout)

  -- the nodes are at most the consumed tokens
  pub nodes_bound : size_m answered.value + a.start ≤ answered.cursor
  nodes_bound = R.nodes_few a.limit lim a.mark (place_of a) a.start

  -- so a store of one record a token is enough: 255 of fourteen bytes, and 1,023 of eighteen in the wide layout
  pub nodes_enough : Valid a → node_size a.layout * size_m answered.value ≤ node_store a.layout
  nodes_enough v = nodes_within a.layout _ (omega (arith, nodes_bound, (cursor_bounds v).1, (valid_bounds a v).0))

  -- "PlusIsNotAUnaryOperator": its plus stands before the cursor, never at it
  pub plus_before_cursor : Every (λ d. Fine (place_of a) d answered.cursor) answered.raised
  plus_before_cursor = R.plus_before a.limit lim a.mark (place_of a) a.start

same_answer : (w : Layout) {r q : Reading (Option Operand)} → r ≡ q → SameAnswer w r q
same_answer w e = record {
  operand = ap (λ r. record_m w r.value) e;
  cursor = ap (λ r. r.cursor) e;
  nodes_used = ap (λ r. size_m r.value) e;
  nodes = ap (λ r. nodes_laid w r.value) e;
  added = ap (λ r. length r.raised) e;
  diagnostics = ap (λ r. diagnostics_laid w r.raised) e;
}

-- they are read alike: `gap` is 0 for an operand and 1 for none
pub same_reading : (a b : Input) → 1 ≤ a.limit → AlikeThrough a b ((reading_at a).cursor + gap (reading_at a).value) → reading_at a ≡ reading_at b
same_reading a b lim h =
    R.local a.limit lim a.mark (place_of a) a.start (place_of b) h.places
    ∙ ap₂ (λ m i. reading_of a.limit m (place_of b) i) h.mark h.start
    ∙ ap (λ n. reading_of n b.mark (place_of b) b.start) h.limit

-- What stands behind the cursor's token changes nothing: two valid inputs alike from the start through the cursor (one place further where there is no
-- operand) have the same answer, at every limit and in every layout: `w` is whichever the records are compared in. There is no exception.
pub local : (a b : Input) → Valid a → Valid b → AlikeThrough a b ((reading_at a).cursor + gap (reading_at a).value) → (w : Layout) → SameAnswer w (reading_at a) (reading_at b)
local a b va vb h w = same_answer w (same_reading a b (valid_limit a va).0 h)

but_plus : {w : Layout} (p : Place) {r q : Reading (Option Operand)} → SameAnswer w r q → SameAnswerButPlus w p r q
but_plus {w = w} p h = record {
  operand = h.operand;
  cursor = h.cursor;
  nodes_used = h.nodes_used;
  nodes = h.nodes;
  added = h.added;
  diagnostics = λ i. SameButPlus.same (ap (λ D. record_at w D i) h.diagnostics);
}

-- a reading looks at most one place past its cursor
gap_one : (v : Option Operand) → gap v ≤ 1
unfolding gap
gap_one (Some x) = omega arith
gap_one None = omega arith

-- what two inputs have in common through a place they have through every earlier one
pub alike_before : {a b : Input} {m n : ℕ} → m ≤ n → AlikeThrough a b n → AlikeThrough a b m
alike_before le h = record { start = h.start; mark = h.mark; limit = h.limit; places = λ j x y. h.places j x (omega arith) }

-- Condition 3 as it is asked for: of two valid inputs alike through the cursor (one place further where there is no operand) the answers are the same but for
-- a kind 13 with its plus at the cursor, which is the same in all but its kind; of two alike one token further they are the same without exception.
-- `local` gives more: the exception is never needed, since such a plus stands before the cursor (`plus_before_cursor`).
pub two_readings : (a b : Input) → Valid a → Valid b → (w : Layout)
    → (AlikeThrough a b ((reading_at a).cursor + gap (reading_at a).value) → SameAnswerButPlus w (place_of a (reading_at a).cursor) (reading_at a) (reading_at b))
    × (AlikeThrough a b ((reading_at a).cursor + 1) → SameAnswer w (reading_at a) (reading_at b))
two_readings a b va vb w = (
  (λ h. but_plus _ (local a b va vb h w)),
  λ h. local a b va vb (alike_before (omega (arith, gap_one (reading_at a).value)) h) w,
)

further_enough : (limit : ℕ) (v : Option Operand) → gap v ≤ further limit v
unfolding gap further
further_enough limit (Some x) = omega arith
further_enough limit None = go (eqb limit 1)
  where
    go : (b : Bool) → 1 ≤ pick b 2 1
    go true = omega arith
    go false = omega arith

-- "Condition 3 holds at every limit, for two inputs with the same one; only at limit 1, where no operand comes back, agreement two tokens further is needed"
-- (document 02). `local` gives more: one token further is enough at limit 1 too.
pub two_further : (a b : Input) → Valid a → Valid b → AlikeThrough a b ((reading_at a).cursor + further a.limit (reading_at a).value)
    → (w : Layout) → SameAnswer w (reading_at a) (reading_at b)
two_further a b va vb h w = local a b va vb (alike_before (omega (arith, further_enough a.limit (reading_at a).value)) h) w

-- ---- what stays

-- "It returns its number; all lent bytes stay."
pub refused_stays : (a : Input) (k : ℕ) → refusal a ≡ suc k → outcome a ≡ record { answer = refused (suc k); nodes = a.nodes; diagnostics = a.diagnostics }
unfolding outcome outcome_of
refused_stays a k e = ap (outcome_of a) e

-- the used records and the added ones lie in the list
pub added_within : (a : Input) → 1 ≤ a.limit → Valid a → diagnostic_size a.layout * (a.used + length (reading_at a).raised) ≤ length a.diagnostics
added_within a lim v = go a.layout (records_enough a lim v) (valid_stores a v).1
  where
    go : (w : Layout) → length (reading_at a).raised ≤ free_records w → diagnostic_size w * (a.used + free_records w) ≤ length a.diagnostics
        → diagnostic_size w * (a.used + length (reading_at a).raised) ≤ length a.diagnostics
    go Layout.Narrow f h = omega arith
    go Layout.Wide f h = omega arith

-- the used records lie in the list
pub used_within : (a : Input) → Valid a → diagnostic_size a.layout * a.used ≤ length a.diagnostics
used_within a v = go a.layout (valid_stores a v).1
  where
    go : (w : Layout) → diagnostic_size w * (a.used + free_records w) ≤ length a.diagnostics → diagnostic_size w * a.used ≤ length a.diagnostics
    go Layout.Narrow h = omega arith
    go Layout.Wide h = omega arith

-- earlier diagnostics stand
pub earlier_stand : (a : Input) → Valid a
    → take (diagnostic_size a.layout * a.used) (outcome a).diagnostics ≡ take (diagnostic_size a.layout * a.used) a.diagnostics
unfolding outcome outcome_of diagnostics_after
earlier_stand a v =
    let n = diagnostic_size a.layout * a.used in
    ap (λ k. take n (outcome_of a k).diagnostics) v ∙ take_at (take n a.diagnostics) _ n (length-take-le n a.diagnostics (used_within a v))

-- ---- the definition means what it says

-- The fuel never decides: for every valid input, the climb of `parse_expression_from` and the loop of `parse_register_list` satisfy their own equations.
pub fuel_never_decides : (a : Input) → Valid a → (room min : ℕ) (left : Expr) (i l : ℕ)
    → run (parse_expression_from fuel (parse_prefix fuel room) min left) (place_of a) i l
    ≡ run (turn (parse_expression_from fuel (parse_prefix fuel room)) (parse_prefix fuel room) min left) (place_of a) i l
fuel_never_decides a v room min left i l =
    climb_equation (place_of a) (count (tokens_of a)) (λ j k x h. below a.line (tokens_of a) j k x h) (omega (arith, valid_count a v, fuel_enough)) room min left i l

pub list_fuel_never_decides : (a : Input) → Valid a → (s : Setting) (items : List RegisterListItem) (r : Register) (i l : ℕ)
    → run (list_loop fuel s items r) (place_of a) i l ≡ run (list_item r >>=? next_item (list_loop fuel s) s items) (place_of a) i l
list_fuel_never_decides a v s items r i l =
    list_equation (place_of a) (count (tokens_of a)) (λ j k x h. below a.line (tokens_of a) j k x h) (omega (arith, valid_count a v, fuel_enough)) s items r i l

-- so a list is read as its loop says, however long it is
pub list_loops : (a : Input) → Valid a → (s : Setting) (r : Register) (i l : ℕ)
    → run (parse_register_list s r) (place_of a) i l ≡ run (list_item r >>=? next_item (list_loop fuel s) s []) (place_of a) i l
unfolding parse_register_list
list_loops a v s r i l = list_fuel_never_decides a v s [] r i l
