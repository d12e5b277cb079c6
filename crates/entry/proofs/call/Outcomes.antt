-- What a reading in the call's own stores comes to: the answer and the lent stores are the definition's.
-- Assumes nothing.
use mathlib.Core.Path.{◌≡◌, refl, sym, ◌∙◌, ap, ap₂}
use mathlib.Core.List.{List}
use Rattle.std.specs.Prelude.{Ok}
use Prim.Native.Nat.{ℕ, ◌*◌, ◌/◌, ◌≤◌}
use native.Mathlib.Omega.{arith}
use lib.ListN.{length, take}
use Rattle.std.proofs.lemmas.Option.{none-some}
use Rattle.records.specs.declared.counters.Counters.{Counters}
use Rattle.expressions.specs.Reader.{Reading}
use Rattle.names.specs.Tokens.{count}
use Rattle.operand.specs.Operands.{Operand}
use Rattle.operand.specs.Records.{size_m}
use Rattle.operand.specs.Forms.{record_of}
use Rattle.operand.specs.Layouts.{token_size, numbers_count}
use Rattle.operand.specs.Entry.{Input, tokens_of, place_of, first_of, start_stores_and_limit, reading_at, nodes_after, diagnostics_after, answer_number, outcome, outcome_of, outcome_number_lem}
use Rattle.operand.proofs.Readings.{raised_few}
use Rattle.operand.specs.Conditions.{Valid}
use Rattle.operand.proofs.Conditions.{valid_bounds, valid_count, valid_stores, valid_limit, cursor_bounds, nodes_bound, added_within}
use Rattle.decoding.specs.Tokens.{Decoded, tokens_stored}
use Rattle.layout.specs.Nodes.{nodes_encoded}
use Rattle.layout.specs.Diagnostics.{diagnostics_encoded}
use Rattle.layout.specs.Stored.{nodes_stored, diagnostics_stored}
use Rattle.layout.specs.Promise.{given, result_of, result_at, given_result, EntryPromise}
use Rattle.layout.specs.declared.answer.Answer.{Answer}
use Rattle.operand_code.specs.Reading.{OperandAsks, OperandFits, OperandPromise, nodes_alone}
use Rattle.operand_code.specs.Reading as P
use Rattle.entry.specs.Call.{StoresAsk, answer_of, AnswerTold}
use Rattle.entry.proofs.call.Refusals.{whole_list, valid}
use Rattle.std.specs.Prelude.{Option, Some, None, option_map}
use Rattle.operand.specs.declared.forms.OperandStep.{OperandStep}

-- what a valid input is read as
read_so : (a : Input) (N' D' : List ℕ) (r : Answer) → Valid a
    → r ≡ result_of (reading_at a) (reading_at a).value
    → N' ≡ nodes_after a.layout (reading_at a).value a.nodes
    → D' ≡ diagnostics_after a.layout (reading_at a) a.used a.diagnostics
    → EntryPromise a N' D' (Ok r)
unfolding result_at outcome outcome_of
read_so a N' D' r v h n d =
    let s = reading_at a in
    let e = ap (λ x. given a.layout (Ok x)) h ∙ given_result a.layout s s.value ∙ ap (λ m. (outcome_of a m).answer) (sym v) in
    record {
      answer = e;
      number = ap answer_number e ∙ outcome_number_lem a;
      nodes = n ∙ ap (λ m. (outcome_of a m).nodes) (sym v);
      diagnostics = d ∙ ap (λ m. (outcome_of a m).diagnostics) (sym v);
      value = ap Ok h ∙ ap (result_at a) (sym v);
    }

-- the counters of a reading
abbrev counted : Reading (Option Operand) → Counters
counted s = record { at = s.cursor; end = s.end; nodes = size_m s.value; diagnostics = length s.raised }

answer_is : (s : Reading (Option Operand)) (v : Option Operand) → s.value ≡ v → answer_of (option_map record_of v) (counted s) ≡ result_of s v
unfolding answer_of result_of
answer_is s (Some x) e = rw e refl
answer_is s None e = rw e refl

-- nothing was refused, of n tokens
module _ (a : Input) (M M' N D : List ℕ) (asks : StoresAsk a.layout a.line a.tokens (length M) (length N) (length D)) (good : Decoded a.layout a.line a.tokens M M' 0) {n : ℕ} (counted : n ≡ length a.tokens / token_size a.layout)
    (passed : 0 ≡ first_of (start_stores_and_limit a.layout n a.start a.limit (length a.nodes) (length a.diagnostics) a.used)) where
  v : Valid a
  v = valid a asks.passed M M' asks.tokens good n counted passed

  pub limit_few : a.limit ≤ 128
  limit_few = (valid_limit a v).1

  abbrev s : Reading (Option Operand)
  s = reading_at a

  -- so many numbers the list has
  abbrev long : ℕ
  long = 4 * count (tokens_of a)

  -- they stand at the store's front
  tokens_are : take long M' ≡ tokens_of a
  tokens_are =
      ap (take long) good.numbers ∙ tokens_stored a.layout a.tokens M (whole_list a.layout _ _ asks.passed).0 asks.tokens

  lim : 1 ≤ a.limit
  lim = (valid_limit a v).0

  room : OperandAsks (tokens_of a) N a.start a.limit
  room = record { few = valid_count a v; within = (valid_bounds a v).1; long = asks.nodes; deep = lim }

  raised_room : 10 * length s.raised ≤ length D
  raised_room = omega (arith, raised_few a.limit lim a.mark (place_of a) a.start, cursor_bounds a lim v, asks.diagnostics)

  module _ {N₁ D₁ : List ℕ} (r : Option OperandStep) (told : OperandPromise a.line (take (4 * n) M') N D N₁ D₁ a.start a.mark a.limit r) where
    whole : 4 * n ≡ long
    whole = omega (arith, counted, numbers_count a.layout a.tokens)

    of_list : OperandPromise a.line (tokens_of a) N D N₁ D₁ a.start a.mark a.limit r
    of_list = rw (ap (λ k. take k M') whole ∙ tokens_are) at told

    -- there is room, so that it is read
    pub never_unfit : r ≡ None → ⊥
    never_unfit e = go of_list
      where
        go : OperandPromise a.line (tokens_of a) N D N₁ D₁ a.start a.mark a.limit r → ⊥
        go (P.OperandPromise.read t f q h) = none-some _ (sym e ∙ f)
        go (P.OperandPromise.unread f q n d) = q room

    fits : (t : OperandStep) → r ≡ Some t → OperandFits s N D N₁ D₁ t
    fits t e = go of_list
      where
        go : OperandPromise a.line (tokens_of a) N D N₁ D₁ a.start a.mark a.limit r → OperandFits s N D N₁ D₁ t
        go (P.OperandPromise.read u f q h) = let k : u ≡ t = cc in rw (← k) h
        go (P.OperandPromise.unread f q n d) = absurd (q room)

    pub is_read : (t : OperandStep) → r ≡ Some t → (N' D' : List ℕ) (x : Answer) → AnswerTold a.layout t N₁ D₁ a.nodes a.diagnostics N' D' a.used x → EntryPromise a N' D' (Ok x)
    unfolding nodes_alone diagnostics_after
    is_read t e N' D' x w =
        let f = fits t e in
        read_so a N' D' x v
        (w.answer ∙ ap₂ answer_of f.operand f.counters ∙ answer_is s s.value refl)
        (w.nodes
        ∙ ap₂ (λ m c. nodes_encoded a.layout m c.nodes a.nodes) f.nodes f.counters
        ∙ nodes_stored a.layout s.value _ a.nodes (omega (arith, nodes_bound a lim, cursor_bounds a lim v, valid_bounds a v)) (valid_stores a v).0)
        (w.diagnostics
        ∙ ap₂ (λ m c. diagnostics_encoded a.layout m c.diagnostics a.diagnostics a.used) f.diagnostics f.counters
        ∙ diagnostics_stored a.layout s.raised D a.diagnostics a.used raised_room (added_within a lim v))
