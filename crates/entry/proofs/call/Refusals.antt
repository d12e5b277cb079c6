-- A refusal's number, part by part, and an input that none of the parts refuses.
-- Assumes nothing.
use mathlib.Core.Path.{◌≡◌, refl, sym, ◌∙◌, ap}
use mathlib.Core.Bool.{Bool, true, false, not}
use mathlib.Core.List.{List}
use Rattle.std.specs.Prelude.{Err}
use Prim.Native.Nat.{ℕ, suc, ◌+◌, ◌*◌, ◌/◌, ◌%◌, ◌≤◌}
use native.Mathlib.Omega.{arith}
use borrow.Author.Tests.{eqb-true, ltb-false, not-false, le-leb}
use lib.Dec.{eqb, ltb}
use lib.ListN.{length}
use Rattle.names.specs.Choice.{pick, both, either}
use Rattle.names.specs.Laws.{either_first, either_second}
use Rattle.names.specs.Tokens.{count}
use Rattle.operand.specs.RefusalNumbers
use Rattle.operand.specs.declared.layouts.Layout.{Layout}
use Rattle.operand.specs.Layouts.{token_size, token_numbers, numbers_whole, numbers_count, longest_line, most_tokens, most_tokens_lem}
use Rattle.operand.specs.Entry.{Input, tokens_of, foreign, good_tokens, line_and_list, start_stores_and_limit, first_of, refusal, answer_number, outcome, outcome_of, outcome_number_lem}
use Rattle.operand.specs.Entry as E
use Rattle.operand.specs.declared.refusals.Refusal.{Refusal}
use Rattle.operand.specs.Conditions.{Valid}
use Rattle.decoding.specs.Tokens.{decodes, Decoded}
use Rattle.refusals.specs.Refusals.{or_else, refusal_is}
use Rattle.entry.specs.Call.{StoresAsk}
use Rattle.layout.specs.Promise.{given, result_at, EntryPromise}

-- ---- a line and a list that are not refused

-- whole tokens, as many as the layout allows
pub whole_list : (w : Layout) (L T : List ℕ) → first_of (line_and_list w L T) ≡ 0
    → (length (token_numbers w T) ≡ 4 * count (token_numbers w T)) × (count (token_numbers w T) ≤ 1023)
unfolding first_of line_and_list
whole_list w L T h =
    let odd : Bool = not (eqb (length T % token_size w) 0) in
    let g = go (ltb (longest_line w) (length L)) (foreign L) (either odd (ltb (most_tokens w) (length T / token_size w))) h in (
      numbers_whole w T (eqb-true (length T % token_size w) 0 (not-false _ (either_first odd _ g))),
      omega (arith, ltb-false (most_tokens w) (length T / token_size w) (either_second odd _ g), numbers_count w T, most_tokens_lem w),
    )
  where
    go : (a b c : Bool) → pick a RefusalNumbers.long_line (pick b RefusalNumbers.foreign_byte (pick c RefusalNumbers.bad_list 0)) ≡ 0 → c ≡ false
    go true b c e = absurd (omega arith)
    go false true c e = absurd (omega arith)
    go false false true e = absurd (omega arith)
    go false false false e = refl

-- ---- stores with room for a list of at most n tokens

pub asked : {w : Layout} {L T : List ℕ} {m : ℕ} (n : ℕ) → 0 ≡ first_of (line_and_list w L T) → m ≡ length T / token_size w → m ≤ n → StoresAsk w L T (4 * n) (10 * n) (10 * (n + 1))
asked {w} {L} {T} n passed counted few =
    let same = numbers_count w T in
    record { passed = sym passed; tokens = omega arith; nodes = omega arith; diagnostics = omega arith }

-- the numbers of all tokens have room
pub list_fits : {w : Layout} {L T : List ℕ} {list records reports n : ℕ} → StoresAsk w L T list records reports → n ≡ length T / token_size w → 4 * n ≤ list
list_fits {w} {T = T} asks counted = omega (arith, asks.tokens, numbers_count w T)

-- of any list that is not refused
pub asked_most : {w : Layout} {L T : List ℕ} → 0 ≡ first_of (line_and_list w L T) → StoresAsk w L T 4092 10230 10240
asked_most {w} {L} {T} passed =
    let few = (whole_list w L T (sym passed)).1 in
    record { passed = sym passed; tokens = omega arith; nodes = omega arith; diagnostics = omega arith }

-- with room for all, the tokens are good where they are decoded
decoded_good : (w : Layout) (L T M M' : List ℕ) (n : ℕ) → Decoded w L T M M' n → 4 * count (token_numbers w T) ≤ length M
    → n ≡ pick (good_tokens L 0 (token_numbers w T)) 0 RefusalNumbers.bad_token
unfolding decodes
decoded_good w L T M M' n d room =
    let X = token_numbers w T in
    d.refusal ∙ ap (λ t. pick (both t (good_tokens L 0 X)) 0 RefusalNumbers.bad_token) (le-leb (4 * count X) (length M) room)

-- ---- the refusals

module _ (a : Input) where
  refused : (k : Refusal) → refusal a ≡ RefusalNumbers.number k → EntryPromise a a.nodes a.diagnostics (Err k)
  unfolding given result_at outcome outcome_of
  refused k e =
      let n = RefusalNumbers.number_more k in
      let f : refusal a ≡ suc n.0 = e ∙ n.1 in
      record {
        answer = ap E.refused n.1 ∙ sym (ap (λ m. (outcome_of a m).answer) f);
        number = sym (ap answer_number (ap (λ m. (outcome_of a m).answer) f ∙ ap E.refused (sym n.1))) ∙ outcome_number_lem a;
        nodes = sym (ap (λ m. (outcome_of a m).nodes) f);
        diagnostics = sym (ap (λ m. (outcome_of a m).diagnostics) f);
        value = sym (ap (result_at a) f ∙ ap (λ m. Err (RefusalNumbers.numbered m)) (sym n.1) ∙ ap Err (RefusalNumbers.number_numbered k));
      }

  abbrev first : ℕ
  first = first_of (line_and_list a.layout a.line a.tokens)

  abbrev last : ℕ
  last = first_of (start_stores_and_limit a.layout (count (tokens_of a)) a.start a.limit (length a.nodes) (length a.diagnostics) a.used)

  -- the number of the refusal of a token
  abbrev second : ℕ
  second = pick (good_tokens a.line 0 (tokens_of a)) 0 RefusalNumbers.bad_token

  or_else_first : (k : Refusal) (n m : ℕ) → n ≡ RefusalNumbers.number k → or_else n m ≡ RefusalNumbers.number k
  or_else_first k n m e = let more = RefusalNumbers.number_more k in rw (e, more.1) refl

  pub line_refused : {k : Refusal} → RefusalNumbers.number k ≡ first → EntryPromise a a.nodes a.diagnostics (Err k)
  line_refused {k} e = refused k (refusal_is a ∙ or_else_first k first _ (sym e))

  module _ (passed : first ≡ 0) where
    by : refusal a ≡ or_else second last
    by = refusal_is a ∙ rw passed (go (good_tokens a.line 0 (tokens_of a)))
      where
        go : (b : Bool) → pick b last RefusalNumbers.bad_token ≡ or_else (pick b 0 RefusalNumbers.bad_token) last
        go true = refl
        go false = refl

    module _ (M M' : List ℕ) (room : 4 * count (tokens_of a) ≤ length M) where
      pub token_refused : {k : Refusal} → Decoded a.layout a.line a.tokens M M' (RefusalNumbers.number k) → EntryPromise a a.nodes a.diagnostics (Err k)
      token_refused {k} d = refused k (by ∙ or_else_first k second last (sym (decoded_good _ _ _ _ _ _ d room)))

      -- the tokens are good, and so many
      module _ (good : Decoded a.layout a.line a.tokens M M' 0) (n : ℕ) (counted : n ≡ length a.tokens / token_size a.layout) where
        abbrev third : ℕ
        third = first_of (start_stores_and_limit a.layout n a.start a.limit (length a.nodes) (length a.diagnostics) a.used)

        good_third : refusal a ≡ third
        good_third = by ∙ rw (← decoded_good _ _ _ _ _ _ good room, counted, ← numbers_count a.layout a.tokens) refl

        pub store_refused : {k : Refusal} → RefusalNumbers.number k ≡ third → EntryPromise a a.nodes a.diagnostics (Err k)
        store_refused {k} e = refused k (good_third ∙ sym e)

        pub valid : 0 ≡ third → Valid a
        valid e = good_third ∙ sym e
