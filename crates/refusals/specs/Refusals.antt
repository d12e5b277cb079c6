-- The number of the refusal, from the three parts in which the code looks for it.
-- Assumes nothing.
use Rattle.std.specs.Prelude.{◌≡◌, refl, Bool, true, false, not, List, ◌∷◌, ℕ, zero, suc, ◌/◌, ◌%◌, eqb, ltb, length}
use Rattle.std.proofs.Common.{◌∙◌, ap}
use Rattle.names.specs.Choice.{pick, either}
use Rattle.names.specs.Tokens.{count}
use Rattle.operand.specs.RefusalNumbers
use Rattle.operand.specs.Layouts.{token_size, longest_line, most_tokens}
use Rattle.operand.specs.Entry.{Input, tokens_of, foreign, good_tokens, Check, line_and_list, start_stores_and_limit, refusals, first_of, refusal}

-- the first number that is not 0
abbrev pub or_else : ℕ → ℕ → ℕ
or_else zero k = k
or_else (suc n) k = suc n

-- the three of the line and the list, and what follows them
parted : (a b c : Bool) (k : ℕ)
    → pick a RefusalNumbers.long_line (pick b RefusalNumbers.foreign_byte (pick c RefusalNumbers.bad_list k))
    ≡ or_else (pick a RefusalNumbers.long_line (pick b RefusalNumbers.foreign_byte (pick c RefusalNumbers.bad_list 0))) k
parted true b c k = refl
parted false true c k = refl
parted false false true k = refl
parted false false false k = refl

-- of the line and the list; of the tokens; of the start, the stores and the limit
pub refusal_is : (a : Input)
    → refusal a
    ≡ or_else (first_of (line_and_list a.layout a.line a.tokens))
    (pick (good_tokens a.line 0 (tokens_of a)) (first_of (start_stores_and_limit a.layout (count (tokens_of a)) a.start a.limit (length a.nodes) (length a.diagnostics) a.used)) RefusalNumbers.bad_token)
unfolding refusal refusals first_of line_and_list
refusal_is a =
    parted (ltb (longest_line a.layout) (length a.line)) (foreign a.line) (either (not (eqb (length a.tokens % token_size a.layout) 0)) (ltb (most_tokens a.layout) (length a.tokens / token_size a.layout))) _
    ∙ ap (or_else (first_of (line_and_list a.layout a.line a.tokens)))
    (last (good_tokens a.line 0 (tokens_of a)) (start_stores_and_limit a.layout (count (tokens_of a)) a.start a.limit (length a.nodes) (length a.diagnostics) a.used))
  where
    last : (b : Bool) (rs : List Check) → first_of ((RefusalNumbers.bad_token, not b) ∷ rs) ≡ pick b (first_of rs) RefusalNumbers.bad_token
    last true rs = refl
    last false rs = refl
