-- The call: what is lent and given, the refusals, and what comes back, with every byte of both stores.
-- Assumes nothing.
use Rattle.std.specs.Prelude.{◌≡◌, refl, Bool, true, false, not, List, [], ◌∷◌, ◌++◌, ℕ, zero, suc, ◌+◌, ◌-◌, ◌*◌, ◌/◌, ◌%◌, eqb, leb, ltb, length, take, drop, replicate, Option, Some, None}
use Prim.Native.String.{String}
use Rattle.std.proofs.Common.{arith, ne_eqb}
use Rattle.names.specs.Choice.{pick, both, either}
use Rattle.names.specs.Kinds
use Rattle.names.specs.Tokens.{count, detail_defined}
use Rattle.names.specs.Places.{Place, place, text_of}
use Rattle.names.specs.Letters.{bytes, same}
use Rattle.expressions.specs.Reader.{Reading}
use Rattle.operand.specs.RefusalNumbers
use Rattle.operand.specs.Operands.{Operand}
use Rattle.operand.specs.Operand.{reading_of}
use Rattle.operand.specs.Records.{size_m}
use Rattle.operand.specs.Forms.{mask_o}
use Rattle.operand.specs.declared.layouts.Layout.{Layout}
use Rattle.operand.specs.Layouts.{token_size, node_size, diagnostic_size, longest_line, most_tokens, node_store, free_records, token_numbers}
use Rattle.operand.specs.Layout.{nodes_laid, diagnostics_laid, operand_record, operand_number, no_operand_number, refused_number}

-- what a call lends and gives: a layout, a line, tokens, a start, a symbol mark, a nesting limit, a node store, a diagnostic list with its used count
pub record Input : Type 0 where
  pub layout : Layout
  pub line : List ℕ
  pub tokens : List ℕ
  pub start : ℕ
  pub mark : ℕ
  pub limit : ℕ
  pub nodes : List ℕ
  pub diagnostics : List ℕ
  pub used : ℕ

abbrev pub call : Layout → List ℕ → List ℕ → ℕ → ℕ → ℕ → List ℕ → List ℕ → ℕ → Input
call w L T start mark limit N D used = record { layout = w; line = L; tokens = T; start = start; mark = mark; limit = limit; nodes = N; diagnostics = D; used = used }

-- the list's numbers, four a token
abbrev pub tokens_of : Input → List ℕ
tokens_of a = token_numbers a.layout a.tokens

-- what stands at each place
abbrev pub place_of : Input → ℕ → Place
place_of a j = place a.line (tokens_of a) j

-- the highest nesting limit, shut so that nothing computes it
unfoldable pub highest_limit : ℕ
highest_limit = 128

pub highest_limit_lem : highest_limit ≡ 128
unfolding highest_limit
highest_limit_lem = refl

-- ---- refusals

unfoldable pub foreign : List ℕ → Bool
foreign [] = false
foreign (c ∷ cs) = either (either (ltb c 32) (ltb 126 c)) (foreign cs)

-- the signs, from kind 5 (`#`) on
abbrev pub signs : List String
signs =
    "#" ∷ "," ∷ "(" ∷ ")" ∷ "[" ∷ "]" ∷ "{" ∷ "}" ∷ ":" ∷ "+" ∷ "-" ∷ "*" ∷ "/" ∷ "\\" ∷ "&" ∷ "!" ∷ "|" ∷ "^" ∷ "~" ∷ "<<" ∷ ">>" ∷ []

-- a kind beyond the signs may be spelled in any way
unfoldable pub spelled_as : List String → ℕ → List ℕ → Bool
spelled_as [] n x = true
spelled_as (w ∷ ws) zero x = same x (bytes w)
spelled_as (w ∷ ws) (suc n) x = spelled_as ws n x

-- a number of this base begins with its prefix: `$`, `%`, `@`
unfoldable pub prefixed : ℕ → List ℕ → Bool
prefixed base [] = eqb base 0
prefixed base (c ∷ cs) =
    either (eqb base 0) (eqb c (pick (eqb base 1) 36 (pick (eqb base 2) 37 64)))

-- by its kind: a number has its prefix, one of kind 0 to 4 is not empty, a sign is spelled so
unfoldable pub well_spelled : ℕ → ℕ → List ℕ → Bool
well_spelled kind detail x =
    pick (leb kind Kinds.size_suffix)
    (both (not (eqb (length x) 0)) (either (not (eqb kind Kinds.number)) (prefixed detail x)))
    (spelled_as signs (kind - Kinds.hash) x)

-- a token behind one that ends at p
unfoldable pub good_token : List ℕ → ℕ → ℕ → ℕ → ℕ → ℕ → Bool
good_token L p kind detail start end =
    both (detail_defined kind detail)
    (both (leb start end) (both (leb end (length L)) (both (leb p start) (well_spelled kind detail (text_of L start end)))))

-- each token is good, from the one behind p on
unfoldable pub good_tokens : List ℕ → ℕ → List ℕ → Bool
good_tokens L p [] = true
good_tokens L p (k ∷ []) = true
good_tokens L p (k ∷ d ∷ []) = true
good_tokens L p (k ∷ d ∷ s ∷ []) = true
good_tokens L p (k ∷ d ∷ s ∷ e ∷ ts) = both (good_token L p k d s e) (good_tokens L e ts)

-- the number of a refusal, and whether its condition holds, which is looked at alone
abbrev pub Check : Type 0
Check = ℕ × Bool

-- long line, foreign byte, bad list
unfoldable pub line_and_list : Layout → List ℕ → List ℕ → List Check
line_and_list w L T =
    (RefusalNumbers.long_line, ltb (longest_line w) (length L))
    ∷ (RefusalNumbers.foreign_byte, foreign L)
    ∷ (RefusalNumbers.bad_list, either (not (eqb (length T % token_size w) 0)) (ltb (most_tokens w) (length T / token_size w)))
    ∷ []

-- bad start, short nodes, short diagnostics, bad limit, by the tokens' number and the stores' lengths
unfoldable pub start_stores_and_limit : Layout → ℕ → ℕ → ℕ → ℕ → ℕ → ℕ → List Check
start_stores_and_limit w tokens start limit nodes diagnostics used =
    (RefusalNumbers.bad_start, ltb tokens start)
    ∷ (RefusalNumbers.short_nodes, ltb nodes (node_store w))
    ∷ (RefusalNumbers.short_diagnostics, ltb (diagnostics / diagnostic_size w) (used + free_records w))
    ∷ (RefusalNumbers.bad_limit, either (ltb limit 1) (ltb highest_limit limit))
    ∷ []

-- the table, in the order in which it is looked through
unfoldable pub refusals : Input → List Check
refusals a =
    line_and_list a.layout a.line a.tokens
    ++ ((RefusalNumbers.bad_token, not (good_tokens a.line 0 (tokens_of a)))
    ∷ start_stores_and_limit a.layout (count (tokens_of a)) a.start a.limit (length a.nodes) (length a.diagnostics) a.used)

-- the number of the first that holds, and 0 if none does
unfoldable pub first_of : List Check → ℕ
first_of [] = 0
first_of (r ∷ rs) = pick r.1 r.0 (first_of rs)

-- the number of the refusal, 0 for none
unfoldable pub refusal : Input → ℕ
refusal a = first_of (refusals a)

-- each by its name
pub refusal_named : (a : Input)
    → refusal a
    ≡ pick (ltb (longest_line a.layout) (length a.line)) RefusalNumbers.long_line
    (pick (foreign a.line) RefusalNumbers.foreign_byte
    (pick (either (not (eqb (length a.tokens % token_size a.layout) 0)) (ltb (most_tokens a.layout) (length a.tokens / token_size a.layout))) RefusalNumbers.bad_list
    (pick (not (good_tokens a.line 0 (tokens_of a))) RefusalNumbers.bad_token
    (pick (ltb (count (tokens_of a)) a.start) RefusalNumbers.bad_start
    (pick (ltb (length a.nodes) (node_store a.layout)) RefusalNumbers.short_nodes
    (pick (ltb (length a.diagnostics / diagnostic_size a.layout) (a.used + free_records a.layout)) RefusalNumbers.short_diagnostics
    (pick (either (ltb a.limit 1) (ltb highest_limit a.limit)) RefusalNumbers.bad_limit 0)))))))
unfolding refusal refusals line_and_list start_stores_and_limit first_of
refusal_named a = refl

-- ---- the answer

-- an operand by its record, or none, with the cursor, the nodes used, the diagnostics added and the mask; or a refusal by its number
pub data Answer : Type 0 where
  operand : List ℕ → ℕ → ℕ → ℕ → ℕ → Answer
  no_operand : ℕ → ℕ → Answer
  refused : ℕ → Answer

-- document 01's number of each case
unfoldable pub answer_number : Answer → ℕ
answer_number (operand x cursor n d mask) = operand_number
answer_number (no_operand cursor d) = no_operand_number
answer_number (refused k) = refused_number

-- the answer, and both stores afterwards
pub record Outcome : Type 0 where
  pub answer : Answer
  pub nodes : List ℕ
  pub diagnostics : List ℕ

-- the reading of an input, at its nesting limit
abbrev pub reading_at : Input → Reading (Option Operand)
reading_at a = reading_of a.limit a.mark (place_of a) a.start

unfoldable pub answer_of : Layout → Reading (Option Operand) → Option Operand → Answer
answer_of w r (Some x) = operand (operand_record w x) r.cursor (size_m (Some x)) (length r.raised) (mask_o x)
answer_of w r None = no_operand r.cursor (length r.raised)

-- the nodes' records, zeros up to the store's last record, and the bytes past them
unfoldable pub nodes_after : Layout → Option Operand → List ℕ → List ℕ
nodes_after w v N = nodes_laid w v ++ (replicate (node_store w - node_size w * size_m v) 0 ++ drop (node_store w) N)

-- the used records, the added ones, and the bytes past them
unfoldable pub diagnostics_after : Layout → Reading (Option Operand) → ℕ → List ℕ → List ℕ
diagnostics_after w r used D = take (diagnostic_size w * used) D ++ (diagnostics_laid w r.raised ++ drop (diagnostic_size w * (used + length r.raised)) D)

-- a refusal leaves both stores as they were
unfoldable pub outcome_of : Input → ℕ → Outcome
outcome_of a zero =
    let r = reading_at a in
    let w = a.layout in
    record { answer = answer_of w r r.value; nodes = nodes_after w r.value a.nodes; diagnostics = diagnostics_after w r a.used a.diagnostics }
outcome_of a (suc k) = record { answer = refused (suc k); nodes = a.nodes; diagnostics = a.diagnostics }

unfoldable pub outcome : Input → Outcome
outcome a = outcome_of a (refusal a)

-- the number of the case, by the refusal and by what is read
unfoldable pub read_number : Option Operand → ℕ
read_number (Some x) = operand_number
read_number None = no_operand_number

unfoldable pub outcome_number : Input → ℕ
outcome_number a = pick (eqb (refusal a) 0) (read_number (reading_at a).value) refused_number

pub outcome_number_lem : (a : Input) → answer_number (outcome a).answer ≡ outcome_number a
unfolding answer_number answer_of outcome outcome_of read_number outcome_number
outcome_number_lem a = go (refusal a)
  where
    at : (r : Reading (Option Operand)) (v : Option Operand) → answer_number (answer_of a.layout r v) ≡ read_number v
    at r (Some x) = refl
    at r None = refl

    go : (k : ℕ) → answer_number (outcome_of a k).answer ≡ pick (eqb k 0) (read_number (reading_at a).value) refused_number
    go zero = at (reading_at a) (reading_at a).value
    go (suc k) = rw (ne_eqb (suc k) 0 (λ e. omega arith))
