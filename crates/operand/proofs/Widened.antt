-- Both layouts, of which document 02 says: "A line that satisfies both has the same answer in both, layout and refusal 20 aside."
-- Assumes nothing.
use Rattle.std.specs.Prelude.{◌≡◌, refl, not, List, [], ◌∷◌, ℕ, ◌+◌, ◌*◌, ◌/◌, ◌%◌, ◌≤◌, ltb, length}
use Rattle.std.proofs.Common.{sym, ◌∙◌, ap, ap₂, arith, le-ltb, eq-eqb}
use Rattle.names.specs.Choice.{pick, either}
use Rattle.names.specs.Tokens.{count}
use Rattle.operand.specs.declared.layouts.Layout.{Layout}
use Rattle.operand.specs.Layouts.{token_size, diagnostic_size, joined_tokens, token_numbers, numbers_count, longest_line, most_tokens, node_store, free_records}
use Rattle.operand.specs.Operand.{reading_of}
use Rattle.operand.specs.RefusalNumbers
use Rattle.operand.specs.Entry.{Input, call, tokens_of, place_of, highest_limit, foreign, good_tokens, refusal, refusal_named, reading_at}
use Rattle.names.specs.Places.{place}
use Rattle.operand.specs.Widened.{SameGiven, Satisfies, widened}

-- the reading is the same
pub reading_same : (a b : Input) → SameGiven a b → reading_at a ≡ reading_at b
reading_same a b h =
    ap₂ (λ L T. reading_of a.limit a.mark (place L T) a.start) h.line h.tokens
    ∙ ap₂ (λ m i. reading_of a.limit m (place_of b) i) h.mark h.start
    ∙ ap (λ n. reading_of n b.mark (place_of b) b.start) h.limit

-- what is left to refuse: a foreign byte, a bad token, a bad start, a bad limit
abbrev given_refusal : List ℕ → List ℕ → ℕ → ℕ → ℕ
given_refusal L T start limit =
    pick (foreign L) RefusalNumbers.foreign_byte
    (pick (not (good_tokens L 0 T)) RefusalNumbers.bad_token
    (pick (ltb (count T) start) RefusalNumbers.bad_start (pick (either (ltb limit 1) (ltb highest_limit limit)) RefusalNumbers.bad_limit 0)))

left_to_refuse : (a : Input) → Satisfies a → refusal a ≡ given_refusal a.line (tokens_of a) a.start a.limit
left_to_refuse a s =
    let w = a.layout in
    let list : length a.tokens / token_size w ≤ most_tokens w = omega (arith, s.few, numbers_count w a.tokens) in
    refusal_named a
    ∙ rw (le-ltb (longest_line w) (length a.line) s.line, eq-eqb (length a.tokens % token_size w) 0 s.whole, le-ltb (most_tokens w) (length a.tokens / token_size w) list, le-ltb (length a.nodes) (node_store w) s.nodes, le-ltb (length a.diagnostics / diagnostic_size w) (a.used + free_records w) s.diagnostics) refl

-- so is the refusal, or that there is none
pub refusal_same : (a b : Input) → SameGiven a b → Satisfies a → Satisfies b → refusal a ≡ refusal b
refusal_same a b h s t =
    left_to_refuse a s
    ∙ ap₂ (λ L T. given_refusal L T a.start a.limit) h.line h.tokens
    ∙ ap₂ (λ i n. given_refusal b.line (tokens_of b) i n) h.start h.limit
    ∙ sym (left_to_refuse b t)

-- each token stays as it is
pub widened_numbers : (T : List ℕ) → length T % 4 ≡ 0 → token_numbers Layout.Wide (widened T) ≡ token_numbers Layout.Narrow T
unfolding token_numbers joined_tokens widened
widened_numbers [] h = refl
widened_numbers (k ∷ []) h = absurd (omega arith)
widened_numbers (k ∷ d ∷ []) h = absurd (omega arith)
widened_numbers (k ∷ d ∷ s ∷ []) h = absurd (omega arith)
widened_numbers (k ∷ d ∷ s ∷ e ∷ ts) h =
    let f : s + 256 * 0 ≡ s = omega arith in
    let g : e + 256 * 0 ≡ e = omega arith in
    let r = widened_numbers ts (omega arith) in
    rw (f, g, r) refl

widened_whole : (T : List ℕ) → length (widened T) % 6 ≡ 0
unfolding widened
widened_whole [] = refl
widened_whole (k ∷ []) = refl
widened_whole (k ∷ d ∷ []) = refl
widened_whole (k ∷ d ∷ s ∷ []) = refl
widened_whole (k ∷ d ∷ s ∷ e ∷ ts) = omega (arith, widened_whole ts)

widened_line : {n : ℕ} → n ≤ longest_line Layout.Narrow → n ≤ longest_line Layout.Wide
unfolding longest_line
widened_line h = omega arith

widened_few : {n : ℕ} → n ≤ most_tokens Layout.Narrow → n ≤ most_tokens Layout.Wide
unfolding most_tokens
widened_few h = omega arith

-- the same line, start, mark and limit, in both layouts, each with stores of its own
module _ (L T : List ℕ) (start mark limit : ℕ) (N D : List ℕ) (used : ℕ) (N' D' : List ℕ) (used' : ℕ) where
  abbrev pub narrow_call : Input
  narrow_call = call Layout.Narrow L T start mark limit N D used

  abbrev pub wide_call : Input
  wide_call = call Layout.Wide L (widened T) start mark limit N' D' used'

  widened_given : length T % 4 ≡ 0 → SameGiven narrow_call wide_call
  widened_given whole = record { line = refl; tokens = sym (widened_numbers T whole); start = refl; mark = refl; limit = refl }

  -- a narrow call that satisfies its layout satisfies the wide one, with stores that are long enough
  pub widened_satisfies : Satisfies narrow_call → node_store Layout.Wide ≤ length N' → used' + free_records Layout.Wide ≤ length D' / diagnostic_size Layout.Wide → Satisfies wide_call
  widened_satisfies s nodes diagnostics = record {
    line = widened_line s.line;
    whole = widened_whole T;
    few = widened_few (rw (widened_numbers T s.whole) s.few);
    nodes = nodes;
    diagnostics = diagnostics;
  }

  -- "A line that satisfies both has the same answer in both": it is refused by the same number, or by none, and read alike
  pub same_in_both : Satisfies narrow_call → Satisfies wide_call → (refusal narrow_call ≡ refusal wide_call) × (reading_at narrow_call ≡ reading_at wide_call)
  same_in_both s t = let h = widened_given s.whole in (refusal_same narrow_call wide_call h s t, reading_same narrow_call wide_call h)
