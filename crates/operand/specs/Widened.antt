-- Both layouts, of which document 02 says: "A line that satisfies both has the same answer in both, layout and refusal 20 aside."
-- Assumes nothing.
use Rattle.std.specs.Prelude.{◌≡◌, List, [], ◌∷◌, ℕ, ◌+◌, ◌/◌, ◌%◌, ◌≤◌, length}
use Rattle.names.specs.Tokens.{count}
use Rattle.operand.specs.Layouts.{token_size, diagnostic_size, longest_line, most_tokens, node_store, free_records}
use Rattle.operand.specs.Entry.{Input, tokens_of}

-- ---- two calls with the same line, tokens, start, mark and limit

-- whatever their layouts; the tokens by their numbers
pub record SameGiven (a b : Input) : Type 0 where
  pub line : a.line ≡ b.line
  pub tokens : tokens_of a ≡ tokens_of b
  pub start : a.start ≡ b.start
  pub mark : a.mark ≡ b.mark
  pub limit : a.limit ≡ b.limit

-- what a call has that satisfies its layout: refusals 1, 3, 6 and 7 do not apply
pub record Satisfies (a : Input) : Type 0 where
  pub line : length a.line ≤ longest_line a.layout
  pub whole : length a.tokens % token_size a.layout ≡ 0
  pub few : count (tokens_of a) ≤ most_tokens a.layout
  pub nodes : node_store a.layout ≤ length a.nodes
  pub diagnostics : a.used + free_records a.layout ≤ length a.diagnostics / diagnostic_size a.layout

-- ---- a narrow call in the wide layout

-- a list with two bytes for each offset. A rest of fewer than four bytes is no token
unfoldable pub widened : List ℕ → List ℕ
widened [] = []
widened (k ∷ []) = []
widened (k ∷ d ∷ []) = []
widened (k ∷ d ∷ s ∷ []) = []
widened (k ∷ d ∷ s ∷ e ∷ ts) = k ∷ d ∷ s ∷ 0 ∷ e ∷ 0 ∷ widened ts
