-- What a reading asks of its counters and its stores, so that no number overflows and every node has its place.
-- Assumes nothing.
use Rattle.std.specs.Prelude.{List, ℕ, ◌+◌, ◌*◌, ◌≤◌, length}
use Rattle.names.specs.Tokens.{count}
use Rattle.records.specs.declared.counters.Counters.{Counters}

-- 1,023 tokens are the most that any layout has, so that 16 bits count tokens, nodes and diagnostics.
-- k nodes stand at the least; a diagnostic may be counted for each token that is left, and d more
pub record Room (T : List ℕ) (c : Counters) (k d : ℕ) : Type 0 where
  pub few : count T ≤ 1023
  pub within : c.at ≤ count T
  pub stand : k ≤ c.nodes
  pub seen_fit : c.diagnostics + count T + d ≤ 65535 + c.at

-- and the store N has a record for a node for each token that is left, and for n more
pub record NodeRoom (T N : List ℕ) (c : Counters) (k n d : ℕ) : Type 0 where
  pub room : Room T c k d
  pub nodes_fit : c.nodes + count T + n ≤ 65535 + c.at
  pub nodes_long : 10 * c.nodes + 10 * count T + 10 * n ≤ length N + 10 * c.at
