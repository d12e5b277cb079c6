-- What the public functions promise: the answer, and every number of both stores.
-- Assumes nothing.
use Rattle.std.specs.Prelude.{◌≡◌, Option, Some, None, Bool, true, false, List, ◌++◌, ℕ, ◌+◌, ◌-◌, ◌*◌, ◌≤◌, length, take, drop, replicate}
use Rattle.names.specs.Tokens.{count}
use Rattle.names.specs.Places.{place}
use Rattle.expressions.specs.Trees.{Expr, span_e, with_span, size}
use Rattle.records.specs.declared.spans.Span.{Span}
use Rattle.records.specs.declared.counters.Counters.{Counters}
use Rattle.records.specs.declared.progress.Progress.{Progress}
use Rattle.expressions.specs.declared.source.Source.{Source}
use Rattle.expressions.specs.Reader.{Reading, run}
use Rattle.expressions.specs.Expressions.{Term, parse_expression, expression_from}
use Rattle.expressions.specs.Records.{nodes}
use Rattle.records.specs.Stores.{added}
use Rattle.records.specs.Rooms.{NodeRoom}
use Rattle.expressions_code.specs.Terms.{Parsed, parsed_of, size_t, nodes_t}
use Rattle.expressions_code.specs.Roots.{rooted}

-- whether there is room for a reading, with k nodes at the least
pub data RoomTold (T N : List ℕ) (c : Counters) (k : ℕ) (r : Bool) : Type 0 where
  enough : r ≡ true → NodeRoom T N c k 0 1 → RoomTold T N c k r
  lacking : r ≡ false → (NodeRoom T N c k 0 1 → ⊥) → RoomTold T N c k r

-- the node store N with the numbers b of its first n records, zeros up to the m-th, and the numbers past them as they were
unfoldable pub filled : List ℕ → ℕ → ℕ → List ℕ → List ℕ
filled b n m N = (b ++ replicate (10 * m - 10 * n) 0) ++ drop (10 * m) N

-- how many records a reading from the counters c to r may have written: one for each consumed token
abbrev pub spent : Counters → Counters → ℕ
spent c r = c.nodes + (r.at - c.at)

-- the counters behind a reading, with n nodes in the store and d diagnostics before it
abbrev pub counters_of : {A : Type 0} → Reading A → ℕ → ℕ → Counters
counters_of s n d = record { at = s.cursor; end = s.end; nodes = n; diagnostics = d + length s.raised }

-- ---- an expression at the cursor

pub record StepPromise (s : Reading Term) (T N D N' D' : List ℕ) (c : Counters) (v : Parsed) (r : Counters) : Type 0 where
  pub answer : v ≡ parsed_of s.value
  pub counters : r ≡ counters_of s (c.nodes + size_t s.value) c.diagnostics
  pub nodes : N' ≡ filled (take (10 * c.nodes) N ++ nodes_t c.nodes s.value) (c.nodes + size_t s.value) (spent c r) N
  pub diagnostics : D' ≡ added D c.diagnostics s.raised
  -- which bounds what is left of the stores
  pub on : c.at ≤ r.at
  pub within : r.at ≤ count T
  pub few : r.nodes + c.at ≤ c.nodes + r.at
  pub quiet : r.diagnostics + c.at ≤ c.diagnostics + r.at + 1

abbrev pub ExpressionFits : List ℕ → List ℕ → List ℕ → List ℕ → List ℕ → List ℕ → Counters → ℕ → Parsed → Counters → Type 0
ExpressionFits L T N D N' D' c limit v r = StepPromise (run (parse_expression limit) (place L T) c.at c.end) T N D N' D' c v r

-- where there is room for a reading, the answer and both stores are the reading's; else nothing is read and nothing moves
pub data ExpressionPromise (L T N D N' D' : List ℕ) (c : Counters) (limit : ℕ) (x : Option Parsed) (r : Counters) : Type 0 where
  read : (v : Parsed) → x ≡ Some v → NodeRoom T N c 0 0 1 → ExpressionFits L T N D N' D' c limit v r → ExpressionPromise L T N D N' D' c limit x r
  unread : x ≡ None → (NodeRoom T N c 0 0 1 → ⊥) → N' ≡ N → D' ≡ D → r ≡ c → ExpressionPromise L T N D N' D' c limit x r

abbrev pub ExpressionPromised : Source → List ℕ → Progress → List ℕ → Progress → Option Parsed → Type 0
ExpressionPromised a N o N' o' x = ExpressionPromise a.line.now a.tokens.now N o.diagnostics.now N' o'.diagnostics.now o.counters a.setting.limit x o'.counters

-- ---- and one that goes on from a group

-- the climb s of a left side of k nodes, the first of which has the number b, behind the numbers P of all records that count
pub record ChainPromise (s : Reading Expr) (N D N' D' P : List ℕ) (b k d m : ℕ) (v : Span) (r : Counters) : Type 0 where
  pub answer : v ≡ span_e s.value
  pub counters : r ≡ counters_of s (b + size s.value) d
  pub nodes : N' ≡ filled (P ++ drop (10 * k) (nodes b s.value)) (b + size s.value) m N
  pub diagnostics : D' ≡ added D d s.raised

-- whatever tree e the left side is: the records that are added depend on its span, the group's, and on the count alone
pub record FromFits (L T N D N' D' : List ℕ) (c : Counters) (group : Span) (limit : ℕ) (v : Span) (r : Counters) : Type 0 where
  pub told : (b : ℕ) (e : Expr) → c.nodes ≡ b + size e
      → ChainPromise (run (expression_from limit (with_span e group)) (place L T) c.at c.end) N D N' D' (take (10 * c.nodes) (rooted N c.nodes group)) b (size e) c.diagnostics (spent c r) v r
  pub some : 1 ≤ r.nodes
  pub on : c.at ≤ r.at
  pub within : r.at ≤ count T
  pub few : r.nodes + c.at ≤ c.nodes + r.at
  pub quiet : r.diagnostics + c.at ≤ c.diagnostics + r.at

pub data FromPromise (L T N D N' D' : List ℕ) (c : Counters) (group : Span) (limit : ℕ) (x : Option Span) (r : Counters) : Type 0 where
  climbed : (v : Span) → x ≡ Some v → NodeRoom T N c 1 0 1 → FromFits L T N D N' D' c group limit v r → FromPromise L T N D N' D' c group limit x r
  unclimbed : x ≡ None → (NodeRoom T N c 1 0 1 → ⊥) → N' ≡ N → D' ≡ D → r ≡ c → FromPromise L T N D N' D' c group limit x r

abbrev pub FromPromised : Source → List ℕ → Progress → List ℕ → Progress → Span → Option Span → Type 0
FromPromised a N o N' o' group x = FromPromise a.line.now a.tokens.now N o.diagnostics.now N' o'.diagnostics.now o.counters group a.setting.limit x o'.counters
