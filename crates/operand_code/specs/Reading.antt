-- What the public function promises: the answer, and every number of both stores.
-- Assumes nothing.
use Rattle.std.specs.Prelude.{◌≡◌, List, ◌++◌, ℕ, ◌-◌, ◌*◌, ◌≤◌, length, replicate, Option, Some, None, option_map}
use Rattle.names.specs.Tokens.{count, token_at}
use Rattle.names.specs.Places.{place}
use Rattle.names.specs.declared.tokens.Token.{Token}
use Rattle.records.specs.declared.counters.Counters.{Counters}
use Rattle.records.specs.Stores.{cleared, added}
use Rattle.records.specs.declared.progress.Progress.{Progress}
use Rattle.expressions.specs.Reader.{Reading}
use Rattle.expressions.specs.declared.source.Source.{Source}
use Rattle.operand.specs.Operands.{Operand}
use Rattle.operand.specs.Operand.{reading_of}
use Rattle.operand.specs.Records.{size_m, nodes_m}
use Rattle.operand.specs.Forms.{record_of}
use Rattle.operand.specs.declared.forms.OperandStep.{OperandStep}

-- room for a reading: a list that 16 bits count, a start within it, a node for each token, and a term that may be open
pub record OperandAsks (T N : List ℕ) (start limit : ℕ) : Type 0 where
  pub few : count T ≤ 1023
  pub within : start ≤ count T
  pub long : 10 * count T ≤ length N
  pub deep : 1 ≤ limit

-- the node store of n numbers behind a reading: the operand's records, and zeros
unfoldable pub nodes_alone : Option Operand → ℕ → List ℕ
nodes_alone v n = nodes_m v ++ replicate (n - 10 * size_m v) 0

-- the reading s
pub record OperandFits (s : Reading (Option Operand)) (N D N' D' : List ℕ) (r : OperandStep) : Type 0 where
  pub operand : r.operand ≡ option_map record_of s.value
  pub counters : r.counters ≡ record { at = s.cursor; end = s.end; nodes = size_m s.value; diagnostics = length s.raised }
  pub nodes : N' ≡ nodes_alone s.value (length N)
  pub diagnostics : D' ≡ added D 0 s.raised

-- no operand, from these counters, and no node
pub record NothingTold (N N' : List ℕ) (c : Counters) (r : OperandStep) : Type 0 where
  pub operand : r.operand ≡ None
  pub counters : r.counters ≡ record { at = c.at; end = c.end; nodes = 0; diagnostics = c.diagnostics }
  pub nodes : N' ≡ cleared N (10 * 0) (length N)

-- ---- behind the first token, by the source, and by how far the reading is

-- the counters before anything is read
abbrev pub first : ℕ → Counters
first start = record { at = start; end = 0; nodes = 0; diagnostics = 0 }

-- the token k begins the operand, and there is room for a reading
pub record ReadAsks (a : Source) (N : List ℕ) (c : Counters) (k : Token) : Type 0 where
  pub asks : OperandAsks a.tokens.now N c.at a.setting.limit
  pub stands : token_at a.tokens.now c.at ≡ Some k
  pub opens : a.setting.start ≡ k.start
  pub fresh : c ≡ first c.at

abbrev pub FitsBy : Source → List ℕ → Progress → List ℕ → Progress → OperandStep → Type 0
FitsBy a N o N' o' r = OperandFits (reading_of a.setting.limit a.setting.mark (place a.line.now a.tokens.now) o.counters.at) N o.diagnostics.now N' o'.diagnostics.now r

-- ---- the public function

-- where there is room for a reading, the answer and both stores are the reading's; else nothing is read and nothing moves
pub data OperandPromise (L T N D N' D' : List ℕ) (start mark limit : ℕ) (r : Option OperandStep) : Type 0 where
  read : (s : OperandStep) → r ≡ Some s → OperandAsks T N start limit → OperandFits (reading_of limit mark (place L T) start) N D N' D' s → OperandPromise L T N D N' D' start mark limit r
  unread : r ≡ None → (OperandAsks T N start limit → ⊥) → N' ≡ N → D' ≡ D → OperandPromise L T N D N' D' start mark limit r
