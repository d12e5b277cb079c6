-- What a function that reads tells: the answer, the counters and the diagnostics, by the reading that the definition gives.
-- Assumes nothing.
use Rattle.std.specs.Prelude.{Option, Some, None, ◌≡◌, List, ℕ, ◌+◌, ◌*◌, ◌≤◌, length, max}
use Rattle.names.specs.Tokens.{count, token_at}
use Rattle.names.specs.Places.{place}
use Rattle.names.specs.declared.tokens.Token.{Token}
use Rattle.records.specs.declared.diagnostics.Diagnostic.{Diagnostic}
use Rattle.records.specs.declared.counters.Counters.{Counters}
use Rattle.records.specs.Diagnostics.{diagnostic_record}
use Rattle.records.specs.Stores.{written, added}
use Rattle.records.specs.Counters.{stepped, Over}
use Rattle.expressions.specs.Reader.{Reader, of_kind, run}

-- the diagnostic x behind those that count; nothing else moves
pub record Raised (D D' : List ℕ) (c : Counters) (x : Diagnostic) (r : Counters) : Type 0 where
  pub counters : r ≡ record { at = c.at; end = c.end; nodes = c.nodes; diagnostics = c.diagnostics + 1 }
  pub more : D' ≡ written D (10 * c.diagnostics) (diagnostic_record x)

-- the same, behind whatever stands at the cursor. x: by where the last token ended
pub data RaisedOver (T D D' : List ℕ) (c : Counters) (x : ℕ → Diagnostic) (r : Counters) : Type 0 where
  over : (t : Token) → token_at T c.at ≡ Some t → Raised D D' (stepped c t) (x t.end) r → RaisedOver T D D' c x r
  ended : token_at T c.at ≡ None → Raised D D' c (x c.end) r → RaisedOver T D D' c x r

-- The answer v, the counters r and the diagnostics D' are what the reader p says, from the counters c on.
-- f: the code's value for the definition's. Q: what else holds of the answer, as of the nodes
pub record Told {A B : Type 0} (f : A → B) (Q : A → Counters → Type 0) (p : Reader A) (L T D D' : List ℕ) (c : Counters) (v : B) (r : Counters) : Type 0 where
  pub what : v ≡ f (run p (place L T) c.at c.end).value
  pub at : r.at ≡ (run p (place L T) c.at c.end).cursor
  pub end : r.end ≡ (run p (place L T) c.at c.end).end
  pub seen : r.diagnostics ≡ c.diagnostics + length (run p (place L T) c.at c.end).raised
  pub more : D' ≡ added D c.diagnostics (run p (place L T) c.at c.end).raised
  pub held : Q (run p (place L T) c.at c.end).value r

-- no node is written
abbrev pub Same : {A : Type 0} → ℕ → A → Counters → Type 0
Same n a r = r.nodes ≡ n

-- The token x at the cursor, if it is of this kind, and the counters r behind it; if it is not, nothing moves.
-- The numbers are bounded in both cases, so that what had room has it behind the question too.
pub record NextTold (T : List ℕ) (kind : ℕ) (c : Counters) (x : Option Token) (r : Counters) : Type 0 where
  pub token : x ≡ of_kind kind (token_at T c.at)
  pub from : c.at ≤ r.at
  pub within : r.at ≤ max c.at (count T)
  pub nodes : r.nodes ≡ c.nodes
  pub diagnostics : r.diagnostics ≡ c.diagnostics
  pub steps : (t : Token) → x ≡ Some t → Over c t r
  pub stays : x ≡ None → r ≡ c
