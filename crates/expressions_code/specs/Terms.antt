-- What the functions that read terms ask, and what they tell: the answer and both stores, by the reading that the definition gives.
-- Assumes nothing.
use Rattle.std.proofs.Common.{refl, arith}
use Rattle.std.specs.Prelude.{Some, ◌≡◌, Result, Ok, Err, false, List, [], ◌∷◌, ◌++◌, ℕ, ◌+◌, ◌-◌, ◌*◌, ◌≤◌, ◌<◌, length, take, drop}
use Rattle.names.specs.Kinds
use Rattle.names.specs.Tokens.{count, token_at}
use Rattle.names.specs.Places.{place}
use Rattle.names.specs.declared.tokens.Token.{Token}
use Rattle.records.specs.Spans.{span, span_of}
use Rattle.expressions.specs.Trees.{Expr, span_e, size}
use Rattle.records.specs.declared.spans.Span.{Span}
use Rattle.records.specs.declared.diagnostics.Diagnostic.{Diagnostic}
use Rattle.records.specs.declared.counters.Counters.{Counters}
use Rattle.records.specs.declared.progress.Progress.{Progress}
use Rattle.expressions.specs.declared.source.Source.{Source}
use Rattle.expressions_code.specs.declared.terms.TermError.{TermError}
use Rattle.expressions_code.specs.declared.terms.TermError.TheVariants as errors
use Rattle.records.specs.Diagnostics.{expression_expected, unclosed_parenthesis}
use Rattle.expressions.specs.Reader.{is, Reader, ◌>>=◌}
use Rattle.expressions.specs.Laws.{holds}
use Rattle.expressions.specs.Told.{Told}
use Rattle.expressions.specs.Expressions.{Term, precedence, read, reported, absent, too_deep, fuel, negated, plussed, grouped, parse_prefix, parse_expression, parse_expression_from}
use Rattle.records.specs.Nodes.{node_record, node_numbers, words}
use Rattle.records.specs.declared.nodes.Node.{Node}
use Rattle.expressions.specs.Records.{nodes}
use Rattle.records.specs.Counters.{stepped, OneNode}
use Rattle.records.specs.Written.{put_told}
use Rattle.records.specs.Stores.{written, PutAsks, PutTold, PushTold}

-- ---- a term as the answer has it

-- its root's span, or why it is not read
abbrev pub Parsed : Type 0
Parsed = Result Span TermError

unfoldable pub parsed_of : Term → Parsed
parsed_of (read e) = Ok (span_e e)
parsed_of reported = Err errors.Reported
parsed_of absent = Err errors.Absent

unfoldable pub size_t : Term → ℕ
size_t (read e) = size e
size_t reported = 0
size_t absent = 0

unfoldable pub nodes_t : ℕ → Term → List ℕ
nodes_t b (read e) = nodes b e
nodes_t b reported = []
nodes_t b absent = []

-- the term v stands behind the first n records
pub record Held (N N' : List ℕ) (n : ℕ) (v : Term) (r : Counters) : Type 0 where
  pub total : r.nodes ≡ n + size_t v
  pub bytes : take (10 * r.nodes) N' ≡ take (10 * n) N ++ nodes_t n v

-- the answer and both stores are what the reader p says, from the counters c on
abbrev pub Said : Reader Term → List ℕ → List ℕ → List ℕ → List ℕ → List ℕ → List ℕ → Counters → Parsed → Counters → Type 0
Said p L T N D N' D' c v_r r = Told parsed_of (Held N N' c.nodes) p L T D D' c v_r r

-- From the counters c to r a record is written for each consumed token at the most: the records past these stay
abbrev pub Spared : List ℕ → List ℕ → Counters → Counters → Type 0
Spared N N' c r = (k : ℕ) → c.nodes + r.at ≤ k + c.at → drop (10 * k) N' ≡ drop (10 * k) N

-- ---- the parts that are no readers of their own

pub record LeafTold (N N' : List ℕ) (c : Counters) (kind detail : ℕ) (s : Span) (value : ℕ) (v_r : Parsed) (r : Counters) : Type 0 where
  pub what : v_r ≡ Ok s
  pub at : r.at ≡ c.at
  pub end : r.end ≡ c.end
  pub seen : r.diagnostics ≡ c.diagnostics
  pub put : PutTold N N' c.nodes (node_record kind detail 65535 65535 s (words 4 value)) r.nodes

-- a symbol's, by its own span
abbrev pub SymbolTold : List ℕ → List ℕ → Counters → Span → Parsed → Counters → Type 0
SymbolTold N N' c s v r = LeafTold N N' c 3 0 s (s.start + 65536 * s.end) v r × (s.start < 65536) × (s.end < 65536)

pub record DeepTold (D D' : List ℕ) (c : Counters) (x : Diagnostic) (v_r : Parsed) (r : Counters) : Type 0 where
  pub what : v_r ≡ Err errors.Reported
  pub at : r.at ≡ c.at
  pub end : r.end ≡ c.end
  pub same : r.nodes ≡ c.nodes
  pub push : PushTold D D' c.diagnostics x r.diagnostics

-- the answer v where a term had to stand, behind the token k: that none stands there is told, and else nothing moves
pub data ExpectedTold (D D' : List ℕ) (c : Counters) (v : Parsed) (k : Token) (v_r : Parsed) (r : Counters) : Type 0 where
  stood : (v ≡ Err errors.Absent → ⊥) → v_r ≡ v → D' ≡ D → r ≡ c → ExpectedTold D D' c v k v_r r
  missing : v ≡ Err errors.Absent → DeepTold D D' c (expression_expected (span_of k)) v_r r → ExpectedTold D D' c v k v_r r

-- the node record b behind those that count; nothing else moves
pub record NodeTold (N N' : List ℕ) (c : Counters) (b : List ℕ) (r : Counters) : Type 0 where
  pub at : r.at ≡ c.at
  pub end : r.end ≡ c.end
  pub seen : r.diagnostics ≡ c.diagnostics
  pub put : PutTold N N' c.nodes b r.nodes

-- where there is room
pub node_told : {N N' : List ℕ} {c r : Counters} (x : Node) {b : List ℕ} → node_numbers x ≡ b → PutAsks N c.nodes → N' ≡ written N (10 * c.nodes) (node_numbers x) → OneNode c r → NodeTold N N' c b r
unfolding words
node_told {c = c} {r = r} x e h w one =
    let more : r.nodes ≡ c.nodes + 1 = omega (arith, h, one.nodes) in
    record { at = one.at; end = one.end; seen = one.diagnostics; put = rw (← e, more) (put_told _ _ _ _ h refl w) }

-- ---- what a term of one token asks, behind that token, and what it tells

pub record LeafAsks (N : List ℕ) (c : Counters) : Type 0 where
  pub number : c.nodes < 65535
  pub long : 10 * c.nodes + 10 ≤ length N
  pub seen : c.diagnostics < 65535

-- the reader p, which looks at no place, from the counters c on
pub record ReaderTold (p : Reader Term) (N D N' D' : List ℕ) (c : Counters) (v_r : Parsed) (r : Counters) : Type 0 where
  pub told : (L T : List ℕ) → Said p L T N D N' D' c v_r r
  pub stays : r.at ≡ c.at
  pub past : (k : ℕ) → c.nodes < k → drop (10 * k) N' ≡ drop (10 * k) N

-- the reader p, where the token k stands at the cursor
pub record TokenTold (p : Reader Term) (L : List ℕ) (k : Token) (N D N' D' : List ℕ) (c : Counters) (v_r : Parsed) (r : Counters) : Type 0 where
  pub told : (T : List ℕ) → token_at T c.at ≡ Some k → Said p L T N D N' D' c v_r r
  pub past : Spared N N' c r

-- the depth is told, whatever the line
pub record DepthTold (T D D' : List ℕ) (c : Counters) (v_r : Parsed) (r : Counters) : Type 0 where
  pub told : (L N : List ℕ) → Said too_deep L T N D N D' c v_r r

-- ---- the readers that call each other

pub record TermTold (p : Reader Term) (L T N D N' D' : List ℕ) (c : Counters) (v_r : Parsed) (r : Counters) : Type 0 where
  pub told : Said p L T N D N' D' c v_r r
  pub past : Spared N N' c r
  pub on : c.at ≤ r.at
  pub within : r.at ≤ count T
  pub few : r.nodes + c.at ≤ c.nodes + r.at
  pub quiet : r.diagnostics + c.at ≤ c.diagnostics + r.at + 1

abbrev pub PrefixTold : List ℕ → List ℕ → List ℕ → List ℕ → List ℕ → List ℕ → Counters → ℕ → Parsed → Counters → Type 0
PrefixTold L T N D N' D' c room v_r r = TermTold (parse_prefix fuel room) L T N D N' D' c v_r r

abbrev pub ExpressionTold : List ℕ → List ℕ → List ℕ → List ℕ → List ℕ → List ℕ → Counters → ℕ → Parsed → Counters → Type 0
ExpressionTold L T N D N' D' c room v_r r = TermTold (parse_expression room) L T N D N' D' c v_r r

-- the terms behind their first token
abbrev pub unary_term : ℕ → Token → Reader Term
unary_term room k = parse_prefix fuel room >>= negated k

abbrev pub plus_term : ℕ → Token → Reader Term
plus_term room k = parse_prefix fuel room >>= plussed k

abbrev pub group_term : ℕ → Token → Reader Term
group_term room k = parse_expression room >>= grouped k

pub record BehindTold (p : Reader Term) (L T N D N' D' : List ℕ) (c : Counters) (v_r : Parsed) (r : Counters) : Type 0 where
  pub told : Said p L T N D N' D' c v_r r
  pub past : (k : ℕ) → c.nodes + r.at + 1 ≤ k + c.at → drop (10 * k) N' ≡ drop (10 * k) N
  pub on : c.at ≤ r.at
  pub within : r.at ≤ count T
  pub few : r.nodes + c.at ≤ c.nodes + r.at + 1
  pub quiet : r.diagnostics + c.at ≤ c.diagnostics + r.at + 2

-- the tree v, whose first node has the number b: behind the numbers P stands what was joined to a left side of m nodes
pub record Joined (P N' : List ℕ) (b m : ℕ) (v : Expr) (r : Counters) : Type 0 where
  pub total : r.nodes ≡ b + size v
  pub bytes : take (10 * r.nodes) N' ≡ P ++ drop (10 * m) (nodes b v)

-- whatever tree e of this span the left side is, with fuel enough. What stands in the store is not looked at
pub record ClimbTold (L T N D N' D' : List ℕ) (c : Counters) (left : Span) (min room : ℕ) (s_r : Span) (r : Counters) : Type 0 where
  pub told : (g : ℕ) → count T ≤ g + c.at → (b : ℕ) (e : Expr) → c.nodes ≡ b + size e → left ≡ span_e e
      → Told span_e (Joined (take (10 * c.nodes) N) N' b (size e)) (parse_expression_from g (parse_prefix fuel room) min e) L T D D' c s_r r
  pub past : Spared N N' c r
  pub some : 0 < r.nodes
  pub on : c.at ≤ r.at
  pub within : r.at ≤ count T
  pub few : r.nodes + c.at ≤ c.nodes + r.at
  pub quiet : r.diagnostics + c.at ≤ c.diagnostics + r.at

-- the left side is longer by the operator t and its right side: what the climb from there tells, the climb from before tells
pub record Longer (L T N D N' D' : List ℕ) (c : Counters) (left : Span) (room : ℕ) (t : Token) (s : Span) (r : Counters) : Type 0 where
  pub whole : (min : ℕ) → min ≤ precedence t.kind → (N'' D'' : List ℕ) (s_q : Span) (q : Counters) → ClimbTold L T N' D' N'' D'' r s min room s_q q → ClimbTold L T N D N'' D'' c left min room s_q q
  pub some : 0 < r.nodes
  pub on : c.at < r.at
  pub within : r.at ≤ count T
  pub few : r.nodes + c.at ≤ c.nodes + r.at
  pub quiet : r.diagnostics + c.at ≤ c.diagnostics + r.at

-- behind the operator t; or no term is read there, and the climb ends
pub data OperatedTold (L T N D N' D' : List ℕ) (c : Counters) (left : Span) (room : ℕ) (t : Token) (v_r : Parsed) (r : Counters) : Type 0 where
  longer : (s : Span) → v_r ≡ Ok s → Longer L T N D N' D' c left room t s r → OperatedTold L T N D N' D' c left room t v_r r
  ended : v_r ≡ Err errors.Reported
      → ((min : ℕ) → min ≤ precedence t.kind → ClimbTold L T N D N' D' c left min room left r) → OperatedTold L T N D N' D' c left room t v_r r

-- ---- the end of a group

abbrev pub with_nodes : Counters → ℕ → Counters
with_nodes c n = record { at = c.at; end = c.end; nodes = n; diagnostics = c.diagnostics }

-- a parenthesis t closes the group k, whose root gets the whole span; or none does
pub data CloseTold (T N D N' D' : List ℕ) (first : ℕ) (c : Counters) (k : Token) (v_r : Parsed) (r : Counters) : Type 0 where
  closed : (t : Token) → token_at T c.at ≡ Some t → t.kind ≡ Kinds.right_paren
      → N' ≡ written N (10 * (c.nodes - 1) + 4) (k.start ∷ t.end ∷ []) → D' ≡ D
      → v_r ≡ Ok (span k.start t.end) → r ≡ stepped c t → CloseTold T N D N' D' first c k v_r r
  unclosed : ((L : List ℕ) → holds (is Kinds.right_paren) (place L T c.at) ≡ false) → N' ≡ N
      → DeepTold D D' (with_nodes c first) (unclosed_parenthesis (span_of k)) v_r r → CloseTold T N D N' D' first c k v_r r

-- ---- the same of what the functions are lent: the source, the node store, and how far the reading is

abbrev pub DeepAt : Counters → Progress → Progress → Diagnostic → Parsed → Type 0
DeepAt c o o' x v = DeepTold o.diagnostics.now o'.diagnostics.now c x v o'.counters

abbrev pub DeepBy : Progress → Progress → Diagnostic → Parsed → Type 0
DeepBy o o' x v = DeepAt o.counters o o' x v

-- a diagnostic is counted where no term stands
abbrev pub ExpectedAsks : Progress → Parsed → Type 0
ExpectedAsks o v = v ≡ Err errors.Absent → o.counters.diagnostics < 65535

abbrev pub ExpectedBy : Progress → Progress → Parsed → Token → Parsed → Type 0
ExpectedBy o o' v k v_r = ExpectedTold o.diagnostics.now o'.diagnostics.now o.counters v k v_r o'.counters

abbrev pub DepthBy : Source → Progress → Progress → Parsed → Type 0
DepthBy a o o' v = DepthTold a.tokens.now o.diagnostics.now o'.diagnostics.now o.counters v o'.counters

abbrev pub ReaderBy : Reader Term → List ℕ → Progress → List ℕ → Progress → Parsed → Type 0
ReaderBy p N o N' o' v = ReaderTold p N o.diagnostics.now N' o'.diagnostics.now o.counters v o'.counters

abbrev pub TokenBy : Reader Term → Source → Token → List ℕ → Progress → List ℕ → Progress → Parsed → Type 0
TokenBy p a k N o N' o' v = TokenTold p a.line.now k N o.diagnostics.now N' o'.diagnostics.now o.counters v o'.counters

abbrev pub PrefixBy : Source → List ℕ → Progress → List ℕ → Progress → ℕ → Parsed → Type 0
PrefixBy a N o N' o' room v = PrefixTold a.line.now a.tokens.now N o.diagnostics.now N' o'.diagnostics.now o.counters room v o'.counters

abbrev pub ExpressionBy : Source → List ℕ → Progress → List ℕ → Progress → ℕ → Parsed → Type 0
ExpressionBy a N o N' o' room v = ExpressionTold a.line.now a.tokens.now N o.diagnostics.now N' o'.diagnostics.now o.counters room v o'.counters

abbrev pub BehindBy : Reader Term → Source → List ℕ → Progress → List ℕ → Progress → Parsed → Type 0
BehindBy p a N o N' o' v = BehindTold p a.line.now a.tokens.now N o.diagnostics.now N' o'.diagnostics.now o.counters v o'.counters

abbrev pub ClimbBy : Source → List ℕ → Progress → List ℕ → Progress → Span → ℕ → ℕ → Span → Type 0
ClimbBy a N o N' o' left min room s = ClimbTold a.line.now a.tokens.now N o.diagnostics.now N' o'.diagnostics.now o.counters left min room s o'.counters

abbrev pub OperatedBy : Source → List ℕ → Progress → List ℕ → Progress → Span → ℕ → Token → Parsed → Type 0
OperatedBy a N o N' o' left room t v = OperatedTold a.line.now a.tokens.now N o.diagnostics.now N' o'.diagnostics.now o.counters left room t v o'.counters

abbrev pub CloseBy : Source → List ℕ → Progress → List ℕ → Progress → ℕ → Token → Parsed → Type 0
CloseBy a N o N' o' first k v = CloseTold a.tokens.now N o.diagnostics.now N' o'.diagnostics.now first o.counters k v o'.counters
