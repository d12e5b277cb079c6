-- What the functions of register lists ask and tell, and the code's values (lists.rt) for those of the definition.
-- Assumes nothing.
use Rattle.std.specs.Prelude.{◌≡◌, false, List, [], ◌∷◌, ℕ, ◌+◌, ◌*◌, ◌≤◌, ◌<◌, length, Option, Some, None, option_map}
use Rattle.names.specs.Tokens.{count, token_at}
use Rattle.names.specs.Places.{text_of, place}
use Rattle.names.specs.declared.tokens.Token.{Token}
use Rattle.records.specs.Spans.{span, span_or}
use Rattle.records.specs.declared.progress.Progress.{Progress}
use Rattle.expressions.specs.declared.source.Source.{Source}
use Rattle.records.specs.declared.counters.Counters.{Counters}
use Rattle.records.specs.Diagnostics.{register_expected_in_register_list, register_range_out_of_order}
use Rattle.expressions.specs.Laws.{holds}
use Rattle.records.specs.NodeKinds
use Rattle.records.specs.declared.node_kinds.NodeKind.{NodeKind}
use Rattle.records.specs.Nodes.{node_record}
use Rattle.records.specs.Counters.{stepped}
use Rattle.operand.specs.FormNumbers
use Rattle.operand.specs.Operands.{RegisterListItem, single, range}
use Rattle.operand.specs.Operand.{a_register, list_item}
use Rattle.records.specs.Rooms.{Room}
use Rattle.expressions.specs.Told.{Raised, Told}
use Rattle.operand_code.specs.Lookahead.{register_at}
use Rattle.operand.specs.declared.forms.Register.{Register}
use Rattle.operand.specs.declared.forms.BaseRegister.{BaseRegister}
use Rattle.operand_code.specs.declared.lists.Item.{Item}
use Rattle.operand.specs.declared.forms.OperandRecord.{OperandRecord}

-- ---- a register behind a sign

pub data RegisterTold (L T D D' : List ℕ) (c : Counters) (sign : ℕ) (v : Option Register) (r : Counters) : Type 0 where
  found : (t : Token) (q : Register) → token_at T c.at ≡ Some t → register_at t (text_of L t.start t.end) ≡ Some q
      → v ≡ Some q → r ≡ stepped c t → D' ≡ D → RegisterTold L T D D' c sign v r
  missing : holds a_register (place L T c.at) ≡ false
      → v ≡ None → Raised D D' c (register_expected_in_register_list sign (span_or (token_at T c.at) c.end)) r → RegisterTold L T D D' c sign v r

-- ---- an item

unfoldable pub item_of : RegisterListItem → Item
item_of (single r) = record { kind = NodeKind.Single; from = r; to = r; span = r.span }
item_of (range r q s) = record { kind = NodeKind.Range; from = r; to = q; span = s }

-- the code's item from one register to another
abbrev pub range_item : Register → Register → Item
range_item r q = record { kind = NodeKind.Range; from = r; to = q; span = span r.span.start q.span.end }

pub data RangedTold (D D' : List ℕ) (c : Counters) (r q : Register) (v : Item) (s : Counters) : Type 0 where
  rising : r.index ≤ q.index → v ≡ range_item r q → s ≡ c → D' ≡ D → RangedTold D D' c r q v s
  falling : q.index < r.index → v ≡ range_item r q
      → Raised D D' c (register_range_out_of_order r.index q.index (span r.span.start q.span.end)) s → RangedTold D D' c r q v s

-- behind an item the cursor has passed a token for each diagnostic
pub record Behind (T : List ℕ) (c : Counters) (x : Item) (r : Counters) : Type 0 where
  pub same : r.nodes ≡ c.nodes
  pub on : c.at ≤ r.at
  pub within : r.at ≤ count T
  pub quiet : r.diagnostics + c.at ≤ c.diagnostics + r.at
  pub from_small : x.from.index < 16
  pub to_small : x.to.index < 16

unfoldable pub ItemHeld : List ℕ → Counters → Option RegisterListItem → Counters → Type 0
ItemHeld T c (Some x) r = Behind T c (item_of x) r
ItemHeld T c None r = Unit {0}

abbrev pub ItemTold : List ℕ → List ℕ → List ℕ → List ℕ → Counters → Register → Option Item → Counters → Type 0
ItemTold L T D D' c r v s = Told (option_map item_of) (ItemHeld T c) (list_item r) L T D D' c v s

-- the bytes of its node
unfoldable pub item_bytes : Item → List ℕ
item_bytes x =
    node_record (NodeKinds.number x.kind) 0 x.from.index x.to.index x.span
    (x.from.span.start ∷ x.from.span.end ∷ x.to.span.start ∷ x.to.span.end ∷ [])

-- ---- the list

abbrev pub list_record : ℕ → ℕ → ℕ → OperandRecord
list_record s l mask =
    record { form = FormNumbers.register_list; span = span s l; displacement = Some (record { node = 0; size = 0 }); base = BaseRegister.Omitted; index = None; indirection = 0; outer = None; special = 0; mask = mask }

-- from no node on, behind the first register
pub record ListAsks (T N : List ℕ) (c : Counters) (first : Register) : Type 0 where
  pub room : Room T c 0 1
  pub long : 10 * count T + 10 ≤ length N + 10 * c.at
  pub none : c.nodes ≡ 0
  pub behind : 0 < c.at
  pub small : first.index < 16

-- ---- the same by the source, and by how far the reading is

abbrev pub RegisterBy : Source → Progress → Progress → ℕ → Option Register → Type 0
RegisterBy a o o' sign v = RegisterTold a.line.now a.tokens.now o.diagnostics.now o'.diagnostics.now o.counters sign v o'.counters

abbrev pub RangedBy : Progress → Progress → Register → Register → Item → Type 0
RangedBy o o' r q v = RangedTold o.diagnostics.now o'.diagnostics.now o.counters r q v o'.counters

abbrev pub ItemBy : Source → Progress → Progress → Register → Option Item → Type 0
ItemBy a o o' r v = ItemTold a.line.now a.tokens.now o.diagnostics.now o'.diagnostics.now o.counters r v o'.counters
