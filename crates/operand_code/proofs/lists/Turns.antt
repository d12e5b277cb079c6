-- A turn of the register list's loop: the items so far, their mask and their nodes, and what the rest of the list tells of the whole.
-- Assumes nothing.
use mathlib.Core.Path.{◌≡◌, refl, sym, ◌∙◌, ap, ap₂, subst}
use mathlib.Core.List.{List, [], ◌∷◌, ◌++◌, append_assoc, append-nil}
use Prim.Native.Nat.{ℕ, ◌+◌, ◌-◌, ◌*◌, ◌≤◌, ◌<◌}
use native.Mathlib.Omega.{arith}
use lib.Bits.{bit_or, or_zero_l, or_zero_r}
use lib.ListN.{length, take, length-append}
use Rattle.names.specs.Kinds
use Rattle.names.specs.Tokens.{count}
use Rattle.names.specs.Places.{text_of, place, below}
use Rattle.names.specs.declared.tokens.Token.{Token}
use Rattle.records.specs.Problems
use Rattle.records.specs.Spans.{span}
use Rattle.records.specs.declared.spans.Span.{Span}
use Rattle.records.specs.declared.counters.Counters.{Counters}
use Rattle.expressions.specs.Expressions.{fuel}
use Rattle.expressions.specs.Reader.{run}
use Rattle.expressions_code.specs.Terms.{NodeTold}
use Rattle.expressions.specs.declared.reading.Setting.{Setting}
use Rattle.operand.specs.Operands.{RegisterListItem, single, range, Operand}
use Rattle.operand.specs.Operand.{or_none, ◌>>=?◌, register_from, list_item, listed, next_item, list_loop, parse_register_list}
use Rattle.operand.specs.Records.{item_record, item_records, size_o, nodes_o}
use Rattle.operand.specs.Mask.{bits_from, item_bits}
use Rattle.operand.specs.Mask as M
use Rattle.operand.specs.Forms.{record_of}
use Rattle.operand.specs.Fuel.{list_equation}
use Rattle.records.specs.Rooms.{Room}
use Rattle.expressions.specs.Told.{NextTold, Told}
use Rattle.operand_code.specs.Operands.{HeldBy, Stored, OperandTold}
use Rattle.operand_code.specs.Lists.{RegisterTold, found, missing, item_of, Behind, ItemHeld, ItemTold, item_bytes, list_record, ListAsks}
use Rattle.operand.specs.declared.forms.Register.{Register}
use Rattle.operand_code.specs.declared.lists.Item.{Item}
use Rattle.expressions.specs.Paths.{held_as, retold, answered, hereby, bound, hit, missed, miss_next}
use Rattle.operand_code.proofs.Rooms.{map_is, map_not}
use Rattle.operand_code.proofs.lists.Ranges.{or_assoc, room_on, found_at, expected}
use Rattle.operand_code.proofs.lookahead.Names.{is_a_register, register_is}
use Rattle.std.proofs.lemmas.Option.{none-some}
use Rattle.std.specs.Prelude.{true, is_some, Option, Some, None, option_map}
use Rattle.operand_code.proofs.Next.{hit_some, next_on}
use Rattle.operand.specs.declared.forms.OperandRecord.{OperandRecord}

-- ---- one more item

mask_more : (xs : List RegisterListItem) (y : RegisterListItem) → M.mask (xs ++ (y ∷ [])) ≡ bit_or (M.mask xs) (item_bits y)
unfolding M.mask
mask_more [] y = or_zero_r (item_bits y) ∙ sym (or_zero_l (item_bits y))
mask_more (x ∷ xs) y = ap (bit_or (item_bits x)) (mask_more xs y) ∙ sym (or_assoc (item_bits x) (M.mask xs) (item_bits y))

records_more : (xs : List RegisterListItem) (y : RegisterListItem) → item_records (xs ++ (y ∷ [])) ≡ item_records xs ++ item_record y
unfolding item_records
records_more [] y = append-nil (item_record y)
records_more (x ∷ xs) y = ap (λ l. item_record x ++ l) (records_more xs y) ∙ sym (append_assoc (item_record x) (item_records xs) (item_record y))

-- the code's bits and bytes of an item
item_bits_lem : (x : RegisterListItem) → bits_from (item_of x).from.index ((item_of x).to.index + 1 - (item_of x).from.index) ≡ item_bits x
unfolding bits_from item_of item_bits
item_bits_lem (single r) = let e : r.index + 1 - r.index ≡ 1 = omega arith in rw e (or_zero_r _)
item_bits_lem (range r q s) = refl

item_bytes_lem : (x : RegisterListItem) → item_bytes (item_of x) ≡ item_record x
unfolding item_bytes item_of item_record
item_bytes_lem (single r) = refl
item_bytes_lem (range r q s) = refl

pub item_behind : {L T D D' : List ℕ} {c : Counters} (r : Register) {v : Option Item} {s : Counters} {y : Item} → ItemTold L T D D' c r v s → v ≡ Some y → Behind T c y s
unfolding ItemHeld
item_behind {L} {T} {c = c} r {s = s} {y = y} h e =
    let x = map_is item_of _ (sym h.what ∙ e) in
    subst (λ z. Behind T c z s) x.form (held_as h x.is)

-- ---- the loop

few_fuel : (n : ℕ) → n ≤ 1023 → n ≤ fuel
unfolding fuel
few_fuel n h = omega arith

looped : {Q : Option Operand → Counters → Type 0} {L T D D' : List ℕ} {c : Counters} {v : Option OperandRecord} {s : Counters} (t₀ : Setting) (items : List RegisterListItem) (r : Register) → count T ≤ 1023
    → Told (option_map record_of) Q (list_item r >>=? next_item (list_loop fuel t₀) t₀ items) L T D D' c v s → Told (option_map record_of) Q (list_loop fuel t₀ items r) L T D D' c v s
looped {L = L} {T = T} {c = c} t₀ items r few h =
    retold (list_equation (place L T) (count T) (λ j k x g. below L T j k x g) (few_fuel (count T) few) t₀ items r c.at c.end) refl h

-- before a turn that begins with the register r: what the rest of the list tells, the whole tells
pub record Going (L T N₀ D₀ N D : List ℕ) (c : Counters) (t₀ : Setting) (first : Register) (mask : ℕ) (e : Counters) (r : Register) : Type 0 where
  pub items : List RegisterListItem
  pub joined : mask ≡ M.mask items
  pub total : e.nodes ≡ length items
  pub bytes : take (10 * e.nodes) N ≡ item_records items
  pub long : length N ≡ length N₀
  pub few : e.nodes < e.at
  pub spent : e.nodes + c.at ≤ e.at
  pub room : Room T e 0 1
  pub small : r.index < 16
  pub whole : (N' D' : List ℕ) (v : Option OperandRecord) (s : Counters) → Told (option_map record_of) (Stored N') (list_loop fuel t₀ items r) L T D D' e v s
      → Told (option_map record_of) (Stored N') (list_loop fuel t₀ [] first) L T D₀ D' c v s

pub started : {L T N D : List ℕ} {c : Counters} {t₀ : Setting} {first : Register} → ListAsks T N c first → Going L T N D N D c t₀ first 0 c first
unfolding M.mask item_records
started h = record {
  items = [];
  joined = refl;
  total = h.none;
  bytes = rw h.none;
  long = refl;
  few = omega arith;
  spent = omega (arith, h.none);
  room = h.room;
  small = h.small;
  whole = λ N' D' v s t. t;
}

-- behind an item, whose node is put
pub record Reached (L T N₀ D₀ N D : List ℕ) (c : Counters) (t₀ : Setting) (first : Register) (mask : ℕ) (e : Counters) : Type 0 where
  pub items : List RegisterListItem
  pub item : RegisterListItem
  pub joined : mask ≡ M.mask (items ++ (item ∷ []))
  pub total : e.nodes ≡ length (items ++ (item ∷ []))
  pub bytes : take (10 * e.nodes) N ≡ item_records (items ++ (item ∷ []))
  pub few : e.nodes ≤ e.at
  pub spent : e.nodes + c.at ≤ e.at + 1
  pub room : Room T e 0 1
  pub whole : (N' D' : List ℕ) (v : Option OperandRecord) (s : Counters) → Told (option_map record_of) (Stored N') (next_item (list_loop fuel t₀) t₀ items item) L T D D' e v s
      → Told (option_map record_of) (Stored N') (list_loop fuel t₀ [] first) L T D₀ D' c v s

module _ {L T N₀ D₀ N D D₁ : List ℕ} {c : Counters} {t₀ : Setting} {first : Register} {mask : ℕ} {e : Counters} {r : Register} (w : Going L T N₀ D₀ N D c t₀ first mask e r) {i : Option Item} {k : Counters} (h : ItemTold L T D D₁ e r i k) where
  pub ends_none : i ≡ None → OperandTold (parse_register_list t₀ first) L T D₀ N D₁ c None k
  unfolding parse_register_list or_none HeldBy
  ends_none n = record {
    told = w.whole N D₁ _ _ (looped t₀ w.items r w.room.few (bound h (map_not item_of _ (sym h.what ∙ n)) (answered refl refl tt)));
  }

  pub reached : {y : Item} {N₁ : List ℕ} {bits : ℕ} {g : Counters} → i ≡ Some y → NodeTold N N₁ k (item_bytes y) g
      → bits ≡ bits_from y.from.index (y.to.index + 1 - y.from.index) → Reached L T N₀ D₀ N₁ D₁ c t₀ first (bit_or mask bits) g
  unfolding or_none
  reached {y} {N₁} {bits} {g} u n b =
      let q = item_behind r h u in
      let next : g.nodes ≡ e.nodes + 1 = omega (arith, n.put.next) in
      let x = map_is item_of _ (sym h.what ∙ u) in
      record {
        items = w.items;
        item = x.part;
        joined = ap₂ bit_or w.joined (b ∙ ap (λ z. bits_from z.from.index (z.to.index + 1 - z.from.index)) (sym x.form) ∙ item_bits_lem x.part) ∙ sym (mask_more w.items x.part);
        total = rw length-append (omega (arith, w.total));
        bytes = n.put.bytes
            ∙ ap₂ ◌++◌ (ap (λ m. take (10 * m) N) q.same ∙ w.bytes) (ap item_bytes (sym x.form) ∙ item_bytes_lem x.part)
            ∙ sym (records_more w.items x.part);
        few = omega (arith, w.few, n.at);
        spent = omega (arith, w.spent, n.at);
        room = room_on w.room (omega (arith, n.at)) (omega (arith, n.at, n.seen));
        whole = λ N' D' v s t. w.whole N' D' v s (looped t₀ w.items r w.room.few (bound h x.is
            (retold (ap₂ (λ a z. run (next_item (list_loop fuel t₀) t₀ w.items x.part) (place L T) a z) (sym n.at) (sym n.end)) n.seen t)));
      }

module _ {L T N₀ D₀ N D : List ℕ} {c : Counters} {t₀ : Setting} {first : Register} {mask : ℕ} {e : Counters} (w : Reached L T N₀ D₀ N D c t₀ first mask e) where
  at_fits : e.at < 65535
  at_fits = omega (arith, w.room)

  pub ends : {x : OperandRecord} {s : Span} {o : Option Token} {c₁ : Counters} → NextTold T Kinds.slash e o c₁ → o ≡ None
      → s ≡ span t₀.start c₁.end → x ≡ list_record s.start s.end mask → OperandTold (parse_register_list t₀ first) L T D₀ N D c (Some x) c₁
  unfolding parse_register_list next_item listed record_of HeldBy nodes_o size_o
  ends h k q g = record {
    told = w.whole N D _ _ (miss_next h k
        (hereby (answered (ap Some g ∙ ap₂ (λ (z : Span) m. Some (list_record z.start z.end m)) q w.joined) refl (sym (ap (λ m. take (10 * m) N) h.nodes ∙ w.bytes), sym (h.nodes ∙ w.total)))));
  }

  module _ {D₁ : List ℕ} {c₁ : Counters} {v : Option Register} {u : Counters} {s : Option Token} (h : NextTold T Kinds.slash e s c₁) (k : is_some s ≡ true) where
    pub ends_expected : RegisterTold L T D D₁ c₁ 47 v u → v ≡ None → OperandTold (parse_register_list t₀ first) L T D₀ N D₁ c None u
    unfolding parse_register_list next_item HeldBy
    ends_expected (found t₂ n h₂ g a b d) r = absurd (none-some _ (sym r ∙ a))
    ends_expected (missing g a f) r =
        record {
          told = w.whole N D₁ _ _ (hit_some h k at_fits λ q p. (missed g (expected Problems.after_slash f refl tt)));
        }

    pub again : {q : Register} → RegisterTold L T D D₁ c₁ 47 v u → v ≡ Some q → length N ≡ length N₀ → Going L T N₀ D₀ N D₁ c t₀ first mask u q
    unfolding next_item
    again {q} (found t₂ n h₂ g a b d) r l =
        let y = register_is t₂ _ g in
        let z : ◌≡◌ {A = Register} q (register_from t₂ (text_of L t₂.start t₂.end)) = cc y in
        let j : RegisterTold L T D D₁ c₁ 47 v u = found t₂ n h₂ g a b d in
        let o = found_at j r in
        let at₁ : c₁.at ≡ e.at + 1 = next_on h k at_fits in
        let quiet : c₁.diagnostics ≡ e.diagnostics = h.diagnostics in
        let nodes : u.nodes ≡ e.nodes = omega (arith, h.nodes) in
        record {
          items = w.items ++ (w.item ∷ []);
          joined = w.joined;
          total = nodes ∙ w.total;
          bytes = ap (λ m. take (10 * m) N) nodes ∙ w.bytes;
          long = l;
          few = omega (arith, w.few);
          spent = omega (arith, w.spent);
          room = room_on w.room o.within (omega arith);
          small = o.small;
          whole = λ N' D' x s f. w.whole N' D' x s (hit_some h k at_fits λ q p. (hit h₂ (is_a_register t₂ _ g) b
              (subst (λ E. Told (option_map record_of) (Stored N') (list_loop fuel t₀ (w.items ++ (w.item ∷ [])) (register_from t₂ (text_of L t₂.start t₂.end))) L T E D' u x s) d
              (subst (λ j. Told (option_map record_of) (Stored N') (list_loop fuel t₀ (w.items ++ (w.item ∷ [])) j) L T D₁ D' u x s) z f))));
        }
    again (missing g a f) r l = absurd (none-some _ (sym a ∙ r))
