-- Register lists: a register behind a sign, an item, its bits and its node, and a turn of the list's loop.
-- Assumes nothing.
use mathlib.Core.Path.{◌≡◌, refl, sym, ◌∙◌, ap, ap₂, subst}
use mathlib.Core.List.{List, [], ◌∷◌}
use Prim.Native.Nat.{ℕ, zero, suc, ◌+◌, ◌-◌, ◌*◌, ◌/◌, ◌%◌, ◌^◌, ◌≤◌, ◌<◌, max}
use native.Mathlib.Omega.{arith}
use native.Mathlib.Numerals.{add-one}
use borrow.Author.Tests.{lt-ltb, le-ltb}
use lib.Bits.{bit_or, or_step, or_zero_l, or_zero_r}
use lib.Dec.{ltb}
use lib.Pow.{pow-lt}
use Rattle.names.specs.Kinds
use Rattle.names.specs.Tokens.{count, token_at}
use Rattle.names.specs.Places.{text_of, live}
use Rattle.names.specs.declared.tokens.Token.{Token}
use Rattle.records.specs.Problems
use Rattle.records.specs.Spans.{span_or}
use Rattle.records.specs.declared.counters.Counters.{Counters}
use Rattle.records.specs.Diagnostics.{register_expected_in_register_list}
use Rattle.records.specs.NodeKinds
use Rattle.records.specs.declared.node_kinds.NodeKind.{NodeKind}
use Rattle.records.specs.declared.spans.Span.{Span}
use Rattle.records.specs.Nodes.{node_record, node_numbers, words}
use Rattle.records.specs.declared.nodes.Node.{Node}
use Rattle.operand.specs.Operand.{register_from, register_expected, ranged, list_item}
use Rattle.operand.specs.Mask.{bits_from}
use Rattle.records.specs.Rooms.{Room}
use Rattle.expressions.specs.Told.{NextTold, Raised, Told}
use Rattle.operand_code.specs.Lists.{RegisterTold, found, missing, item_of, RangedTold, rising, falling, ItemHeld, ItemTold, item_bytes}
use Rattle.operand.specs.declared.forms.Register.{Register}
use Rattle.operand_code.specs.declared.lists.Item.{Item}
use Rattle.names.specs.Laws.{true_false}
use Rattle.operand.specs.Operand.{a_register}
use Rattle.operand_code.specs.Lookahead.{register_at, NextBy, hits, misses, ends}
use Rattle.operand_code.proofs.lookahead.Names.{holds_at, holds_end, no_register, is_a_register, register_is, register_within}
use Rattle.expressions.specs.Paths.{answered, hereby, raised, hit, missed, miss_next, seen, beyond, chosen, unchosen}
use Rattle.std.proofs.lemmas.Option.{none-some}
use Rattle.operand_code.proofs.Next.{hit_some, next_on}
use Rattle.std.specs.Prelude.{true, Option, Some, None, is_some, option_map}

-- ---- a register behind a sign

-- a diagnostic for each token that is passed
pub room_on : {T : List ℕ} {c c₁ : Counters} → Room T c 0 1 → c₁.at ≤ count T → c₁.diagnostics + c.at ≤ c.diagnostics + c₁.at → Room T c₁ 0 1
room_on h w q = omega (arith, h, w, q)

pub record FoundAt (T : List ℕ) (c : Counters) (q : Register) (r : Counters) : Type 0 where
  pub on : r.at ≡ c.at + 1
  pub within : r.at ≤ count T
  pub same : r.nodes ≡ c.nodes
  pub quiet : r.diagnostics ≡ c.diagnostics
  pub small : q.index < 16

pub found_at : {L T D D' : List ℕ} {c : Counters} {sign : ℕ} {v : Option Register} {r : Counters} {q : Register} → RegisterTold L T D D' c sign v r → v ≡ Some q → FoundAt T c q r
found_at {L} {T} {c = c} {r = r} {q = q} (found t n h g e f d) w =
    let z : n ≡ q = cc in
    let l = live T c.at t h in
    record {
      on = ap (λ z. z.at) f;
      within = omega (arith, ap (λ z. z.at) f);
      same = ap (λ z. z.nodes) f;
      quiet = ap (λ z. z.diagnostics) f;
      small = subst (λ y. y.index < 16) z (register_within t _ g);
    }
found_at (missing h e f) w = absurd (none-some _ (sym e ∙ w))

-- as the code looks it up
pub register_found : {L T D : List ℕ} {c : Counters} {sign : ℕ} {v : Option Register} {r : Counters} → NextBy register_at L T c v r → is_some v ≡ true → RegisterTold L T D D c sign v r
register_found (hits t y at e w o) h = found t y at e w o refl
register_found (misses t at e w o) h = absurd (true_false (sym h ∙ rw w refl))
register_found (ends at w o) h = absurd (true_false (sym h ∙ rw w refl))

pub register_missed : {L T D D' : List ℕ} {c : Counters} {sign : ℕ} {v : Option Register} {r s : Counters} → NextBy register_at L T c v r → v ≡ None
    → Raised D D' r (register_expected_in_register_list sign (span_or (token_at T r.at) r.end)) s → RegisterTold L T D D' c sign v s
register_missed (hits t y at e w o) h g = absurd (none-some _ (sym h ∙ w))
register_missed (misses t at e w o) h g = missing (holds_at a_register _ _ _ _ at ∙ no_register _ _ e) h (rw o at g)
register_missed (ends at w o) h g = missing (holds_end a_register _ _ _ at) h (rw o at g)

-- what the reader says where none stands
pub expected : {A B : Type 0} {f : Option A → B} {Q : Option A → Counters → Type 0} {L T D D' : List ℕ} {c r : Counters} {v : B} (sign : ℕ)
    → Raised D D' c (register_expected_in_register_list sign (span_or (token_at T c.at) c.end)) r → v ≡ f None → Q None r → Told f Q (register_expected sign) L T D D' c v r
unfolding register_expected span_or
expected {f = f} {Q = Q} {L = L} {T = T} {D = D} {D' = D'} {c = c} {r = r} {v = v} sign h e q = go (token_at T c.at) refl h
  where
    go : (p : Option Token) → token_at T c.at ≡ p → Raised D D' c (register_expected_in_register_list sign (span_or p c.end)) r → Told f Q (register_expected sign) L T D D' c v r
    go (Some t) g h = seen (omega arith) g refl (raised h (answered e refl q))
    go None g h = beyond (omega arith) g (hereby (raised h (answered e refl q)))

-- ---- the bits

-- the half of a sum of a double and a bit
or_half : (a b : ℕ) → bit_or a b / 2 ≡ bit_or (a / 2) (b / 2)
or_half a b = omega (arith, or_step a b)

or_odd : (a b : ℕ) → bit_or a b % 2 ≡ max (a % 2) (b % 2)
or_odd a b = omega (arith, or_step a b)

or_assoc_within : (n a b c : ℕ) → a ≤ n → bit_or (bit_or a b) c ≡ bit_or a (bit_or b c)
or_assoc_within zero a b c h = let e : a ≡ 0 = omega arith in rw (e, or_zero_l b, or_zero_l (bit_or b c))
or_assoc_within (suc n) a b c h =
    or_step (bit_or a b) c
    ∙ ap₂ (λ x y. x * 2 + y)
    (ap (λ x. bit_or x (c / 2)) (or_half a b) ∙ or_assoc_within n (a / 2) (b / 2) (c / 2) (omega arith) ∙ ap (bit_or (a / 2)) (sym (or_half b c)))
    (omega (arith, or_odd a b, or_odd b c))
    ∙ sym (or_step a (bit_or b c))

pub or_assoc : (a b c : ℕ) → bit_or (bit_or a b) c ≡ bit_or a (bit_or b c)
or_assoc a b c = or_assoc_within a a b c (omega arith)

-- the code's bit is shifted in sixteen bits
shifted : (i : ℕ) → i < 16 → 1 * 2 ^ i % 65536 ≡ 2 ^ i
shifted i h = let l : 2 ^ i < 65536 = pow-lt {i = i} {j = 16} h in omega arith

-- the bit i, and then those behind it
pub bits_on : (bits i to : ℕ) → i ≤ to → to < 16 → bit_or (bit_or bits (1 * 2 ^ i % 65536)) (bits_from (i + 1) (to + 1 - (i + 1))) ≡ bit_or bits (bits_from i (to + 1 - i))
unfolding bits_from
bits_on bits i to h l =
    let e : to + 1 - i ≡ suc (to + 1 - (i + 1)) = omega arith in
    rw (shifted i (omega arith), e, add-one i) (or_assoc bits (2 ^ i) (bits_from (suc i) (to + 1 - suc i)))

pub bits_end : (bits i to : ℕ) → to < i → bit_or bits (bits_from i (to + 1 - i)) ≡ bits
unfolding bits_from
bits_end bits i to h = let e : to + 1 - i ≡ 0 = omega arith in rw e (or_zero_r bits)

-- ---- an item's node

low_cons : (n a r : ℕ) → a < 65536 → words (suc n) (a + 65536 * r) ≡ a ∷ words n r
unfolding words
low_cons n a r h = let e : (a + 65536 * r) % 65536 ≡ a = omega arith in let f : (a + 65536 * r) / 65536 ≡ r = omega arith in rw (e, f)

abbrev Packed : Span → ℕ → Type 0
Packed s n = (n ≡ s.start + 65536 * s.end) × (s.start < 65536) × (s.end < 65536)

low_four : (a b c d : ℕ) → a < 65536 → b < 65536 → c < 65536 → d < 65536 → words 4 (a + 65536 * b + 4294967296 * (c + 65536 * d)) ≡ a ∷ b ∷ c ∷ d ∷ []
unfolding words
low_four a b c d h i j k =
    let e : a + 65536 * b + 4294967296 * (c + 65536 * d) ≡ a + 65536 * (b + 65536 * (c + 65536 * (d + 65536 * 0))) = omega arith in
    ap (words 4) e
    ∙ low_cons 3 a _ h
    ∙ ap (λ l. a ∷ l) (low_cons 2 b _ i ∙ ap (λ l. b ∷ l) (low_cons 1 c _ j ∙ ap (λ l. c ∷ l) (low_cons 0 d 0 k)))

pub item_numbers : (x : Item) {node : Node} {p q : ℕ} → node.kind ≡ NodeKinds.number x.kind → node.detail ≡ 0 → node.left ≡ x.from.index → node.right ≡ x.to.index → node.span ≡ x.span → Packed x.from.span p → Packed x.to.span q
    → node.value ≡ p + 4294967296 * q → node_numbers node ≡ item_bytes x
unfolding item_bytes
item_numbers x k d a b s f t v = rw (k, d, a, b, s, v, f.0, t.0) (ap (λ z. node_record (NodeKinds.number x.kind) 0 x.from.index x.to.index x.span z) (low_four _ _ _ _ f.1 f.2 t.1 t.2))

-- ---- an item

pub single_told : {L T D : List ℕ} {c c₁ : Counters} (r : Register) {x : Item} {o : Option Token} → c.at ≤ count T → r.index < 16 → x ≡ record { kind = NodeKind.Single; from = r; to = r; span = r.span }
    → NextTold T Kinds.minus c o c₁ → o ≡ None → ItemTold L T D D c r (Some x) c₁
unfolding list_item item_of ItemHeld
single_told r w n e h m =
    miss_next h m (answered (ap Some e) refl (record { same = h.nodes; on = h.from; within = omega (arith, w, h); quiet = omega (arith, h); from_small = n; to_small = n }))

-- a range, two tokens behind c
ranged_told : (c : Counters) {L T D D' : List ℕ} {c₁ : Counters} {r q : Register} {x : Item} {s : Counters} → c₁.at ≤ count T → c₁.at ≡ c.at + 2 → c₁.nodes ≡ c.nodes → c₁.diagnostics ≡ c.diagnostics
    → r.index < 16 → q.index < 16 → RangedTold D D' c₁ r q x s → Told (option_map item_of) (ItemHeld T c) (ranged r q) L T D D' c₁ (Some x) s
unfolding ranged item_of ItemHeld
ranged_told c {L} {T} {D} {D'} {c₁} {r} {q} {x} {s} w a b d m n (rising h e f g) =
    subst (λ E. Told (option_map item_of) (ItemHeld T c) (ranged r q) L T D E c₁ (Some x) s) (sym g)
    (unchosen (ltb q.index r.index) _ (le-ltb q.index r.index h)
    (answered (ap Some e) f (record { same = b; on = omega arith; within = w; quiet = omega arith; from_small = m; to_small = n })))
ranged_told c {c₁ = c₁} {r = r} {q = q} w a b d m n (falling h e f) =
    let g = f.counters in
    chosen (ltb q.index r.index) _ (lt-ltb q.index r.index h)
    (raised f (answered (ap Some e) refl (record {
      same = ap (λ z. z.nodes) g ∙ b;
      on = omega (arith, ap (λ z. z.at) g);
      within = omega (arith, ap (λ z. z.at) g);
      quiet = omega (arith, ap (λ z. z.at) g, ap (λ z. z.diagnostics) g);
      from_small = m;
      to_small = n;
    })))

-- behind a minus
module _ {L T D D₁ : List ℕ} {c c₁ : Counters} (r : Register) {o : Option Token} (h : NextTold T Kinds.minus c o c₁) (e : is_some o ≡ true) (l : c.at < 65535) where
  pub range_none : {v : Option Register} {u : Counters} → RegisterTold L T D D₁ c₁ 45 v u → v ≡ None → ItemTold L T D D₁ c r None u
  unfolding list_item ItemHeld
  range_none (found t₂ n h₂ g a b d) w = absurd (none-some _ (sym w ∙ a))
  range_none (missing g a f) w = hit_some h e l λ k w. (missed g (expected Problems.after_minus f refl tt))

  pub range_some : {D₂ : List ℕ} {v : Option Register} {u : Counters} {q : Register} {x : Item} {s : Counters} → r.index < 16 → RegisterTold L T D D₁ c₁ 45 v u → v ≡ Some q
      → RangedTold D₁ D₂ u r q x s → ItemTold L T D D₂ c r (Some x) s
  unfolding list_item
  range_some {D₂} {v} {u} {q} {x = i} {s = s} m (found t₂ n h₂ g a b d) w x =
      let y = register_is t₂ _ g in
      let z : ◌≡◌ {A = Register} q (register_from t₂ (text_of L t₂.start t₂.end)) = cc y in
      let j : RegisterTold L T D D₁ c₁ 45 v u = found t₂ n h₂ g a b d in
      let f = found_at j w in
      let at₁ : c₁.at ≡ c.at + 1 = next_on h e l in
      hit_some h e l λ k w.
      (hit h₂ (is_a_register t₂ _ g) b
      (subst (λ E. Told (option_map item_of) (ItemHeld T c) (ranged r (register_from t₂ (text_of L t₂.start t₂.end))) L T E D₂ u (Some i) s) d
      (subst (λ j. Told (option_map item_of) (ItemHeld T c) (ranged r j) L T D₁ D₂ u (Some i) s) z
      (ranged_told c f.within (omega arith) (omega (arith, h)) (omega (arith, h)) m f.small x))))
  range_some m (missing g a f) w x = absurd (none-some _ (sym a ∙ w))
