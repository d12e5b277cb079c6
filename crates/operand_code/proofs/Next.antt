-- The token of a kind at the cursor, asked whether it stands there; and what a look-up finds at the cursor.
-- Assumes nothing.
use mathlib.Core.Path.{◌≡◌, refl, sym, ◌∙◌, ap}
use mathlib.Core.Bool.{true, false}
use mathlib.Core.List.{List}
use Prim.Native.Nat.{ℕ, ◌+◌, ◌<◌}
use Rattle.std.specs.Prelude.{Option, Some, None, is_some}
use Rattle.std.proofs.lemmas.Option.{none-some}
use Rattle.names.specs.Laws.{true_false}
use Rattle.names.specs.Places.{place, text_of}
use Rattle.names.specs.Tokens.{token_at}
use Rattle.names.specs.declared.tokens.Token.{Token}
use Rattle.records.specs.Counters.{stepped}
use Rattle.records.specs.Rooms.{Room}
use Rattle.records.specs.declared.counters.Counters.{Counters}
use Rattle.expressions.specs.Reader.{Reader, is, bump, run}
use Rattle.expressions.specs.Expressions.{suffixed, bare, take_size_suffix}
use Rattle.operand.specs.declared.forms.Suffixed.{Suffixed}
use Rattle.records.specs.declared.spans.Span.{Span}
use Rattle.operand_code.specs.Told.{SizeTold, size_or_none}
use Rattle.expressions.specs.Told.{Told, NextTold}
use Rattle.expressions.specs.Paths.{hit_next, miss_next, next_stepped}
use Rattle.operand_code.specs.Lookahead.{NextBy, hits, misses, ends}
use Rattle.operand_code.proofs.Rooms.{room_step, suffix_is, suffix_not}

pub not_some : {A : Type 0} (o : Option A) → is_some o ≡ false → o ≡ None
not_some (Some x) h = absurd (true_false h)
not_some None h = refl

module _ {A E : Type 0} {f : A → E} {Q : A → Counters → Type 0} {L T D D' : List ℕ} {c c₁ : Counters} {v : E} {r : Counters} {kind : ℕ} {x : Option Token} {y : Token → List ℕ → Reader A} {n : Unit {0} → Reader A} (h : NextTold T kind c x c₁) where
  pub hit_some : is_some x ≡ true → c.at < 65535 → ((k : Token) → x ≡ Some k → Told f Q (y k (text_of L k.start k.end)) L T D D' c₁ v r) → Told f Q (bump (is kind) y n) L T D D' c v r
  hit_some e l g = go x refl
    where
      go : (o : Option Token) → x ≡ o → Told f Q (bump (is kind) y n) L T D D' c v r
      go (Some k) w = hit_next h w l (g k w)
      go None w = absurd (true_false (sym e ∙ rw w refl))

  pub miss_some : is_some x ≡ false → Told f Q (n tt) L T D D' c₁ v r → Told f Q (bump (is kind) y n) L T D D' c v r
  miss_some e g = miss_next h (not_some x e) g

-- the place behind it
pub next_on : {T : List ℕ} {kind : ℕ} {c c₁ : Counters} {x : Option Token} → NextTold T kind c x c₁ → is_some x ≡ true → c.at < 65535 → c₁.at ≡ c.at + 1
next_on {T} {kind} {c} {c₁} {x} h e l = go x refl
  where
    go : (o : Option Token) → x ≡ o → c₁.at ≡ c.at + 1
    go (Some k) w = ap (λ z. z.at) (next_stepped h w l)
    go None w = absurd (true_false (sym e ∙ rw w refl))

-- what a look-up has found, and room behind it
pub record Found {A : Type 0} (look : Token → List ℕ → Option A) (L T : List ℕ) (c : Counters) (x : A) (r : Counters) : Type 0 where
  pub token : Token
  pub stands : token_at T c.at ≡ Some token
  pub is : look token (text_of L token.start token.end) ≡ Some x
  pub over : r ≡ stepped c token
  pub room : Room T r 0 1

pub found_by : {A : Type 0} {look : Token → List ℕ → Option A} {L T : List ℕ} {c : Counters} {v : Option A} {r : Counters} {x : A} → Room T c 0 1 → NextBy look L T c v r → v ≡ Some x → Found look L T c x r
found_by {look = look} {L = L} {x = x} room (hits t y at e w o) h =
    let z : y ≡ x = cc in
    record { token = t; stands = at; is = e ∙ rw z refl; over = o; room = room_step room at o }
found_by room (misses t at e w o) h = absurd (none-some _ (sym w ∙ h))
found_by room (ends at w o) h = absurd (none-some _ (sym w ∙ h))

-- where nothing is found the cursor stays
pub missed_by : {A : Type 0} {look : Token → List ℕ → Option A} {L T : List ℕ} {c : Counters} {v : Option A} {r : Counters} → NextBy look L T c v r → v ≡ None → r ≡ c
missed_by (hits t y at e w o) h = absurd (none-some _ (sym h ∙ w))
missed_by (misses t at e w o) h = o
missed_by (ends at w o) h = o

-- ---- a size

-- by the definition's suffix: none, or one of the size that the code has
pub by_size : {P : Type 0} {L T D D' : List ℕ} {c : Counters} {value : Span} {x : Suffixed} {r : Counters} → SizeTold L T D D' c value x r
    → ((run (take_size_suffix value.start) (place L T) c.at c.end).value ≡ bare → x.size ≡ 0 → x.span.end ≡ value.end → P)
    → ((run (take_size_suffix value.start) (place L T) c.at c.end).value ≡ suffixed x.size x.span → P) → P
by_size {P} {L} {T} {c = c} {value = value} {x = x} h f g = go h.suffix refl
  where
    go : (o : Option Suffixed) → h.suffix ≡ o → P
    go (Some y) e = let z : x ≡ y = h.is ∙ ap (size_or_none value) e in g (suffix_is _ (sym h.told.what ∙ e ∙ ap Some (sym z)))
    go None e = let z = h.is ∙ ap (size_or_none value) e in f (suffix_not _ (sym h.told.what ∙ e)) (ap (λ (y : Suffixed). y.size) z) (ap (λ (y : Suffixed). y.span.end) z)
