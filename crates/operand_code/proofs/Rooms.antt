-- What is left of the stores behind a reader that has read something: its law bounds the diagnostics by the tokens.
-- Assumes nothing.
use mathlib.Core.Path.{◌≡◌, refl, sym, ◌∙◌}
use mathlib.Core.List.{List}
use Prim.Native.Nat.{ℕ, ◌+◌, ◌≤◌}
use native.Mathlib.Omega.{arith}
use lib.ListN.{length}
use Rattle.names.specs.Tokens.{count, token_at}
use Rattle.names.specs.Places.{place, below, live}
use Rattle.names.specs.declared.tokens.Token.{Token}
use Rattle.records.specs.declared.counters.Counters.{Counters}
use Rattle.expressions.specs.declared.reading.Setting.{Setting}
use Rattle.expressions.proofs.Costs.{all_clean, suffix_cost}
use Rattle.expressions.specs.Expressions.{Suffix, suffixed, bare, take_size_suffix}
use Rattle.expressions.specs.Laws as laws
use Rattle.expressions.specs.Laws.{Law, law_run}
use Rattle.expressions.specs.Reader.{Reader, run}
use Rattle.records.specs.Counters.{stepped, Over, over_is}
use Rattle.operand.specs.Operand.{parse_index_register, parse_base_and_index_registers}
use Rattle.operand.proofs.Costs.{Left}
use Rattle.operand.proofs.Costs as cost
use Rattle.operand.specs.Forms.{suffix_read}
use Rattle.records.specs.Rooms.{Room, NodeRoom}
use Rattle.expressions.specs.Told.{Told}
use Rattle.operand.specs.declared.forms.IndexRegister.{IndexRegister}
use Rattle.operand.specs.declared.forms.Registers.{Registers}
use Rattle.operand.specs.declared.forms.Suffixed.{Suffixed}
use Rattle.std.proofs.lemmas.Option.{none-some}
use Rattle.std.specs.Prelude.{Option, Some, None, option_map}

-- ---- the definition's answer, by the code's

-- the answer that the code has a value for
pub record MappedAs {A B : Type 0} (f : A → B) (m : Option A) (y : B) : Type 0 where
  pub part : A
  pub is : m ≡ Some part
  pub form : f part ≡ y

pub map_is : {A B : Type 0} (f : A → B) (m : Option A) {y : B} → option_map f m ≡ Some y → MappedAs f m y
map_is f (Some x) h = record { part = x; is = refl; form = cc }
map_is f None h = absurd (none-some _ h)

pub map_not : {A B : Type 0} (f : A → B) (m : Option A) → option_map f m ≡ None → m ≡ None
map_not f (Some x) h = absurd (none-some _ (sym h))
map_not f None h = refl

pub suffix_is : (m : Suffix) {x : Suffixed} → suffix_read m ≡ Some x → m ≡ suffixed x.size x.span
unfolding suffix_read
suffix_is (suffixed n s) h = cc
suffix_is bare h = absurd (none-some _ h)

pub suffix_not : (m : Suffix) → suffix_read m ≡ None → m ≡ bare
unfolding suffix_read
suffix_not (suffixed n s) h = absurd (none-some _ (sym h))
suffix_not bare h = refl

-- ---- room

-- behind a token
pub room_step : {T : List ℕ} {c c₁ : Counters} {k : Token} {n : ℕ} → Room T c n 1 → token_at T c.at ≡ Some k → c₁ ≡ stepped c k → Room T c₁ n 1
room_step {T} {c} {k = k} h t e = let l = live T c.at k t in rw e (omega (arith, h, l))

-- behind a token that the code steps over
module _ {T : List ℕ} {c c₁ : Counters} {k : Token} {n : ℕ} (h : Room T c n 1) (o : Over c k c₁) where
  pub over_room : c₁ ≡ stepped c k
  over_room = over_is (omega (arith, h)) o

  pub room_over : token_at T c.at ≡ Some k → Room T c₁ n 1
  room_over t = room_step h t over_room

-- with room for nodes
module _ {T N : List ℕ} {c c₁ : Counters} {k : Token} {n : ℕ} (h : NodeRoom T N c n 0 1) (o : Over c k c₁) where
  pub node_over : token_at T c.at ≡ Some k → NodeRoom T N c₁ n 0 1
  node_over t = let l = live T c.at k t in rw (over_room h.room o) (omega (arith, h, l))

-- behind a reader that has raised no more than it has consumed
room_behind : {A B : Type 0} {f : A → B} {Q : A → Counters → Type 0} {p : Reader A} {L T D D₁ : List ℕ} {c : Counters} {v : B} {c₁ : Counters} {n : ℕ}
    → Room T c n 1 → Told f Q p L T D D₁ c v c₁ → length (run p (place L T) c.at c.end).raised + c.at ≤ (run p (place L T) c.at c.end).cursor → Room T c₁ 0 1
room_behind {p = p} {L = L} {T = T} {c = c} h t q = record {
  few = h.few;
  within = omega (arith, t.at, laws.within p (place L T) (count T) c.at c.end (λ j k x g. below L T j k x g) h.within);
  stand = omega arith;
  seen_fit = omega (arith, h.seen_fit, t.at, t.seen);
}

pub suffix_room : (from : ℕ) {Q : Suffix → Counters → Type 0} {L T D D₁ : List ℕ} {c : Counters} {v : Option Suffixed} {c₁ : Counters} {n : ℕ}
    → Room T c n 1 → Told suffix_read Q (take_size_suffix from) L T D D₁ c v c₁ → Room T c₁ 0 1
suffix_room from {L = L} {T = T} {c = c} h t =
    room_behind h t (omega (arith, (law_run (suffix_cost (place L T) 0 (all_clean (place L T)) from c.at c.end 0 0)).0))

-- behind a reader that has answered something
pub left_room : {A B : Type 0} {f : Option A → B} {Q : Option A → Counters → Type 0} {p : Reader (Option A)} {L T D D₁ : List ℕ} {c : Counters} {v : B} {c₁ : Counters} (g : A → ℕ) (least given far : ℕ) {x : A} {n : ℕ}
    → Law p (place L T) (Left (place L T) 0 (all_clean (place L T)) g least given far c.at 0 0) c.at c.end 0 0
    → (run p (place L T) c.at c.end).value ≡ Some x → Room T c n 1 → Told f Q p L T D D₁ c v c₁ → Room T c₁ 0 1
left_room g least given far law w h t = let q = rw w at (law_run law) in room_behind h t (omega (arith, q.2))

pub index_room : (s : Setting) (shape : ℕ) {Q : Option IndexRegister → Counters → Type 0} {L T D D₁ : List ℕ} {c : Counters} {v : Option IndexRegister} {c₁ : Counters} {x : IndexRegister}
    → Room T c 0 1 → Told (λ z. z) Q (parse_index_register s shape) L T D D₁ c v c₁ → v ≡ Some x → Room T c₁ 0 1
index_room s shape {L = L} {T = T} {c = c} h t w =
    left_room (cost.nil (place L T) 0 (all_clean (place L T))) 1 0 0 (cost.index_cost (place L T) 0 (all_clean (place L T)) s shape c.at c.end 0 0) (sym t.what ∙ w) h t

pub registers_room : (s : Setting) (shape : ℕ) {Q : Option Registers → Counters → Type 0} {L T D D₁ : List ℕ} {c : Counters} {v : Option Registers} {c₁ : Counters} {x : Registers}
    → Room T c 0 1 → Told (λ z. z) Q (parse_base_and_index_registers s shape) L T D D₁ c v c₁ → v ≡ Some x → Room T c₁ 0 1
registers_room s shape {L = L} {T = T} {c = c} h t w =
    left_room (cost.nil (place L T) 0 (all_clean (place L T))) 1 0 1 (cost.registers_cost (place L T) 0 (all_clean (place L T)) s shape c.at c.end 0 0) (sym t.what ∙ w) h t
