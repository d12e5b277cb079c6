-- A turn of the climb's loop: the left side so far, and what the rest of the climb tells of the whole.
-- Assumes nothing.
use Rattle.std.specs.Prelude.{Ok}
use mathlib.Core.Path.{◌≡◌, ◌∙◌, subst}
use mathlib.Core.List.{List}
use Prim.Native.Nat.{ℕ, ◌≤◌}
use native.Mathlib.Omega.{arith}
use lib.ListN.{length}
use Rattle.names.specs.declared.tokens.Token.{Token}
use Rattle.records.specs.declared.spans.Span.{Span}
use Rattle.records.specs.declared.counters.Counters.{Counters}
use Rattle.records.specs.Rooms.{NodeRoom}
use Rattle.expressions.specs.Expressions.{precedence}
use Rattle.expressions_code.specs.Answers.{apart}
use Rattle.expressions_code.specs.Terms.{Parsed, ClimbTold, Longer, OperatedTold, longer, ended}

-- before a turn from the left side s: what the rest of the climb tells, the whole tells
pub record Climbing (L T N₀ D₀ N D : List ℕ) (c : Counters) (left : Span) (min room : ℕ) (e : Counters) (s : Span) : Type 0 where
  pub free : NodeRoom T N e 1 0 0
  pub long : length N ≡ length N₀
  pub on : c.at ≤ e.at
  pub whole : (N' D' : List ℕ) (s_q : Span) (q : Counters) → ClimbTold L T N D N' D' e s min room s_q q → ClimbTold L T N₀ D₀ N' D' c left min room s_q q

pub is_longer : {L T N D N' D' : List ℕ} {c : Counters} {left : Span} {room : ℕ} {t : Token} {v_r : Parsed} {r : Counters} {x : Span} → OperatedTold L T N D N' D' c left room t v_r r → v_r ≡ Ok x
    → Longer L T N D N' D' c left room t x r
is_longer {L} {T} {N} {D} {N'} {D'} {c} {left} {room} {t} {r} {x} (longer s w h) e =
    let z : s ≡ x = cc in subst (λ y. Longer L T N D N' D' c left room t y r) z h
is_longer (ended w h) e = absurd (apart e w)

module _ {L T N₀ D₀ N D N₁ D₁ : List ℕ} {c : Counters} {left : Span} {min room : ℕ} {e : Counters} {s : Span} (w : Climbing L T N₀ D₀ N D c left min room e s)
    {t : Token} {v_r : Parsed} {r : Counters} (low : min ≤ precedence t.kind) (h : OperatedTold L T N D N₁ D₁ e s room t v_r r) where
  pub again : {x : Span} → v_r ≡ Ok x → length N₁ ≡ length N → Climbing L T N₀ D₀ N₁ D₁ c left min room r x
  again {x} p n =
      let g = is_longer h p in
      record {
        free = omega (arith, g, w.free);
        long = n ∙ w.long;
        on = omega (arith, g.on, w.on);
        whole = λ N' D' v q k. w.whole N' D' v q (g.whole min low N' D' v q k);
      }

  pub ends : ((x : Span) → v_r ≡ Ok x → ⊥) → ClimbTold L T N₀ D₀ N₁ D₁ c left min room s r
  ends n = go h
    where
      go : OperatedTold L T N D N₁ D₁ e s room t v_r r → ClimbTold L T N₀ D₀ N₁ D₁ c left min room s r
      go (longer x p k) = absurd (n x p)
      go (ended p k) = w.whole N₁ D₁ _ _ (k min low)
