-- What is left of a part of the input.
-- Assumes nothing.
use mathlib.Core.Path.{◌≡◌, refl, sym, ◌∙◌}
use mathlib.Core.List.{List, [], ◌∷◌}
use Prim.Native.Nat.{ℕ, zero, suc, ◌-◌, ◌≤◌, ◌<◌}
use native.Mathlib.Omega.{arith}
use lib.ListN.{length, take, drop, length-take, length-drop}
use lib.Seq.{take_all}
use Rattle.frames.specs.Machine.{State, steps, fresh}
use Rattle.frames.specs.Batches.{BatchTold}
use Rattle.frames.specs.Program.{Run, drained, Leaves}
use Rattle.frames.specs.Bounds.{progress, batch_progress}
use Rattle.frames.specs.declared.batches.Batched.{Batched}

-- ---- two runs that leave the same

pub record Same (a b : Run) : Type 0 where
  pub held : a.held ≡ b.held
  pub carry : a.carry ≡ b.carry
  pub out : a.out ≡ b.out

turned : {a b : Run} → Same a b → Same b a
turned p = record { held = sym p.held; carry = sym p.carry; out = sym p.out }

joined : {a b c : Run} → Same a b → Same b c → Same a c
joined p q = record { held = p.held ∙ q.held; carry = p.carry ∙ q.carry; out = p.out ∙ q.out }

-- more calls than bytes make no difference
enough : (n m : ℕ) (xs : List ℕ) (h : ℕ) (C O : List ℕ) → length xs ≤ n → length xs ≤ m → Same (drained n xs h C O) (drained m xs h C O)
unfolding drained
enough zero zero [] h C O e f = record { held = refl; carry = refl; out = refl }
enough zero (suc m) [] h C O e f = record { held = refl; carry = refl; out = refl }
enough (suc n) zero [] h C O e f = record { held = refl; carry = refl; out = refl }
enough (suc n) (suc m) [] h C O e f = record { held = refl; carry = refl; out = refl }
enough zero m (b ∷ bs) h C O e f = absurd (omega arith)
enough (suc n) zero (b ∷ bs) h C O e f = absurd (omega arith)
enough (suc n) (suc m) (b ∷ bs) h C O e f =
    let s = steps (b ∷ bs) (fresh h C O) in
    let k = length-drop s.consumed (b ∷ bs) in
    let g = progress b bs h C O in
    let r = enough n m (drop s.consumed (b ∷ bs)) s.held s.carry s.out (omega arith) (omega arith) in
    record { held = r.held; carry = r.carry; out = r.out }

-- one call, and the rest
next : (n : ℕ) (xs : List ℕ) (h : ℕ) (C O : List ℕ) → 0 < length xs → length xs ≤ suc n
    → Same (drained (suc n) xs h C O) (drained n (drop (steps xs (fresh h C O)).consumed xs) (steps xs (fresh h C O)).held (steps xs (fresh h C O)).carry (steps xs (fresh h C O)).out)
unfolding drained
next n [] h C O p e = absurd (omega arith)
next n (b ∷ bs) h C O p e = record { held = refl; carry = refl; out = refl }

-- ---- the loop

-- where the run over what is left leaves what the whole run leaves
abbrev pub Rest : List ℕ → List ℕ → ℕ → List ℕ → List ℕ → ℕ → List ℕ → List ℕ → Type 0
Rest I R h C O h₀ C₀ O₀ = Same (drained (length R) R h C O) (drained (length I) I h₀ C₀ O₀)

pub rest_all : (I : List ℕ) (h : ℕ) (C O : List ℕ) → Rest I I h C O h C O
rest_all I h C O = record { held = refl; carry = refl; out = refl }

moved : (R : List ℕ) {c c' h h' : ℕ} {C C' O O' : List ℕ} {D : Run} → c ≡ c' → h ≡ h' → C ≡ C' → O ≡ O'
    → Same (drained (length (drop c' R)) (drop c' R) h' C' O') D → Same (drained (length (drop c R)) (drop c R) h C O) D
moved R e₁ e₂ e₃ e₄ q = rw (e₁, e₂, e₃, e₄) q

pub rest_on : (I R : List ℕ) (h : ℕ) (C O C' O' : List ℕ) (r : Batched) (h₀ : ℕ) (C₀ O₀ : List ℕ) → 0 < length R
    → BatchTold R h C O C' O' r → Rest I R h C O h₀ C₀ O₀ → Rest I (take (length R - r.consumed) (drop r.consumed R)) r.held C' O' h₀ C₀ O₀
rest_on I R h C O C' O' r h₀ C₀ O₀ some p q =
    let s : State = steps R (fresh h C O) in
    let n : ℕ = length R - 1 in
    let ys : List ℕ = drop s.consumed R in
    let e : length R ≡ suc n = omega arith in
    let few : length ys ≤ n = omega (arith, length-drop s.consumed R, p.consumed, batch_progress R h C O C' O' r p some) in
    let fewer = enough (length ys) n ys s.held s.carry s.out (omega arith) few in
    let one = next n R h C O some (omega arith) in
    let old : Same (drained (suc n) R h C O) (drained (length I) I h₀ C₀ O₀) = rw e at q in
    rw (take_all (length R - r.consumed) (drop r.consumed R) (omega (arith, length-drop r.consumed R)))
    (moved R p.consumed p.held p.carry p.out (joined (joined fewer (turned one)) old))

-- it is shorter
pub rest_less : (R : List ℕ) (h : ℕ) (C O C' O' : List ℕ) (r : Batched) → 0 < length R → BatchTold R h C O C' O' r → length (take (length R - r.consumed) (drop r.consumed R)) < length R
rest_less R h C O C' O' r some p = omega (arith, batch_progress R h C O C' O' r p some, length-take {A = ℕ}, length-drop {A = ℕ})

pub rest_end : (I R : List ℕ) (h : ℕ) (C O : List ℕ) (h₀ : ℕ) (C₀ O₀ : List ℕ) → length R ≡ 0 → Rest I R h C O h₀ C₀ O₀ → Leaves (drained (length I) I h₀ C₀ O₀) h C O
unfolding drained
rest_end I [] h C O h₀ C₀ O₀ none q = record { held = q.held; carry = q.carry; out = q.out }
rest_end I (b ∷ bs) h C O h₀ C₀ O₀ none q = absurd (omega arith)
