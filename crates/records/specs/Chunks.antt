-- The numbers of a list that is cut into chunks of n.
-- Assumes nothing.
use Rattle.std.specs.Prelude.{◌≡◌, List, ℕ, zero, suc, ◌+◌, ◌*◌, ◌<◌, take, drop, get_or}
use Rattle.std.proofs.Common.{sym, ◌∙◌, ap, add-zero, arith, get_or-take, get_or-drop, drop-drop}
use Rattle.std.proofs.Math.Nat.{mul-zero, mul-suc}
use Rattle.std.specs.Simd.{first_chunks}

pub chunk : (n k : ℕ) (M : List ℕ) (i : ℕ) (x : List ℕ) → i < k → get_or (first_chunks n k M) i x ≡ take n (drop (n * i) M)
chunk n zero M i x h = absurd (omega arith)
chunk n (suc k) M zero x h = ap (λ j. take n (drop j M)) (sym (mul-zero n))
chunk n (suc k) M (suc i) x h = chunk n k (drop n M) i x (omega arith) ∙ ap (take n) (drop-drop (n * i) n M) ∙ ap (λ j. take n (drop j M)) (omega (arith, mul-suc n i))

-- the j-th number of the i-th chunk
module _ (n k : ℕ) (M : List ℕ) (C : List (List ℕ)) (front : C ≡ first_chunks n k M) (i : ℕ) (x : List ℕ) (h : i < k) where
  pub number : (j : ℕ) → j < n → get_or (get_or C i x) j 0 ≡ get_or M (n * i + j) 0
  number j g = ap (λ c. get_or (get_or c i x) j 0) front ∙ ap (λ c. get_or c j 0) (chunk n k M i x h) ∙ get_or-take n (drop (n * i) M) j 0 g ∙ get_or-drop (n * i) M j 0

  pub first : 0 < n → get_or (get_or C i x) 0 0 ≡ get_or M (n * i) 0
  first g = number 0 g ∙ ap (λ p. get_or M p 0) (add-zero (n * i))
