-- A list from a place on.
-- Assumes nothing.
use Rattle.std.proofs.Common.{◌≡◌, ◌∙◌, sym, ap, List, ◌∷◌, ℕ, ◌+◌, ◌-◌, ◌<◌, ◌≤◌, length, get_or, drop, take, length-drop, drop-cons, add-one, arith}
use Rattle.std.proofs.lemmas.List.{take_rest}

-- the element at i, and the list from i + 1 on
pub from : (l : List ℕ) (i : ℕ) → i < length l → drop i l ≡ get_or l i 0 ∷ drop (i + 1) l
from l i h = rw (add-one, drop-cons l i 0)

-- what a pattern of one element and the rest calls the rest
abbrev pub rest : List ℕ → List ℕ
rest l = take (length l - 1) (drop 1 l)

pub length_rest : (l : List ℕ) → 1 ≤ length l → length (rest l) + 1 ≡ length l
length_rest l h = omega (arith, ap length (take_rest l 1), length-drop 1 l)

pub front : (l : List ℕ) → 1 ≤ length l → l ≡ get_or l 0 0 ∷ rest l
front l h = from l 0 (omega arith) ∙ ap (λ r. get_or l 0 0 ∷ r) (sym (take_rest l 1))
