-- The program's run over an input that comes in parts.
-- Assumes nothing.
use Rattle.std.specs.Prelude.{◌≡◌, List, [], ◌∷◌, ◌++◌, ℕ, zero, suc, length, take, drop}
use Rattle.records.specs.Stores.{written}
use Rattle.frames.specs.Machine.{steps, fresh, last_line}

-- what calls of `batch` have written, and what they leave
pub record Run : Type 0 where
  pub said : List ℕ
  pub held : ℕ
  pub carry : List ℕ
  pub out : List ℕ

-- `batch` on a part of the input, and again on what is left of it, at most n times
unfoldable pub drained : ℕ → List ℕ → ℕ → List ℕ → List ℕ → Run
drained zero xs h C O = record { said = []; held = h; carry = C; out = O }
drained (suc n) [] h C O = record { said = []; held = h; carry = C; out = O }
drained (suc n) (b ∷ bs) h C O =
    let s = steps (b ∷ bs) (fresh h C O) in
    let r = drained n (drop s.consumed (b ∷ bs)) s.held s.carry s.out in
    record { said = take s.filled s.out ++ r.said; held = r.held; carry = r.carry; out = r.out }

-- one part after the other, each at most as many times as it has bytes, and `finish`
unfoldable pub program : List (List ℕ) → ℕ → List ℕ → List ℕ → List ℕ
program [] h C O = take (length (last_line h C)) (written O 0 (last_line h C))
program (x ∷ xs) h C O = let r = drained (length x) x h C O in r.said ++ program xs r.held r.carry r.out

unfoldable pub joined : List (List ℕ) → List ℕ
joined [] = []
joined (x ∷ xs) = x ++ joined xs

-- what a run leaves
pub record Leaves (r : Run) (h : ℕ) (C O : List ℕ) : Type 0 where
  pub held : h ≡ r.held
  pub carry : C ≡ r.carry
  pub out : O ≡ r.out
