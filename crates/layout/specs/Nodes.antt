-- Nodes encoded into the lent store. Where they do not fit, nothing moves.
-- Assumes nothing.
use Rattle.std.specs.Prelude.{List, ◌∷◌, ◌++◌, ℕ, ◌+◌, ◌-◌, ◌*◌, leb, length, get_or, replicate}
use Rattle.names.specs.Choice.{pick, both}
use Rattle.records.specs.Stores.{written}
use Rattle.operand.specs.Layout.{low, last_eight, node_bytes}
use Rattle.operand.specs.declared.layouts.Layout.{Layout}
use Rattle.operand.specs.Layouts.{number, node_size, most_tokens, node_store}

-- what stands before the last eight bytes of the record whose ten numbers begin at p
abbrev pub head_from : Layout → List ℕ → ℕ → List ℕ
head_from w N p =
    low (get_or N p 0) ∷ low (get_or N (p + 1) 0)
    ∷ (number w (get_or N (p + 2) 0) ++ (number w (get_or N (p + 3) 0) ++ (number w (get_or N (p + 4) 0) ++ number w (get_or N (p + 5) 0))))

-- the last eight bytes
abbrev pub last_from : Layout → List ℕ → ℕ → List ℕ
last_from w N p = last_eight w (get_or N p 0) (get_or N (p + 6) 0) (get_or N (p + 7) 0) (get_or N (p + 8) 0) (get_or N (p + 9) 0)

-- the first n node records of M, and zeros up to the store's last record
unfoldable pub nodes_encoded : Layout → List ℕ → ℕ → List ℕ → List ℕ
nodes_encoded w M n N =
    pick (both (leb n (most_tokens w)) (leb (10 * n) (length M))) (written N 0 (node_bytes w M n ++ replicate (node_store w - node_size w * n) 0)) N
