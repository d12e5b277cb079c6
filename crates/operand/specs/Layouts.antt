-- The two layouts: how a number is written and read in each, how long the records are, and what is the most.
-- Assumes nothing.
use Rattle.std.specs.Prelude.{◌≡◌, refl, List, [], ◌∷◌, ℕ, ◌+◌, ◌*◌, ◌/◌, ◌%◌, ◌≤◌, ◌<◌, length, get_or}
use Rattle.std.proofs.Common.{arith}
use Rattle.names.specs.Tokens.{count}
use Rattle.records.specs.Nodes.{low_first}
use Rattle.operand.specs.declared.layouts.Layout.{Layout}

-- ---- a number

-- the bytes of an offset, a node's number, a count, a start, a mark or a cursor, and of a register that stands in such a place
abbrev pub width : Layout → ℕ
width Layout.Narrow = 1
width Layout.Wide = 2

-- such a number, low byte first
unfoldable pub number : Layout → ℕ → List ℕ
number w v = low_first (width w) v

-- the number of two bytes
abbrev pub joined : ℕ → ℕ → ℕ
joined low high = low + 256 * high

-- the one that stands from a place on
unfoldable pub number_at : Layout → List ℕ → ℕ → ℕ
number_at Layout.Narrow B i = get_or B i 0
number_at Layout.Wide B i = joined (get_or B i 0) (get_or B (i + 1) 0)

-- the least that is no such number
unfoldable pub numbers_end : Layout → ℕ
numbers_end Layout.Narrow = 256
numbers_end Layout.Wide = 65536

-- what is written is read
pub number_read : (w : Layout) (v : ℕ) → v < numbers_end w → number_at w (number w v) 0 ≡ v
unfolding number number_at numbers_end low_first
number_read Layout.Narrow v h = omega arith
number_read Layout.Wide v h = omega arith

-- ---- the bytes of a record

-- kind, detail, start, end
abbrev pub token_size : Layout → ℕ
token_size Layout.Narrow = 4
token_size Layout.Wide = 6

abbrev pub node_size : Layout → ℕ
node_size Layout.Narrow = 14
node_size Layout.Wide = 18

abbrev pub diagnostic_size : Layout → ℕ
diagnostic_size Layout.Narrow = 10
diagnostic_size Layout.Wide = 16

abbrev pub operand_size : Layout → ℕ
operand_size Layout.Narrow = 20
operand_size Layout.Wide = 30

-- ---- tokens

-- six bytes a token, four numbers. A rest of fewer than six is no token
unfoldable pub joined_tokens : List ℕ → List ℕ
joined_tokens [] = []
joined_tokens (k ∷ []) = []
joined_tokens (k ∷ d ∷ []) = []
joined_tokens (k ∷ d ∷ s ∷ []) = []
joined_tokens (k ∷ d ∷ s ∷ s₂ ∷ []) = []
joined_tokens (k ∷ d ∷ s ∷ s₂ ∷ e ∷ []) = []
joined_tokens (k ∷ d ∷ s ∷ s₂ ∷ e ∷ e₂ ∷ ts) = k ∷ d ∷ joined s s₂ ∷ joined e e₂ ∷ joined_tokens ts

-- the numbers of a lent list, four a token: kind, detail, start, end. In the narrow layout they are its bytes
unfoldable pub token_numbers : Layout → List ℕ → List ℕ
token_numbers Layout.Narrow T = T
token_numbers Layout.Wide T = joined_tokens T

joined_count : (T : List ℕ) → length (joined_tokens T) ≡ 4 * (length T / 6)
unfolding joined_tokens
joined_count [] = refl
joined_count (k ∷ []) = refl
joined_count (k ∷ d ∷ []) = refl
joined_count (k ∷ d ∷ s ∷ []) = refl
joined_count (k ∷ d ∷ s ∷ s₂ ∷ []) = refl
joined_count (k ∷ d ∷ s ∷ s₂ ∷ e ∷ []) = refl
joined_count (k ∷ d ∷ s ∷ s₂ ∷ e ∷ e₂ ∷ ts) = omega (arith, joined_count ts)

-- bytes without a rest are whole tokens
pub numbers_whole : (w : Layout) (T : List ℕ) → length T % token_size w ≡ 0 → length (token_numbers w T) ≡ 4 * count (token_numbers w T)
unfolding token_numbers
numbers_whole Layout.Narrow T h = omega arith
numbers_whole Layout.Wide T h = omega (arith, joined_count T)

-- as many tokens as the bytes have records
pub numbers_count : (w : Layout) (T : List ℕ) → count (token_numbers w T) ≡ length T / token_size w
unfolding token_numbers
numbers_count Layout.Narrow T = refl
numbers_count Layout.Wide T = omega (arith, joined_count T)

-- ---- limits, shut so that nothing computes them

-- the bytes of the longest line
unfoldable pub longest_line : Layout → ℕ
longest_line Layout.Narrow = 255
longest_line Layout.Wide = 4095

-- the tokens of the longest list
unfoldable pub most_tokens : Layout → ℕ
most_tokens Layout.Narrow = 255
most_tokens Layout.Wide = 1023

-- the bytes of a node store: a record for each token of the longest list
unfoldable pub node_store : Layout → ℕ
node_store Layout.Narrow = 3570
node_store Layout.Wide = 18414

-- the diagnostic records that must be free: two for each token, and one more
unfoldable pub free_records : Layout → ℕ
free_records Layout.Narrow = 511
free_records Layout.Wide = 2047

pub node_store_lem : (w : Layout) → node_store w ≡ node_size w * most_tokens w
unfolding node_store most_tokens
node_store_lem Layout.Narrow = refl
node_store_lem Layout.Wide = refl

-- so a store has a record for each token
pub nodes_within : (w : Layout) (n : ℕ) → n ≤ most_tokens w → node_size w * n ≤ node_store w
unfolding most_tokens node_store
nodes_within Layout.Narrow n h = omega arith
nodes_within Layout.Wide n h = omega arith

pub free_records_lem : (w : Layout) → free_records w ≡ 2 * most_tokens w + 1
unfolding free_records most_tokens
free_records_lem Layout.Narrow = refl
free_records_lem Layout.Wide = refl

-- so many whole records lie within the bytes
pub records_within : (w : Layout) (n bytes : ℕ) → n ≤ bytes / diagnostic_size w → diagnostic_size w * n ≤ bytes
records_within Layout.Narrow n bytes h = omega arith
records_within Layout.Wide n bytes h = omega arith

-- and no more
pub records_past : (w : Layout) (n bytes : ℕ) → bytes / diagnostic_size w < n → bytes < diagnostic_size w * n
records_past Layout.Narrow n bytes h = omega arith
records_past Layout.Wide n bytes h = omega arith

-- so many tokens the fuel of the reading allows
pub most_tokens_lem : (w : Layout) → most_tokens w ≤ 1023
unfolding most_tokens
most_tokens_lem Layout.Narrow = omega arith
most_tokens_lem Layout.Wide = omega arith

-- the number of all ones, which stands for an absent one, is no place of the line and no token's
pub numbers_fit : (w : Layout) → (longest_line w < numbers_end w) × (most_tokens w + 1 ≤ numbers_end w)
unfolding longest_line most_tokens numbers_end
numbers_fit Layout.Narrow = omega arith
numbers_fit Layout.Wide = omega arith
