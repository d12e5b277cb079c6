-- What is decoded from the lent bytes of a list. Where the numbers do not fit, nothing moves.
-- Assumes nothing.
use Rattle.std.specs.Prelude.{◌≡◌, Bool, List, ℕ, ◌*◌, ◌+◌, ◌≤◌, leb, length, take}
use Rattle.std.proofs.Common.{sym, ◌∙◌, ap, ap₂, arith}
use Rattle.names.specs.Choice.{pick, both}
use Rattle.names.specs.Tokens.{count}
use Rattle.records.specs.Stores.{written}
use Rattle.operand.specs.declared.layouts.Layout.{Layout}
use Rattle.operand.specs.Layouts.{token_numbers}
use Rattle.operand.specs.RefusalNumbers
use Rattle.operand.specs.Entry.{good_tokens}
use Rattle.std.proofs.Math.Seq.{take-length}
use Rattle.records.specs.Written.{written_take}

-- whether each token is good, and there is room for all. A rest that is no whole token is none
unfoldable pub decodes : Layout → List ℕ → List ℕ → List ℕ → Bool
decodes w L T M = let X = token_numbers w T in both (leb (4 * count X) (length M)) (good_tokens L 0 X)

-- the tokens' numbers at the store's front, whether they are good or not
unfoldable pub decoded : Layout → List ℕ → List ℕ → List ℕ
decoded w T M = let X = token_numbers w T in written M 0 (take (4 * count X) X)

pub record Decoded (w : Layout) (L T M M' : List ℕ) (n : ℕ) : Type 0 where
  pub refusal : n ≡ pick (decodes w L T M) 0 RefusalNumbers.bad_token
  pub numbers : M' ≡ decoded w T M

-- the numbers of a list without a rest stand there
pub tokens_stored : (w : Layout) (T M : List ℕ) → length (token_numbers w T) ≡ 4 * count (token_numbers w T) → 4 * count (token_numbers w T) ≤ length M
    → take (4 * count (token_numbers w T)) (decoded w T M) ≡ token_numbers w T
unfolding decoded
tokens_stored w T M whole room =
    let X = token_numbers w T in
    let e : take (4 * count X) X ≡ X = ap (λ n. take n X) (sym whole) ∙ take-length X in
    let n : 4 * count X ≡ 0 + length X = omega arith in
    ap₂ (λ k b. take k (written M 0 b)) n e ∙ written_take M 0 X (omega arith)
