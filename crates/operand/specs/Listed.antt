-- What is said of a list of tokens that is good, from a token on.
-- Assumes nothing.
use Rattle.std.proofs.Math.Path.{◌≡◌, refl}
use Rattle.std.proofs.Common.{Some, None, ◌∙◌, ap, arith, add-one, leb-false, length-drop, drop-cons}
use Rattle.std.specs.Prelude.{Bool, ℕ, ◌+◌, ◌*◌, ◌≤◌, ◌<◌, length, get_or, drop}
use Rattle.std.proofs.Math.Bool.{true, false}
use mathlib.Core.List.{List, [], ◌∷◌}
use Rattle.std.proofs.Math.Dec.{leb}
use Rattle.names.specs.Choice.{pick, both}
use Rattle.names.specs.Tokens.{count, token_from, token_at}
use Rattle.names.specs.declared.tokens.Token.{Token}
use Rattle.operand.specs.Entry.{good_token, good_tokens}

-- the element at i, and the list from behind it on
pub from : (l : List ℕ) (i j : ℕ) → j ≡ i + 1 → i < length l → drop i l ≡ get_or l i 0 ∷ drop j l
from l i j e h = rw (e, add-one, drop-cons l i 0)

module _ (T : List ℕ) (i : ℕ) where
  pub token_below : (t : Token) → token_at T i ≡ Some t → (i < count T) × (token_from T i ≡ t)
  unfolding token_at
  token_below t h = go (leb (count T) i) refl h
    where
      go : (b : Bool) → leb (count T) i ≡ b → pick b None (Some (token_from T i)) ≡ Some t → (i < count T) × (token_from T i ≡ t)
      go true q g = let z : ◌≡◌ {A = ℕ} 0 1 = cc in absurd (omega arith)
      go false q g = (leb-false (count T) i q, cc)

  pub four : i < count T → drop (4 * i) T ≡ get_or T (4 * i) 0 ∷ get_or T (4 * i + 1) 0 ∷ get_or T (4 * i + 2) 0 ∷ get_or T (4 * i + 3) 0 ∷ drop (4 * (i + 1)) T
  four h =
      from T (4 * i) (4 * i + 1) refl (omega arith)
      ∙ ap (λ l. get_or T (4 * i) 0 ∷ l) (from T (4 * i + 1) (4 * i + 2) (omega arith) (omega arith))
      ∙ ap (λ l. get_or T (4 * i) 0 ∷ get_or T (4 * i + 1) 0 ∷ l) (from T (4 * i + 2) (4 * i + 3) (omega arith) (omega arith))
      ∙ ap (λ l. get_or T (4 * i) 0 ∷ get_or T (4 * i + 1) 0 ∷ get_or T (4 * i + 2) 0 ∷ l) (from T (4 * i + 3) (4 * (i + 1)) (omega arith) (omega arith))

module _ (L : List ℕ) (p : ℕ) where
  -- fewer than four bytes are no token
  few : (x : List ℕ) → length x < 4 → good_tokens L p x ≡ true
  unfolding good_tokens
  few [] h = refl
  few (k ∷ []) h = refl
  few (k ∷ d ∷ []) h = refl
  few (k ∷ d ∷ s ∷ []) h = refl
  few (k ∷ d ∷ s ∷ e ∷ ts) h = absurd (omega arith)

  module _ (T : List ℕ) (i : ℕ) where
    pub tokens_end : count T ≤ i → good_tokens L p (drop (4 * i) T) ≡ true
    tokens_end h = few (drop (4 * i) T) (simp length-drop (omega arith))

    pub tokens_from : i < count T → good_tokens L p (drop (4 * i) T) ≡ both (good_token L p (get_or T (4 * i) 0) (get_or T (4 * i + 1) 0) (get_or T (4 * i + 2) 0) (get_or T (4 * i + 3) 0)) (good_tokens L (get_or T (4 * i + 3) 0) (drop (4 * (i + 1)) T))
    unfolding good_tokens
    tokens_from h = rw (four T i h)

    module _ (t : Token) (h : token_at T i ≡ Some t) (b : Bool) (e : b ≡ good_token L p t.kind t.detail t.start t.end) where
      tokens_at : good_tokens L p (drop (4 * i) T) ≡ both b (good_tokens L t.end (drop (4 * (i + 1)) T))
      tokens_at = let w = token_below T i t h in tokens_from w.0 ∙ rw (e, ← w.1)

      pub tokens_on : b ≡ true → good_tokens L p (drop (4 * i) T) ≡ good_tokens L t.end (drop (4 * (i + 1)) T)
      tokens_on g = tokens_at ∙ rw g

      pub tokens_not : b ≡ false → good_tokens L p (drop (4 * i) T) ≡ false
      tokens_not g = tokens_at ∙ rw g
