-- Digits, one byte after the other.
-- Assumes nothing.
use mathlib.Core.Path.{◌≡◌, sym, ◌∙◌, ap, ap₂}
use mathlib.Core.List.{List, [], ◌∷◌, ◌++◌, append_assoc}
use Prim.Native.Nat.{ℕ, suc, ◌+◌, ◌*◌, ◌/◌, ◌%◌, ◌≤◌, ◌<◌}
use native.Mathlib.Numerals.{add-one}
use native.Mathlib.Omega.{arith}
use lib.ListN.{length, take, drop, get_or, set, length-append, length-take}
use lib.Seq.{drop-cons, set_at, append_snoc, take-suc, take-length, length-take-le}
use Rattle.records.specs.Stores.{written}
use Rattle.records.specs.Written.{length_written, written_fits}
use Rattle.frames.specs.Hex.{digit, digits}
use Rattle.frames.specs.Inner.{Put}
use Rattle.frames.specs.Lengths.{digits_append, length_digits}

-- ---- bytes written one after the other

pub written_one : (O : List ℕ) (at : ℕ) (y : List ℕ) (b : ℕ) → at + length y < length O
    → set (written O at y) (at + length y) b ≡ written O at (y ++ (b ∷ []))
written_one O at y b h =
    let n = at + length y in
    let e : n + 1 ≡ at + length (y ++ (b ∷ [])) = simp length-append (omega arith) in
    ap (λ l. set l n b) (written_fits O at y (omega arith))
    ∙ ap (λ l. set ((take at O ++ y) ++ l) n b) (drop-cons O n 0 h)
    ∙ set_at (take at O ++ y) (get_or O n 0) (drop (suc n) O) b n (simp (length-append, length-take) (omega arith))
    ∙ sym (append_snoc (take at O ++ y) b (drop (suc n) O))
    ∙ ap (λ l. l ++ drop (suc n) O) (append_assoc (take at O) y (b ∷ []))
    ∙ ap (λ m. (take at O ++ (y ++ (b ∷ []))) ++ drop m O) (sym (add-one n) ∙ e)
    ∙ sym (written_fits O at (y ++ (b ∷ [])) (omega arith))

-- the digits of one byte more
pub digits_next : (bs : List ℕ) (i : ℕ) → i < length bs
    → (digits (take i bs) ++ (digit (get_or bs i 0 / 16) ∷ [])) ++ (digit (get_or bs i 0 % 16) ∷ []) ≡ digits (take (i + 1) bs)
unfolding digits
digits_next bs i h =
    append_assoc (digits (take i bs)) _ _
    ∙ sym (digits_append (take i bs) (get_or bs i 0 ∷ []))
    ∙ ap digits (sym (take-suc bs i 0 h) ∙ ap (λ n. take n bs) (sym (add-one i)))

pub length_part : (bs : List ℕ) (i : ℕ) → i ≤ length bs → length (digits (take i bs)) ≡ 2 * i
length_part bs i h = length_digits (take i bs) ∙ ap (λ n. 2 * n) (length-take-le i bs h)

-- a byte's two digits behind those of the first i
pub put_next : (O O' : List ℕ) (at : ℕ) (bs : List ℕ) (i p q : ℕ) → O' ≡ written O at (digits (take i bs)) → i < length bs → at + 2 * length bs ≤ length O
    → p ≡ digit (get_or bs i 0 / 16) → q ≡ digit (get_or bs i 0 % 16)
    → set (set O' (at + 2 * i) p) (at + 2 * i + 1) q ≡ written O at (digits (take (i + 1) bs))
put_next O O' at bs i p q e h g f₁ f₂ =
    let y : List ℕ = digits (take i bs) in
    let n : length y ≡ 2 * i = length_part bs i (omega arith) in
    let a : at + 2 * i ≡ at + length y = omega arith in
    let b : at + 2 * i + 1 ≡ at + length (y ++ (p ∷ [])) = simp length-append (omega arith) in
    ap (λ l. set (set l (at + 2 * i) p) (at + 2 * i + 1) q) e
    ∙ ap (λ k. set (set (written O at y) k p) (at + 2 * i + 1) q) a
    ∙ ap (λ l. set l (at + 2 * i + 1) q) (written_one O at y p (omega arith))
    ∙ ap (λ k. set (written O at (y ++ (p ∷ []))) k q) b
    ∙ written_one O at (y ++ (p ∷ [])) q (omega arith)
    ∙ ap₂ (λ j k. written O at ((y ++ (j ∷ [])) ++ (k ∷ []))) f₁ f₂
    ∙ ap (written O at) (digits_next bs i h)

pub put_all : (O O' : List ℕ) (at : ℕ) (bs : List ℕ) (i : ℕ) → O' ≡ written O at (digits (take i bs)) → i ≡ length bs → at + 2 * length bs ≤ length O → Put O O' at (digits bs) (at + 2 * length bs)
put_all O O' at bs i e h g =
    let all = e ∙ ap (λ n. written O at (digits (take n bs))) h ∙ ap (λ l. written O at (digits l)) (take-length bs) in
    record { next = omega (arith, length_digits bs); kept = ap length all ∙ length_written O at (digits bs) (omega (arith, length_digits bs)); out = all }
