-- Laws of numbers written into a store.
-- Assumes nothing.
use Rattle.std.specs.Prelude.{◌≡◌, refl, Bool, true, false, List, [], ◌∷◌, ◌++◌, ℕ, suc, ◌+◌, ◌-◌, ◌*◌, ◌≤◌, ◌<◌, leb, length, take, drop, get_or, set, replicate}
use Rattle.std.proofs.Common.{sym, ◌∙◌, ap, ap₂, add-zero, append_assoc, append-nil, arith, add-one, le-leb, leb-true, leb-false, length-append, length-take, length-drop, take-append-drop, drop-cons, take_at, drop-drop}
use Rattle.std.proofs.Math.Nat.{sub_self}
use Rattle.std.proofs.lemmas.Bool.{lt-leb}
use Rattle.std.proofs.lemmas.List.{length-replicate, replicate-append-replicate, set_at}
use Rattle.std.proofs.Math.Seq.{append_snoc, paste, paste-suc, take-length, drop-append-add}
use borrow.Rule.Slice.PartMut.{put_mid}
use Rattle.names.specs.Choice.{pick, both}
use Rattle.records.specs.Diagnostics.{diagnostic_record}
use Rattle.records.specs.declared.diagnostics.Diagnostic.{Diagnostic}
use Rattle.records.specs.Stores.{written, cleared, added, PutAsks, PutTold}

-- ---- where they fit, and where not

pub written_fits : {A : Type 0} (N : List A) (at : ℕ) (b : List A) → at + length b ≤ length N → written N at b ≡ (take at N ++ b) ++ drop (at + length b) N
unfolding written
written_fits N at b h = ap (λ t. pick t ((take at N ++ b) ++ drop (at + length b) N) N) (le-leb (at + length b) (length N) h)

pub written_not : {A : Type 0} (N : List A) (at : ℕ) (b : List A) → length N < at + length b → written N at b ≡ N
unfolding written
written_not N at b h = ap (λ t. pick t ((take at N ++ b) ++ drop (at + length b) N) N) (lt-leb (at + length b) (length N) h)

-- nothing, wherever
pub written_nothing : {A : Type 0} (N : List A) (at : ℕ) → written N at [] ≡ N
written_nothing N at = go (leb (at + 0) (length N)) refl
  where
    go : (b : Bool) → leb (at + 0) (length N) ≡ b → written N at [] ≡ N
    go true e =
        written_fits N at [] (leb-true (at + 0) (length N) e)
        ∙ ap₂ (λ l n. l ++ drop n N) (append-nil (take at N)) (add-zero at)
        ∙ take-append-drop at N
    go false e = written_not N at [] (leb-false (at + 0) (length N) e)

pub cleared_fits : (N : List ℕ) (f i : ℕ) → f ≤ i → i ≤ length N → cleared N f i ≡ (take f N ++ replicate (i - f) 0) ++ drop i N
unfolding cleared
cleared_fits N f i l h = ap₂ (λ t u. pick (both t u) ((take f N ++ replicate (i - f) 0) ++ drop i N) N) (le-leb f i l) (le-leb i (length N) h)

-- the same, where what stays on both sides is known
pub cleared_is : (N : List ℕ) {N' b d : List ℕ} (f i : ℕ) {j : ℕ} → take f N ≡ b → f ≡ j → drop i N ≡ d → f ≤ i → i ≤ length N → N' ≡ cleared N f i → N' ≡ (b ++ replicate (i - j) 0) ++ d
cleared_is N {b = b} {d = d} f i h e p l g k = k ∙ cleared_fits N f i l g ∙ ap₂ (λ x y. (x ++ replicate (i - f) 0) ++ y) h p ∙ ap (λ z. (b ++ replicate (i - z) 0) ++ d) e

pub cleared_turned : (N : List ℕ) (f i : ℕ) → i < f → cleared N f i ≡ N
unfolding cleared
cleared_turned N f i h = ap (λ t. pick (both t (leb i (length N))) ((take f N ++ replicate (i - f) 0) ++ drop i N) N) (lt-leb f i h)

pub cleared_not : (N : List ℕ) (f i : ℕ) → f ≤ i → length N < i → cleared N f i ≡ N
unfolding cleared
cleared_not N f i l h = ap₂ (λ t u. pick (both t u) ((take f N ++ replicate (i - f) 0) ++ drop i N) N) (le-leb f i l) (lt-leb i (length N) h)

-- neither before the store's end nor in order
pub cleared_stays : (N : List ℕ) (f i : ℕ) → (f ≤ i → i ≤ length N → ⊥) → N ≡ cleared N f i
cleared_stays N f i h = go (leb f i) refl (leb i (length N)) refl
  where
    go : (a : Bool) → leb f i ≡ a → (b : Bool) → leb i (length N) ≡ b → N ≡ cleared N f i
    go false e b d = sym (cleared_turned N f i (omega (arith, leb-false f i e)))
    go true e false d = sym (cleared_not N f i (leb-true f i e) (omega (arith, leb-false i (length N) d)))
    go true e true d = absurd (h (leb-true f i e) (leb-true i (length N) d))

-- ---- a part of the store, written by the library

pub put_written : {A : Type 0} (N : List A) (at k : ℕ) (M b : List A) → M ≡ b → k ≡ length b → at + length b ≤ length N → put_mid at k N M ≡ written N at b
put_written {A} N at k M b e f h =
    ap₂ (λ m n. take at N ++ (m ++ drop n (drop at N))) e f
    ∙ sym (append_assoc (take at N) b (drop (length b) (drop at N)))
    ∙ ap (λ l. (take at N ++ b) ++ l) (drop-drop (length b) at N)
    ∙ sym (written_fits N at b h)

pub put_cleared : (N : List ℕ) (f i k : ℕ) (M : List ℕ) → f ≤ i → i ≤ length N → k ≡ i - f → M ≡ replicate (length (take k (drop f N))) 0 → put_mid f k N M ≡ cleared N f i
put_cleared N f i k M l h e g =
    let n : length (take k (drop f N)) ≡ i - f = simp (length-take, length-drop) (omega arith) in
    let z : List ℕ = replicate (i - f) 0 in
    let all : f + (i - f) ≡ i = omega arith in
    ap₂ (λ m n. take f N ++ (m ++ drop n (drop f N))) (g ∙ ap (λ n. replicate n 0) n) e
    ∙ sym (append_assoc (take f N) z (drop (i - f) (drop f N)))
    ∙ ap (λ l. (take f N ++ z) ++ l) (drop-drop (i - f) f N ∙ ap (λ j. drop j N) all)
    ∙ sym (cleared_fits N f i l h)

-- ---- one after the other

-- one more
pub paste_on : (d : List ℕ) (at : ℕ) (s : List ℕ) (j : ℕ) → at + j < length d → j < length s
    → set (paste d at s j) (at + j) (get_or s j 0) ≡ paste d at s (j + 1)
paste_on d at s j h g = paste-suc d at s j 0 h g ∙ ap (paste d at s) (sym (add-one j))

-- all of them
pub paste_all : (d : List ℕ) (at : ℕ) (s : List ℕ) (j : ℕ) → at + length s ≤ length d → j ≡ length s → paste d at s j ≡ written d at s
paste_all d at s j h e = rw (e, take-length s) (sym (written_fits d at s h))

pub length_written : (N : List ℕ) (at : ℕ) (b : List ℕ) → at + length b ≤ length N → length (written N at b) ≡ length N
length_written N at b h = rw (written_fits N at b h) (simp (length-append, length-take, length-drop) (omega arith))

-- what stands up to the end of the written numbers
pub written_take : (N : List ℕ) (at : ℕ) (b : List ℕ) → at + length b ≤ length N → take (at + length b) (written N at b) ≡ take at N ++ b
written_take N at b h = rw (written_fits N at b h) (take_at (take at N ++ b) (drop (at + length b) N) (at + length b) (simp (length-append, length-take) (omega arith)))

-- what stands past them
pub written_past : (N : List ℕ) (at : ℕ) (b : List ℕ) (m : ℕ) → at + length b ≤ length N → at + length b ≤ m → drop m (written N at b) ≡ drop m N
written_past N at b m h g =
    let p : List ℕ = take at N ++ b in
    let e : length p ≡ at + length b = simp (length-append, length-take) (omega arith) in
    let j : ℕ = m - (at + length b) in
    let f : m ≡ length p + j = omega arith in
    let g₂ : at + length b + j ≡ m = omega arith in
    ap (drop m) (written_fits N at b h) ∙ ap (λ k. drop k (p ++ drop (at + length b) N)) f ∙ drop-append-add p (drop (at + length b) N) j ∙ drop-drop j (at + length b) N ∙ ap (λ k. drop k N) g₂

-- more behind them
pub written_more : (N : List ℕ) (at : ℕ) (b c : List ℕ) → at + length b + length c ≤ length N → written (written N at b) (at + length b) c ≡ written N at (b ++ c)
written_more N at b c h =
    let e : at + length b + length c ≡ at + length (b ++ c) = simp length-append (omega arith) in
    let l : at + length b + length c ≤ length (written N at b) = omega (arith, length_written N at b (omega arith)) in
    written_fits (written N at b) (at + length b) c l
    ∙ ap₂ (λ l r. (l ++ c) ++ r) (written_take N at b (omega arith)) (written_past N at b (at + length b + length c) (omega arith) (omega arith))
    ∙ ap₂ (λ l k. l ++ drop k N) (append_assoc (take at N) b c) e
    ∙ sym (written_fits N at (b ++ c) (omega (arith, e)))

-- the same, by what the store was behind each
pub written_on : (N N₁ N₂ : List ℕ) (at n : ℕ) (b c : List ℕ) → N₁ ≡ written N at b → n ≡ at + length b → N₂ ≡ written N₁ n c → at + length b + length c ≤ length N → N₂ ≡ written N at (b ++ c)
written_on N N₁ N₂ at n b c first place second h = second ∙ ap₂ (λ l k. written l k c) first place ∙ written_more N at b c h

-- ---- a record

pub put_told : (N N' : List ℕ) (n : ℕ) (b : List ℕ) → PutAsks N n → length b ≡ 10 → N' ≡ written N (10 * n) b → PutTold N N' n b (n + 1)
put_told N N' n b asks e h = record {
  next = refl;
  bytes =
      let f : 10 * (n + 1) ≡ 10 * n + length b = omega arith in
      rw (h, f) (written_take N (10 * n) b (omega (arith, asks.long, asks.number)));
  past = λ k more. rw h (written_past N (10 * n) b (10 * k) (omega (arith, asks.long, asks.number)) (omega (arith, asks.number)));
  long = rw h (length_written N (10 * n) b (omega (arith, asks.long, asks.number)));
}

-- ---- zeros from f on

pub cleared_none : (N : List ℕ) (f : ℕ) → f ≤ length N → N ≡ cleared N f f
cleared_none N f h =
    sym (cleared_fits N f f (omega arith) h ∙ ap (λ k. (take f N ++ replicate k 0) ++ drop f N) (sub_self f) ∙ ap (λ l. l ++ drop f N) (append-nil (take f N)) ∙ take-append-drop f N)

pub cleared_more : (N : List ℕ) (f i : ℕ) → f ≤ i → i < length N → set (cleared N f i) i 0 ≡ cleared N f (i + 1)
cleared_more N f i le on =
    let e : i - f + 1 ≡ i + 1 - f = omega arith in
    ap (λ l. set l i 0) (cleared_fits N f i le (omega arith))
    ∙ ap (λ l. set ((take f N ++ replicate (i - f) 0) ++ l) i 0) (drop-cons N i 0 on)
    ∙ set_at (take f N ++ replicate (i - f) 0) (get_or N i 0) (drop (suc i) N) 0 i (simp (length-append, length-take, length-replicate) (omega arith))
    ∙ sym (append_snoc (take f N ++ replicate (i - f) 0) 0 (drop (suc i) N))
    ∙ ap (λ l. l ++ drop (suc i) N) (append_assoc (take f N) (replicate (i - f) 0) (0 ∷ []) ∙ ap (λ l. take f N ++ l) (replicate-append-replicate (i - f) 1 0))
    ∙ ap₂ (λ k j. (take f N ++ replicate k 0) ++ drop j N) e (sym (add-one i))
    ∙ sym (cleared_fits N f (i + 1) (omega arith) (omega arith))

-- ---- diagnostics, one run after the other

pub added_append : (D : List ℕ) (d : ℕ) (xs ys : List Diagnostic) → added D d (xs ++ ys) ≡ added (added D d xs) (d + length xs) ys
unfolding added
added_append D d [] ys = rw add-zero
added_append D d (x ∷ xs) ys =
    let D₁ = written D (10 * d) (diagnostic_record x) in
    let e : d + 1 + length xs ≡ d + length (x ∷ xs) = omega arith in
    added_append D₁ (d + 1) xs ys ∙ ap (λ k. added (added D₁ (d + 1) xs) k ys) e
