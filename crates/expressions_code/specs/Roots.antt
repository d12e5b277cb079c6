-- A tree's root is its last record: what becomes of the records where the root gets another span.
-- Assumes nothing.
use Rattle.std.specs.Prelude.{◌≡◌, refl, List, [], ◌∷◌, ◌++◌, ℕ, ◌+◌, ◌-◌, ◌*◌, ◌<◌, ◌≤◌, length, take, drop}
use Rattle.std.proofs.Common.{sym, ◌∙◌, ap, ap₂, append_assoc, arith, length-append, length-take, take_at, drop_at, take-take, take-add, length-take-le}
use Rattle.std.proofs.Math.Seq.{take-append-add}
use Rattle.records.specs.declared.spans.Span.{Span}
use Rattle.expressions.specs.Trees.{Expr, number, character_literal, symbol, current_address, unary, binary, span_e, with_span, size}
use Rattle.records.specs.Nodes.{words, own, zeros}
use Rattle.expressions.specs.Records.{nodes, length_nodes}
use Rattle.records.specs.Stores.{written}
use Rattle.records.specs.Written.{written_fits, written_past}

-- the store whose n-th record, the last that counts, has this span
abbrev pub rooted : List ℕ → ℕ → Span → List ℕ
rooted N n s = written N (10 * (n - 1) + 4) (s.start ∷ s.end ∷ [])

pub span_e_with_span : (e : Expr) (t : Span) → span_e (with_span e t) ≡ t
unfolding span_e with_span
span_e_with_span (number b v s) t = refl
span_e_with_span (character_literal q o s) t = refl
span_e_with_span (symbol o s) t = refl
span_e_with_span (current_address s) t = refl
span_e_with_span (unary o e s) t = refl
span_e_with_span (binary o l r s) t = refl

-- what stands before the root's span, and behind it
unfoldable front : ℕ → Expr → List ℕ
front b (number base v s) = 1 ∷ base ∷ 65535 ∷ 65535 ∷ []
front b (character_literal q o s) = 2 ∷ q ∷ 65535 ∷ 65535 ∷ []
front b (symbol o s) = 3 ∷ 0 ∷ 65535 ∷ 65535 ∷ []
front b (current_address s) = 4 ∷ 0 ∷ 65535 ∷ 65535 ∷ []
front b (unary o e s) = nodes b e ++ (5 ∷ o ∷ (b + size e - 1) ∷ 65535 ∷ [])
front b (binary o l r s) = nodes b l ++ (nodes (b + size l) r ++ (6 ∷ o ∷ (b + size l - 1) ∷ (b + size l + size r - 1) ∷ []))

unfoldable back : Expr → List ℕ
back (number base v s) = words 4 v
back (character_literal q o s) = own o
back (symbol o s) = own o
back (current_address s) = zeros
back (unary o e s) = zeros
back (binary o l r s) = zeros

root_split : (b : ℕ) (e : Expr) → nodes b e ≡ front b e ++ ((span_e e).start ∷ (span_e e).end ∷ back e)
unfolding nodes front back span_e
root_split b (number base v s) = refl
root_split b (character_literal q o s) = refl
root_split b (symbol o s) = refl
root_split b (current_address s) = refl
root_split b (unary o e s) = sym (append_assoc (nodes b e) _ _)
root_split b (binary o l r s) = simp append_assoc

front_with : (b : ℕ) (e : Expr) (t : Span) → front b (with_span e t) ≡ front b e
unfolding front with_span
front_with b (number base v s) t = refl
front_with b (character_literal q o s) t = refl
front_with b (symbol o s) t = refl
front_with b (current_address s) t = refl
front_with b (unary o e s) t = refl
front_with b (binary o l r s) t = refl

back_with : (e : Expr) (t : Span) → back (with_span e t) ≡ back e
unfolding back with_span
back_with (number base v s) t = refl
back_with (character_literal q o s) t = refl
back_with (symbol o s) t = refl
back_with (current_address s) t = refl
back_with (unary o e s) t = refl
back_with (binary o l r s) t = refl

length_back : (e : Expr) → length (back e) ≡ 4
unfolding back words
length_back (number base v s) = refl
length_back (character_literal q o s) = refl
length_back (symbol o s) = refl
length_back (current_address s) = refl
length_back (unary o e s) = refl
length_back (binary o l r s) = refl

length_front : (b : ℕ) (e : Expr) → length (front b e) + 6 ≡ 10 * size e
length_front b e = omega (arith, simp length-append at (ap length (root_split b e)), length_nodes b e, length_back e)

-- the records of a tree, with another span written into its root
pub widened : (P N : List ℕ) (n m : ℕ) (e : Expr) (t : Span) → take (10 * m) N ≡ P ++ nodes n e → m ≡ n + size e → length P ≡ 10 * n → 10 * m ≤ length N → 0 < m
    → (take (10 * m) (rooted N m t) ≡ P ++ nodes n (with_span e t)) × ((j : ℕ) → m ≤ j → drop (10 * j) (rooted N m t) ≡ drop (10 * j) N)
widened P N n m e t b cnt lp long some =
    let at : ℕ = 10 * (m - 1) + 4 in
    let X : List ℕ = P ++ front n e in
    let Y : List ℕ = take 4 (drop (at + 2) N) in
    let lx : length X ≡ at = simp length-append (omega (arith, length_front n e)) in
    let whole : take (10 * m) N ≡ (X ++ ((span_e e).start ∷ (span_e e).end ∷ [])) ++ back e = b ∙ rw (root_split n e) (simp append_assoc) in
    let eq : at + 2 + 4 ≡ 10 * m = omega arith in
    let e₁ : take (at + 2) N ++ Y ≡ (X ++ ((span_e e).start ∷ (span_e e).end ∷ [])) ++ back e = sym (take-add (at + 2) 4 N) ∙ ap (λ z. take z N) eq ∙ whole in
    let e₂ : Y ≡ back e =
    sym (drop_at (take (at + 2) N) Y (at + 2) (length-take-le (at + 2) N (omega arith)))
    ∙ ap (drop (at + 2)) e₁
    ∙ drop_at (X ++ ((span_e e).start ∷ (span_e e).end ∷ [])) (back e) (at + 2) (simp length-append (omega (arith, length_front n e))) in
    let e₃ : take at N ≡ X =
    sym (take-take at (10 * m) N (omega arith)) ∙ ap (take at) (whole ∙ append_assoc X _ _) ∙ take_at X _ at lx in
    let p : List ℕ = take at N ++ (t.start ∷ t.end ∷ []) in
    let lq : length p ≡ at + 2 = simp (length-append, length-take) (omega arith) in (
      ap (take (10 * m)) (written_fits N at (t.start ∷ t.end ∷ []) (omega arith))
          ∙ ap (λ z. take z (p ++ drop (at + 2) N)) (sym eq ∙ ap (λ z. z + 4) (sym lq))
          ∙ take-append-add p (drop (at + 2) N) 4
          ∙ ap₂ (λ x y. (x ++ (t.start ∷ t.end ∷ [])) ++ y) e₃ e₂
          ∙ rw (root_split n (with_span e t), front_with n e t, back_with e t, span_e_with_span e t) (simp append_assoc),
      λ j h. written_past N at (t.start ∷ t.end ∷ []) (10 * j) (omega arith) (omega (arith, h)),
    )
