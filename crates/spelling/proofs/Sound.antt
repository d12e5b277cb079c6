-- An expression that is read in silence is spelled so.
-- Assumes nothing.
use Rattle.std.specs.Prelude.{◌≡◌, Bool, List}
use Rattle.std.proofs.Math.Path.{refl}
use Rattle.std.proofs.Common.{Result, Ok, Err, sym, ◌∙◌, sub-add_cancel, zero-add, suc-add}
use Rattle.std.proofs.Math.Bool.{true, false}
use Prim.Native.Nat.{ℕ, zero, suc, ◌+◌, ◌-◌, ◌≤◌, ◌<◌}
use native.Mathlib.Omega.{arith}
use borrow.Author.Tests.{eqb-true, leb-true, leb-false}
use Rattle.std.proofs.Math.Dec.{eqb}
use Rattle.names.specs.Choice.{pick, either}
use Rattle.names.specs.Kinds
use Rattle.names.specs.Places.{Place, stands}
use Rattle.names.specs.Registers.{reserved}
use Rattle.names.specs.Numbers.{number_of}
use Rattle.names.specs.declared.tokens.Token.{Token}
use Rattle.names.specs.declared.numbers.NumberError.{NumberError}
use Rattle.records.specs.Spans.{span_of}
use Rattle.expressions.specs.Levels.{precedence_most}
use Rattle.expressions.specs.Trees.{Expr, number}
use Rattle.expressions.specs.Reader.{Reader, is}
use Rattle.expressions.specs.Expressions.{Term, read, reported, absent, precedence, binary_operator, operator, operated, parse_expression_from, climbed, parse_expression_of, is_unary, unary_operator, negated, plussed, valued, named, grouped, number_term, leaf_term, parse_prefix_term, too_deep, parse_prefix, fuel, parse_expression, expression_from}
use Rattle.expressions.specs.Laws.{holds}
use Rattle.expressions.proofs.Costs.{true_false}
use Rattle.spelling.specs.Signs.{Sign, unreserved}
use Rattle.spelling.specs.Expressions.{Worth, value, invalid, Unary, Binary, Spells, a_number, a_literal, a_name, a_local, an_address, a_unary, a_group, tighter, joined}
use Rattle.spelling.specs.Expressions as E
use Rattle.spelling.proofs.Readings.{comes}
use Rattle.spelling.proofs.Climbs.{Ends}
use Rattle.spelling.specs.Silence.{Silent, Quiet}
use Rattle.spelling.proofs.Silence.{call}

-- ---- the signs

-- a kind that passes a test for one
abbrev pub signed : {at : ℕ → Place} {i : ℕ} {k : Token} {x : List ℕ} (c : ℕ) → at i ≡ stands k x → eqb k.kind c ≡ true → Sign at c i
signed {k = k} {x = x} c h q = record { token = k; text = x; there = h; of = eqb-true _ _ q }

-- if it is this kind, this operator; else go on
by : (k c : ℕ) → Binary c (precedence c) (binary_operator c) → (eqb k c ≡ false → Binary k (precedence k) (binary_operator k)) → Binary k (precedence k) (binary_operator k)
by k c b f = go (eqb k c) refl
  where
    go : (d : Bool) → eqb k c ≡ d → Binary k (precedence k) (binary_operator k)
    go true q = rw (eqb-true k c q) b
    go false q = f q

-- the levels are those of the grammar
pub operators : (k : ℕ) → 1 ≤ precedence k → Binary k (precedence k) (binary_operator k)
unfolding precedence binary_operator
operators k h =
    by k Kinds.shift_left E.shift_left λ q1.
    by k Kinds.shift_right E.shift_right λ q2.
    by k Kinds.ampersand E.and λ q3.
    by k Kinds.bang E.or_bang λ q4.
    by k Kinds.pipe E.or_pipe λ q5.
    by k Kinds.caret E.exclusive_or λ q6.
    by k Kinds.star E.times λ q7.
    by k Kinds.slash E.divided λ q8.
    by k Kinds.backslash E.modulo λ q9.
    by k Kinds.plus E.plus λ q10.
    by k Kinds.minus E.less λ q11.
    let z : precedence k ≡ 0 = rw (q1, q2, q3, q4, q5, q6, q7, q8, q9, q10, q11) refl in absurd (omega arith)

looser : {at : ℕ → Place} {allowed : ℕ → List ℕ → Bool} {own room i j c m : ℕ} {e : Expr} → m ≤ c → Spells at allowed own c room i j e → Spells at allowed own m room i j e
looser {at} {allowed} {own} {room} {i} {j} {c} {m} {e} l h = go (c - m) (rw (sub-add_cancel l) h)
  where
    go : (k : ℕ) → Spells at allowed own (k + m) room i j e → Spells at allowed own m room i j e
    go zero h = rw zero-add at h
    go (suc k) h = go k (tighter (rw suc-add at h))

no_operator : {at : ℕ → Place} (min i : ℕ) → holds (operator min) (at i) ≡ false → Ends at min i
unfolding holds operator
no_operator {at} min i q = record { less = λ k x e. leb-false min (precedence k.kind) (rw e at q) }

-- ---- the readers

-- a number in silence is not too large
pub valued_sound : (at : ℕ → Place) (k : Token) (n : Result ℕ NumberError) (i l : ℕ) → Quiet (valued k n) at (λ j m v. (j ≡ i) × Worth n v) i l
unfolding Silent valued
valued_sound at k (Ok v) i l = record { all = (refl, value) }
valued_sound at k (Err NumberError.TooLarge) i l = record { all = tt }
valued_sound at k (Err NumberError.Invalid) i l = record { all = (refl, invalid) }

module _ (at : ℕ → Place) (count : ℕ) (ends : (j : ℕ) (k : Token) (x : List ℕ) → at j ≡ stands k x → j < count) (own : ℕ) where
  abbrev Spelled : ℕ → ℕ → ℕ → ℕ → Expr → Type 0
  Spelled m room i j e = Spells at unreserved own m room i j e

  -- a term that was not reported; none is read, or reported, in silence
  abbrev pub Sound : ℕ → ℕ → ℕ → ℕ → ℕ → Term → Type 0
  Sound m room i j l (read e) = (i < j) × Spelled m room i j e
  Sound m room i j l reported = ⊥
  Sound m room i j l absent = Unit {0}

  -- at a place that is not the operand's own parenthesis
  abbrev pub Apart : ℕ → Type 0
  Apart i = (own ≤ i) × (own ≡ i → holds (is Kinds.left_paren) (at own) ≡ false)

  abbrev pub Sounds : ℕ → ℕ → Reader Term → Type 0
  Sounds m room t = (i l : ℕ) → Apart i → Quiet t at (Sound m room i) i l

  climb_sound : (f room : ℕ) (t : Reader Term) → Sounds 5 room t → (c min : ℕ) (left : Expr) (i₀ i l : ℕ) → 1 ≤ min → min ≤ c → count ≤ f + i → own ≤ i₀ → i₀ < i
      → Quiet (parse_expression_from f t min left) at (λ j m x. Spelled c room i₀ i left → Ends at (suc c) i → Spelled min room i₀ j x × Ends at min j) i l
  unfolding Silent parse_expression_from operated operator
  climb_sound zero room t ht c min left i₀ i l pos low few here up = record {
    all = λ sp en.
        (looser low sp, record { less = λ k x e. absurd (omega (arith, ends i k x e)) });
  }
  climb_sound (suc f) room t ht c min left i₀ i l pos low few here up = record {
    all = (
      (λ k x e q w. let m = leb-true min (precedence k.kind) q in call (ht (i + 1) k.end (omega arith, λ z. absurd (omega arith))) λ j n. elim [
        | read y ↦ λ a h. call (climb_sound f room t ht 5 (precedence k.kind + 1) y (i + 1) j n (omega arith) (omega (arith, precedence_most k.kind)) (omega arith) (omega arith) h.0) λ j₁ n₁ r b h₁.
            call (climb_sound f room t ht (precedence k.kind) min _ i₀ j₁ n₁ pos m (omega arith) here (omega arith)) λ j₂ n₂ z d h₂ sp en.
            let g = h₁ h.1 (record { less = λ k x p. omega (arith, precedence_most k.kind) }) in
            let one : precedence k.kind + 1 ≡ suc (precedence k.kind) = omega arith in
            h₂ (joined (looser (omega (arith, en.less k x e)) sp) (record { token = k; text = x; there = e; of = refl }) (operators k.kind (omega arith)) (rw one at g.0)) (rw one at g.1)
        | reported ↦ λ a h. absurd h
        | absent ↦ λ a h. tt
      ]),
      λ q sp en. (looser low sp, no_operator min i q),
    );
  }

  number_spelled : (room : ℕ) {i j v : ℕ} {k : Token} {x : List ℕ} → j ≡ i + 1 → at i ≡ stands k x → eqb k.kind Kinds.number ≡ true → Worth (number_of k.detail x) v
      → (i < j) × Spelled 5 (suc room) i j (number k.detail v (span_of k))
  number_spelled room z e q w = rw z (omega arith, a_number (signed Kinds.number e q) w)

  named_sound : (room i : ℕ) (k : Token) (x : List ℕ) → at i ≡ stands k x → eqb k.kind Kinds.identifier ≡ true
      → Quiet (named k (reserved x)) at (Sound 5 (suc room) i) (i + 1) k.end
  unfolding Silent named unreserved
  named_sound room i k x e q = go (reserved x) refl
    where
      go : (b : Bool) → reserved x ≡ b → Quiet (named k b) at (Sound 5 (suc room) i) (i + 1) k.end
      go true r = record { all = tt }
      go false r = record { all = (omega arith, a_name (signed Kinds.identifier e q) (rw r refl)) }

  unaries : (k : Token) (x : List ℕ) → is_unary k x ≡ true → Unary k.kind (unary_operator k.kind)
  unfolding is_unary unary_operator
  unaries k x h = go (eqb k.kind Kinds.minus) refl h
    where
      go : (b : Bool) → eqb k.kind Kinds.minus ≡ b → either b (eqb k.kind Kinds.tilde) ≡ true → Unary k.kind (pick b 0 1)
      go true q g = rw (eqb-true k.kind Kinds.minus q) E.minus
      go false q g = rw (eqb-true k.kind Kinds.tilde g) E.complement

  -- a parenthesis that is not the operand's own
  behind : {i : ℕ} {k : Token} {x : List ℕ} → Apart i → at i ≡ stands k x → eqb k.kind Kinds.left_paren ≡ true → own < i
  unfolding holds
  behind {i} {k} {x} apart e q = not_equal λ z. true_false (sym (comes {at = at} {i = i} (is Kinds.left_paren) (signed Kinds.left_paren e q) q) ∙ (rw z at (apart.1 z)))
    where
      not_equal : (own ≡ i → ⊥) → own < i
      not_equal f = let z = apart.0 in omega arith

  module _ (few : count ≤ fuel) where
    expression_sound : (room : ℕ) (t : Reader Term) → Sounds 5 room t → Sounds 1 room (parse_expression_of fuel t)
    unfolding Silent parse_expression_of climbed
    expression_sound room t ht i l apart = record {
      all = call (ht i l apart) λ j m. elim [
        | read y ↦ λ a h. call (climb_sound fuel room t ht 5 1 y i j m (omega arith) (omega arith) (omega arith) apart.0 h.0) λ j₂ m₂ z b h₂.
            (omega (arith, h.0), (h₂ h.1 (record { less = λ k x p. omega (arith, precedence_most k.kind) })).0)
        | reported ↦ λ a h. h
        | absent ↦ λ a h. tt
      ];
    }

    later : {i : ℕ} → own ≤ i → Apart (i + 1)
    later h = (omega arith, λ e. absurd (omega arith))

    leaf_sound : (room i l : ℕ) → Quiet leaf_term at (Sound 5 (suc room) i) i l
    unfolding Silent leaf_term number_term unreserved
    leaf_sound room i l = record {
      all = (
        (λ k x e q w. (omega arith, an_address (signed Kinds.star e q))),
        λ _. (
          (λ k x e q w. call (valued_sound at k (number_of k.detail x) (i + 1) k.end) λ j m v a h. number_spelled room h.0 e q h.1),
          λ _. (
            (λ k x e q w. (omega arith, a_literal (signed Kinds.string_literal e q))),
            λ _. (
              (λ k x e q w. (named_sound room i k x e q).all),
              λ _. (
                (λ k x e q w. (omega arith, a_local (signed Kinds.local_identifier e q))),
                λ _.
                    ((λ k x e q w. true_false (sym q ∙ w)), λ _. tt),
              ),
            ),
          ),
        ),
      );
    }

    term_sound : (room : ℕ) → Sounds 5 room (parse_prefix fuel room)
    unfolding Silent parse_prefix parse_prefix_term too_deep negated plussed grouped
    term_sound zero i l apart = record { all = ((λ k x e q. tt), λ q. tt) }
    term_sound (suc room) i l apart =
        let t = parse_prefix fuel room in
        record {
          all = (
            (λ k x e q w. call (term_sound room (i + 1) k.end (later apart.0)) λ j m. elim [
              | read y ↦ λ a h. (omega arith, a_unary (record { token = k; text = x; there = e; of = refl }) (unaries k x q) h.1)
              | reported ↦ λ a h. h
              | absent ↦ λ a h. tt
            ]),
            λ _. (
              (λ k x e q w. call (term_sound room (i + 1) k.end (later apart.0)) λ j m. elim [ read y ↦ λ a h. tt | reported ↦ λ a h. tt | absent ↦ λ a h. tt ]),
              λ _. (
                (λ k x e q w. call (expression_sound room t (term_sound room) (i + 1) k.end (later apart.0)) λ j m. elim [
                  | read y ↦ λ a h. (
                    (λ k₂ x₂ e₂ q₂ w₂. (omega arith, a_group (behind apart e q) (signed Kinds.left_paren e q) h.1 (signed Kinds.right_paren e₂ q₂))),
                    λ q₂. tt,
                  )
                  | reported ↦ λ a h. h
                  | absent ↦ λ a h. tt
                ]),
                λ _.
                    (leaf_sound room i l).all,
              ),
            ),
          );
        }

    pub expression_spelled : (room : ℕ) → Sounds 1 room (parse_expression room)
    unfolding parse_expression
    expression_spelled room = expression_sound room (parse_prefix fuel room) (term_sound room)

    -- what goes on behind the operand's own group
    pub from_spelled : (room : ℕ) (left : Expr) (i l : ℕ) → own < i → Spelled 5 room own i left → Quiet (expression_from room left) at (λ j m x. Spelled 1 room own j x) i l
    unfolding Silent expression_from
    from_spelled room left i l up h = record {
      all = call (climb_sound fuel room (parse_prefix fuel room) (term_sound room) 5 1 left own i l (omega arith) (omega arith) (omega arith) (omega arith) up) λ j m x a g.
          (g h (record { less = λ k x p. omega (arith, precedence_most k.kind) })).0;
    }
