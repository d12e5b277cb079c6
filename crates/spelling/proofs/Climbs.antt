-- An expression that is spelled is read: the tree, the cursor at its end, and no diagnostic.
-- Assumes nothing.
use Rattle.std.specs.Prelude.{◌≡◌, Bool, true, false, List, ◌⊎◌, eqb}
use Rattle.std.proofs.Math.Path.{refl, ap}
use Rattle.std.proofs.Common.{Result, sym, ◌∙◌, le-leb}
use Rattle.std.proofs.Math.Logic.{inl, inr}
use Prim.Native.Nat.{ℕ, zero, suc, ◌+◌, ◌≤◌, ◌<◌}
use native.Mathlib.Omega.{arith}
use Rattle.std.proofs.lemmas.Bool.{lt-leb}
use Rattle.names.specs.Kinds
use Rattle.names.specs.Places.{Place, nothing, stands}
use Rattle.names.specs.Registers.{reserved}
use Rattle.names.specs.Numbers.{number_of}
use Rattle.names.specs.declared.tokens.Token.{Token}
use Rattle.names.specs.declared.numbers.NumberError.{NumberError}
use Rattle.records.specs.Spans.{span, span_of}
use Rattle.expressions.specs.Levels.{precedence_most}
use Rattle.expressions.specs.Trees.{Expr, number, character_literal, symbol, current_address, unary, binary, span_e, with_span}
use Rattle.expressions.specs.Reader.{is, Reader}
use Rattle.expressions.specs.Expressions.{Term, read, precedence, binary_operator, operator, operated, parse_expression_from, climbed, parse_expression_of, is_unary, unary_operator, negated, valued, named, grouped, number_term, leaf_term, parse_prefix_term, parse_prefix, fuel, parse_expression}
use Rattle.expressions.specs.Laws.{holds}
use Rattle.expressions.proofs.Costs.{true_false}
use Rattle.expressions.specs.Fuel.{turn, climb_equation}
use Rattle.spelling.specs.Signs.{Sign, Name}
use Rattle.spelling.specs.Expressions.{Worth, value, invalid, Unary, Binary, Spells, a_number, a_literal, a_name, a_local, an_address, a_unary, a_group, own_group, tighter, joined}
use Rattle.spelling.specs.Expressions as E
use Rattle.spelling.proofs.Readings.{Reads, answers, then, steps, passes, comes, other, kinded, unique, same_sign}

-- ---- the signs

pub record Ranked (k m o : ℕ) : Type 0 where
  pub level : precedence k ≡ m
  pub number : binary_operator k ≡ o
  pub least : 1 ≤ m
  pub most : m ≤ 4

pub ranked : {k m o : ℕ} → Binary k m o → Ranked k m o
unfolding precedence binary_operator
ranked E.shift_left = record { level = refl; number = refl; least = omega arith; most = omega arith }
ranked E.shift_right = record { level = refl; number = refl; least = omega arith; most = omega arith }
ranked E.and = record { level = refl; number = refl; least = omega arith; most = omega arith }
ranked E.or_bang = record { level = refl; number = refl; least = omega arith; most = omega arith }
ranked E.or_pipe = record { level = refl; number = refl; least = omega arith; most = omega arith }
ranked E.exclusive_or = record { level = refl; number = refl; least = omega arith; most = omega arith }
ranked E.times = record { level = refl; number = refl; least = omega arith; most = omega arith }
ranked E.divided = record { level = refl; number = refl; least = omega arith; most = omega arith }
ranked E.modulo = record { level = refl; number = refl; least = omega arith; most = omega arith }
ranked E.plus = record { level = refl; number = refl; least = omega arith; most = omega arith }
ranked E.less = record { level = refl; number = refl; least = omega arith; most = omega arith }

-- none of these signs is a parenthesis
pub binary_sign : {k m o : ℕ} → Binary k m o → eqb k Kinds.left_paren ≡ false
binary_sign E.shift_left = refl
binary_sign E.shift_right = refl
binary_sign E.and = refl
binary_sign E.or_bang = refl
binary_sign E.or_pipe = refl
binary_sign E.exclusive_or = refl
binary_sign E.times = refl
binary_sign E.divided = refl
binary_sign E.modulo = refl
binary_sign E.plus = refl
binary_sign E.less = refl

pub unary_sign : {k n : ℕ} → Unary k n → eqb k Kinds.left_paren ≡ false
unary_sign E.minus = refl
unary_sign E.complement = refl

-- no operator of level m or more stands at j
pub record Ends (at : ℕ → Place) (m j : ℕ) : Type 0 where
  pub less : (k : Token) (x : List ℕ) → at j ≡ stands k x → precedence k.kind < m

pub ends_no : {at : ℕ → Place} {m j : ℕ} → Ends at m j → holds (operator m) (at j) ≡ false
unfolding holds operator
ends_no {at} {m} {j} h = go (at j) h.less
  where
    go : (p : Place) → ((k : Token) (x : List ℕ) → p ≡ stands k x → precedence k.kind < m) → holds (operator m) p ≡ false
    go nothing h = refl
    go (stands k x) h = lt-leb m _ (h k x refl)

-- a sign that is no operator ends an expression
pub ends_by : {at : ℕ → Place} {k j : ℕ} (m : ℕ) → Sign at k j → precedence k < m → Ends at m j
ends_by m s h = record { less = λ k x e. let z : precedence k.kind ≡ precedence _ = ap (λ t. precedence t) (same_kind s e) in omega arith }
  where
    placed : Place → ℕ
    placed nothing = 0
    placed (stands k x) = k.kind

    same_kind : {at : ℕ → Place} {k j : ℕ} (s : Sign at k j) {t : Token} {x : List ℕ} → at j ≡ stands t x → t.kind ≡ k
    same_kind s e = sym (ap placed (sym s.there ∙ e)) ∙ s.of

pub looser : {at : ℕ → Place} {m n j : ℕ} → m ≤ n → Ends at m j → Ends at n j
looser l h = record { less = λ k x e. omega (arith, h.less k x e) }

-- ---- a term, by its first token

worth : {at : ℕ → Place} (k : Token) {m : Result ℕ NumberError} {v j l : ℕ} → Worth m v → Reads (valued k m) at j l j v
unfolding valued
worth k value = answers
worth k invalid = answers

module _ {at : ℕ → Place} {i : ℕ} (f room l : ℕ) where
  -- neither a sign that a term may begin with, nor a group
  plain_term : {k j : ℕ} {a : Term} (t : Sign at k i) → eqb k Kinds.minus ≡ false → eqb k Kinds.tilde ≡ false → eqb k Kinds.plus ≡ false
      → eqb k Kinds.left_paren ≡ false → Reads leaf_term at i l j a → Reads (parse_prefix f (suc room)) at i l j a
  unfolding parse_prefix parse_prefix_term is_unary
  plain_term t a b c d h =
      passes (comes is_unary t (rw (t.of, a, b))) (passes (other t Kinds.plus c) (passes (other t Kinds.left_paren d) h))

  number_term_lem : {v : ℕ} (t : Sign at Kinds.number i) → Worth (number_of t.token.detail t.text) v
      → Reads (parse_prefix f (suc room)) at i l (i + 1) (read (number t.token.detail v (span_of t.token)))
  unfolding leaf_term number_term
  number_term_lem t w =
      plain_term t refl refl refl refl
      (passes (other t Kinds.star refl) (steps t.there (kinded t Kinds.number refl) (then (worth t.token w) λ n. answers)))

  literal_term : (t : Sign at Kinds.string_literal i)
      → Reads (parse_prefix f (suc room)) at i l (i + 1) (read (character_literal t.token.detail (span_of t.token) (span_of t.token)))
  unfolding leaf_term
  literal_term t =
      plain_term t refl refl refl refl
      (passes (other t Kinds.star refl) (passes (other t Kinds.number refl) (steps t.there (kinded t Kinds.string_literal refl) answers)))

  name_term : (t : Name at i) → reserved t.text ≡ false → Reads (parse_prefix f (suc room)) at i l (i + 1) (read (symbol (span_of t.token) (span_of t.token)))
  unfolding leaf_term named
  name_term t q =
      plain_term t refl refl refl refl
      (passes (other t Kinds.star refl) (passes (other t Kinds.number refl) (passes (other t Kinds.string_literal refl)
      (steps t.there (kinded t Kinds.identifier refl) (rw q answers)))))

  local_term : (t : Sign at Kinds.local_identifier i) → Reads (parse_prefix f (suc room)) at i l (i + 1) (read (symbol (span_of t.token) (span_of t.token)))
  unfolding leaf_term
  local_term t =
      plain_term t refl refl refl refl
      (passes (other t Kinds.star refl) (passes (other t Kinds.number refl) (passes (other t Kinds.string_literal refl) (passes (other t Kinds.identifier refl)
      (steps t.there (kinded t Kinds.local_identifier refl) answers)))))

  address_term : (t : Sign at Kinds.star i) → Reads (parse_prefix f (suc room)) at i l (i + 1) (read (current_address (span_of t.token)))
  unfolding leaf_term
  address_term t = plain_term t refl refl refl refl (steps t.there (kinded t Kinds.star refl) answers)

  unary_term_lem : {k n j : ℕ} {e : Expr} (t : Sign at k i) → Unary k n → ((m : ℕ) → Reads (parse_prefix f room) at (i + 1) m j (read e))
      → Reads (parse_prefix f (suc room)) at i l j (read (unary n e (span t.token.start (span_e e).end)))
  unfolding parse_prefix parse_prefix_term is_unary negated unary_operator
  unary_term_lem t E.minus h = steps t.there (rw t.of refl) (then (h _) λ n. rw t.of answers)
  unary_term_lem t E.complement h = steps t.there (rw t.of refl) (then (h _) λ n. rw t.of answers)

  group_term_lem : {j : ℕ} {e : Expr} (t : Sign at Kinds.left_paren i) → ((m : ℕ) → Reads (parse_expression_of f (parse_prefix f room)) at (i + 1) m j (read e))
      → (c : Sign at Kinds.right_paren j) → Reads (parse_prefix f (suc room)) at i l (j + 1) (read (with_span e (span t.token.start c.token.end)))
  unfolding parse_prefix parse_prefix_term is_unary grouped
  group_term_lem t h c =
      passes (comes is_unary t (rw t.of refl)) (passes (other t Kinds.plus refl) (steps t.there (kinded t Kinds.left_paren refl)
      (then (h _) λ n. steps c.there (kinded c Kinds.right_paren refl) answers)))

-- ---- the climb

pub rises : {at : ℕ → Place} {allowed : ℕ → List ℕ → Bool} {own m room i j : ℕ} {e : Expr} → Spells at allowed own m room i j e → i < j
rises (a_number t w) = omega arith
rises (a_literal t) = omega arith
rises (a_name t q) = omega arith
rises (a_local t) = omega arith
rises (an_address t) = omega arith
rises (a_unary t u h) = omega (arith, rises h)
rises (a_group b t h c) = omega (arith, rises h)
rises (own_group t h c) = omega (arith, rises h)
rises (tighter h) = rises h
rises (joined h t b g) = omega (arith, rises h, rises g)

module _ (at : ℕ → Place) (count : ℕ) (ends : (j : ℕ) (k : Token) (x : List ℕ) → at j ≡ stands k x → j < count) (few : count ≤ fuel) (own : ℕ) (allowed : ℕ → List ℕ → Bool) where
  abbrev climb : ℕ → ℕ → Expr → Reader Expr
  climb room min e = parse_expression_from fuel (parse_prefix fuel room) min e

  -- where no operator follows, the climb ends
  pub climb_stop : (f room min j l : ℕ) (e : Expr) → Ends at min j → Reads (parse_expression_from f (parse_prefix fuel room) min e) at j l j e
  unfolding parse_expression_from
  climb_stop zero room min j l e h = answers
  climb_stop (suc f) room min j l e h = passes (ends_no h) answers

  -- what begins an expression: a term that is read, or the operand's own group
  pub data First (room i mid : ℕ) : Expr → Type 0 where
    a_term : {e : Expr} → (own ≡ i → Sign at Kinds.left_paren own → ⊥) → ((l : ℕ) → Reads (parse_prefix fuel room) at i l mid (read e)) → First room i mid e
    the_own : {j : ℕ} {e : Expr} → own ≡ i → mid ≡ j + 1 → (t : Sign at Kinds.left_paren own) → Spells at allowed own 1 room (own + 1) j e
        → ((l : ℕ) → Reads (parse_expression room) at (own + 1) l j (read e)) → (c : Sign at Kinds.right_paren j) → First room i mid (with_span e (span t.token.start c.token.end))

  -- the first term leads into the climb, and the climb on to j with e: whatever is read from there is read from the first term
  pub record Leads (room m i j : ℕ) (e : Expr) : Type 0 where
    pub start : Expr
    pub mid : ℕ
    pub first : First room i mid start
    -- no parenthesis follows the first term, unless it is all
    pub next : (mid ≡ j) ⊎ (holds (is Kinds.left_paren) (at mid) ≡ false)
    pub climbs : (min n : ℕ) (y : Expr) → min ≤ m → ((l : ℕ) → Reads (climb room min e) at j l n y) → (l : ℕ) → Reads (climb room min start) at mid l n y

  no_own : (room : ℕ) {i mid : ℕ} {e : Expr} → (own ≡ i → Sign at Kinds.left_paren own → ⊥) → First room i mid e
      → (l : ℕ) → Reads (parse_prefix fuel room) at i l mid (read e)
  no_own room h (a_term b g) = g
  no_own room h (the_own e q t z g c) = absurd (h e t)

  -- one turn, at an operator k
  climb_turn : (room : ℕ) (e : Expr) {min j n k m o p : ℕ} {f start y : Expr} (t : Sign at k j) → Binary k m o → min ≤ m → (mid : ℕ)
      → ((l : ℕ) → Reads (parse_prefix fuel room) at (j + 1) l mid (read start))
      → ((l : ℕ) → Reads (climb room (suc m) start) at mid l n f)
      → ((l : ℕ) → Reads (climb room min (binary o e f (span (span_e e).start (span_e f).end))) at n l p y)
      → (l : ℕ) → Reads (climb room min e) at j l p y
  unfolding turn operated operator
  climb_turn room e {min} {j} {n} {k} {m} {o} {p} {f} {start} {y} t b low mid first right rest l =
      let r = ranked b in
      let up : m + 1 ≡ suc m = omega arith in
      let right' : (l : ℕ) → Reads (climb room (m + 1) start) at mid l n f = rw up right in
      let level : precedence t.token.kind ≡ m = ap (λ c. precedence c) t.of ∙ r.level in
      let number : binary_operator t.token.kind ≡ o = ap (λ c. binary_operator c) t.of ∙ r.number in
      let g : Reads (turn (climb room) (parse_prefix fuel room) min e) at j l p y
      = steps t.there (le-leb min _ (omega arith))
      (then (first _) λ n₁. then {m = n} {b = f} (rw level (right' n₁)) λ n₂. rw number (rest n₂)) in
      record { end = g.end; same = climb_equation at count ends few room min e j l ∙ g.same }

  -- an expression, where no operator follows
  leads_expression : {room m i j : ℕ} {e : Expr} → Leads room m i j e → 1 ≤ m → (own ≡ i → Sign at Kinds.left_paren own → ⊥) → Ends at 1 j
      → (l : ℕ) → Reads (parse_expression_of fuel (parse_prefix fuel room)) at i l j (read e)
  unfolding parse_expression_of climbed
  leads_expression {room} {m} {i} {j} {e} h low apart stop l =
      then (no_own room apart h.first l) λ n. then (h.climbs 1 j e low (λ l. climb_stop fuel room 1 j l e stop) n) λ n₂. answers

  -- a term alone
  leads_term : {room i j : ℕ} {e : Expr} → Leads room 5 i j e → (own ≡ i → Sign at Kinds.left_paren own → ⊥)
      → (l : ℕ) → Reads (parse_prefix fuel room) at i l j (read e)
  leads_term {room} {i} {j} {e} h apart l =
      let none : (j : ℕ) → Ends at 5 j = λ j. record { less = λ k x p. omega (arith, precedence_most k.kind) } in
      let u = unique (h.climbs 5 j e (omega arith) (λ l. climb_stop fuel room 5 j l e (none j)) 0) (climb_stop fuel room 5 h.mid 0 h.start (none h.mid)) in
      rw (u.0, u.1) (no_own room apart h.first l)

  module _ (unreserved : (i : ℕ) (x : List ℕ) → allowed i x ≡ true → reserved x ≡ false) where
    abbrev later : {i : ℕ} → own ≤ i → own ≡ i + 1 → Sign at Kinds.left_paren own → ⊥
    later h e t = omega arith

    term_alone : {room i j : ℕ} {e : Expr} → (own ≡ i → Sign at Kinds.left_paren own → ⊥) → ((l : ℕ) → Reads (parse_prefix fuel room) at i l j (read e)) → Leads room 5 i j e
    term_alone {room} {i} {j} {e} b h = record { start = e; mid = j; first = a_term b h; next = inl refl; climbs = λ min n y low g. g }

    -- the term begins with another token
    not_group : {k i : ℕ} → Sign at k i → eqb k Kinds.left_paren ≡ false → own ≡ i → Sign at Kinds.left_paren own → ⊥
    not_group {k} {i} t q e g = true_false (ap (λ n. eqb n Kinds.left_paren) (sym (same_sign t (rw e at g))) ∙ q)

    close_ends : {j : ℕ} (m : ℕ) → 1 ≤ m → Sign at Kinds.right_paren j → Ends at m j
    unfolding precedence
    close_ends m h c = ends_by m c h

    pub leads : {m room i j : ℕ} {e : Expr} → Spells at allowed own m room i j e → own ≤ i → Ends at (suc m) j → Leads room m i j e
    unfolding parse_expression
    leads (a_number t w) h s = term_alone (not_group t refl) λ l. number_term_lem fuel _ l t w
    leads (a_literal t) h s = term_alone (not_group t refl) λ l. literal_term fuel _ l t
    leads (a_name {i = i} t q) h s = term_alone (not_group t refl) λ l. name_term fuel _ l t (unreserved i _ q)
    leads (a_local t) h s = term_alone (not_group t refl) λ l. local_term fuel _ l t
    leads (an_address t) h s = term_alone (not_group t refl) λ l. address_term fuel _ l t
    leads (a_unary t u g) h s = term_alone (not_group t (unary_sign u)) λ l. unary_term_lem fuel _ l t u (leads_term (leads g (omega arith) s) (later h))
    leads (a_group b t g c) h s =
        term_alone (λ e z. omega arith) λ l. group_term_lem fuel _ l t (leads_expression (leads g (omega arith) (close_ends 2 (omega arith) c)) (omega arith) (later h) (close_ends 1 (omega arith) c)) c
    leads (own_group {j = j} {e = e} t g c) h s =
        record {
          start = with_span e (span t.token.start c.token.end);
          mid = j + 1;
          first = the_own refl refl t g (leads_expression (leads g (omega arith) (close_ends 2 (omega arith) c)) (omega arith) (later h) (close_ends 1 (omega arith) c)) c;
          next = inl refl;
          climbs = λ min n y low g. g;
        }
    leads (tighter g) h s =
        let a = leads g h (looser (omega arith) s) in
        record { start = a.start; mid = a.mid; first = a.first; next = a.next; climbs = λ min n y low. a.climbs min n y (omega arith) }
    leads (joined {m} {room} {i} {j} {n} {k} {o} {e} {f} g t b g₂) h s =
        let r = ranked b in
        let a = leads g h (ends_by (suc m) t (omega (arith, r.level))) in
        let c = leads g₂ (omega (arith, rises g)) (looser (omega arith) s) in
        record {
          start = a.start;
          mid = a.mid;
          first = a.first;
          next = elim a.next [ inl q ↦ inr (rw q (other t Kinds.left_paren (binary_sign b))) | inr q ↦ inr q ];
          climbs = λ min p y low rest. a.climbs min p y low (climb_turn room e t b low c.mid
              (no_own room (λ q z. omega (arith, rises g)) c.first)
              (c.climbs (suc m) n f (omega arith) λ l. climb_stop fuel room (suc m) n l f s) rest);
        }

    -- an expression that is spelled is read
    pub expression_read : {room i j : ℕ} {e : Expr} → Spells at allowed own 1 room i j e → own ≤ i → (own ≡ i → Sign at Kinds.left_paren own → ⊥) → Ends at 1 j
        → (l : ℕ) → Reads (parse_expression room) at i l j (read e)
    unfolding parse_expression
    expression_read h low apart stop = leads_expression (leads h low (looser (omega arith) stop)) (omega arith) apart stop
