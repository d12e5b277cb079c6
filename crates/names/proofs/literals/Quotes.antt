-- The bytes of a literal, from its front.
-- Assumes nothing.
use Rattle.std.proofs.Common.{◌≡◌, refl, sym, ◌∙◌, ap, Bool, true, false, eqb, List, [], ◌∷◌, ℕ, ◌+◌, ◌-◌, ◌≤◌, ◌<◌, length, get_or, take, drop, set, arith, zero-add, add-one, eq-eqb, ne_eqb, le-leb, Some, None}
use borrow.Author.Tests.{lt-leb}
use lib.Seq.{take_all, paste, paste-zero, paste-suc}
use Rattle.std.specs.Iterator.{YieldsFirst, Drains}
use Rattle.std.proofs.lemmas.Iterator.Consumers.{YieldsList-from_first, count_from_yields_List}
use Rattle.names.specs.declared.literals.Inside.{Inside}
use Rattle.names.specs.Choice.{pick}
use Rattle.names.specs.Literals.{quoted, literal_bytes, FirstInner, Stored}
use Rattle.names.proofs.tokens.Lists.{from, rest, front, length_rest}

byte : (q c : ℕ) (cs : List ℕ) → (c ≡ q → ⊥) → quoted q (c ∷ cs) ≡ c ∷ quoted q cs
unfolding quoted
byte q c [] h = simp (ne_eqb c q h)
byte q c (d ∷ ds) h = simp (ne_eqb c q h)

module _ (q : ℕ) where
  pub quoted_none : (t : List ℕ) → length t < 1 → quoted q t ≡ []
  unfolding quoted
  quoted_none [] h = refl
  quoted_none (c ∷ cs) h = absurd (omega arith)

  pub quoted_first : (t : List ℕ) → 1 ≤ length t → (get_or t 0 0 ≡ q → ⊥) → FirstInner q t (get_or t 0 0) (rest t)
  quoted_first t h n = (ap (quoted q) (front t h) ∙ byte q _ (rest t) n, omega (arith, length_rest t h))

  pub quoted_last : (t : List ℕ) → get_or t 0 0 ≡ q → length t < 2 → quoted q t ≡ []
  unfolding quoted
  quoted_last [] e h = refl
  quoted_last (c ∷ []) e h = rw (eq-eqb c q e)
  quoted_last (c ∷ d ∷ ds) e h = absurd (omega arith)

  pub quoted_close : (t : List ℕ) → get_or t 0 0 ≡ q → (get_or t 1 0 ≡ q → ⊥) → quoted q t ≡ []
  unfolding quoted
  quoted_close [] e n = refl
  quoted_close (c ∷ []) e n = rw (eq-eqb c q e)
  quoted_close (c ∷ d ∷ ds) e n = rw (eq-eqb c q e, ne_eqb d q n)

  pub quoted_double : (t : List ℕ) → 2 ≤ length t → get_or t 0 0 ≡ q → get_or t 1 0 ≡ q → FirstInner q t q (take (length t - 2) (drop 2 t))
  unfolding quoted
  quoted_double [] h e f = absurd (omega arith)
  quoted_double (c ∷ []) h e f = absurd (omega arith)
  quoted_double (c ∷ d ∷ ds) h e f = let l = take_all (length (c ∷ d ∷ ds) - 2) ds (omega arith) in (rw (eq-eqb c q e, eq-eqb d q f, l, e), rw l (omega arith))

pub literal_none : (t : List ℕ) → length t < 1 → literal_bytes t ≡ []
unfolding literal_bytes
literal_none [] h = refl
literal_none (c ∷ cs) h = absurd (omega arith)

pub literal_some : (t : List ℕ) → 1 ≤ length t → literal_bytes t ≡ quoted (get_or t 0 0) (rest t)
unfolding literal_bytes
literal_some t h = ap literal_bytes (front t h)

-- no more bytes than the inside has
pub quoted_short : (q : ℕ) (l : List ℕ) → length (quoted q l) ≤ length l
unfolding quoted
quoted_short q [] = omega arith
quoted_short q (c ∷ []) = go (eqb c q)
  where
    go : (b : Bool) → length (pick b [] (c ∷ [])) ≤ 1
    go true = omega arith
    go false = omega arith
quoted_short q (c ∷ d ∷ ds) = go (eqb c q) (eqb d q) (quoted_short q ds) (quoted_short q (d ∷ ds))
  where
    go : (a b : Bool) → length (quoted q ds) ≤ length ds → length (quoted q (d ∷ ds)) ≤ length (d ∷ ds)
        → length (pick a (pick b (c ∷ quoted q ds) []) (c ∷ quoted q (d ∷ ds))) ≤ length (c ∷ d ∷ ds)
    go true true h g = omega arith
    go true false h g = omega arith
    go false b h g = omega arith

-- the bytes to come are as many as are counted
pub counted : (s : Inside) (r : ℕ) → ((xs : List ℕ) × Drains (YieldsFirst (λ s. quoted s.quote s.rest.now)) s xs × (r ≡ length xs)) → r ≡ length (quoted s.quote s.rest.now)
counted s r d = count_from_yields_List s r d (YieldsList-from_first (λ x. x) (λ s. quoted s.quote s.rest.now) _ refl)

-- ---- the bytes in a store

-- of the bytes b, n stand in the store, o before; left are the others
pub record Storing (b o : List ℕ) (n : ℕ) (left o' : List ℕ) : Type 0 where
  pub room : length b ≤ length o
  pub all : n + length left ≡ length b
  pub rest : drop n b ≡ left
  pub store : o' ≡ paste o 0 b n

module _ (b o : List ℕ) where
  pub stored_not : length o < length b → Stored b o o None
  stored_not h = let x = lt-leb (length b) (length o) h in record { answer = simp x; store = simp x }

  pub storing_first : length b ≤ length o → Storing b o 0 b o
  storing_first r = record { room = r; all = omega arith; rest = refl; store = paste-zero o 0 b }

module _ {b o : List ℕ} {n : ℕ} {left o' : List ℕ} (s : Storing b o n left o') where
  -- one byte more in the store
  pub storing_next : (c : ℕ) (more : List ℕ) → left ≡ c ∷ more → Storing b o (n + 1) more (set o' n c)
  storing_next c more e =
      let h : n < length b = omega (arith, s.all, ap length e) in
      let k = from b n h in
      let r = s.rest ∙ e in
      let g : get_or b n 0 ≡ c = cc in
      let f =
      ap (λ k. set (paste o 0 b n) k (get_or b n 0)) (sym (zero-add n))
      ∙ paste-suc o 0 b n 0 (rw zero-add (omega (arith, s.room))) h
      ∙ ap (paste o 0 b) (sym (add-one n)) in
      record { room = s.room; all = omega (arith, s.all, ap length e); rest = cc; store = ap (λ x. set x n c) s.store ∙ ap (set (paste o 0 b n) n) (sym g) ∙ f }

  pub storing_last : left ≡ [] → Stored b o o' (Some n)
  storing_last e =
      let x = le-leb (length b) (length o) s.room in
      let y : n ≡ length b = omega (arith, s.all, ap length e) in
      record { answer = rw x (ap Some y); store = rw x (s.store ∙ rw (zero-add, take_all n b (omega arith), y)) }
