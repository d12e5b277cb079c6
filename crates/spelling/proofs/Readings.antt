-- What a reader makes of given tokens, step by step: the way from a spelling to its reading.
-- Assumes nothing.
use Rattle.std.specs.Prelude.{◌≡◌, refl, Bool, true, false, ℕ, ◌+◌, eqb}
use Rattle.std.proofs.Common.{sym, ◌∙◌}
use Rattle.std.proofs.Math.Path.{ap}
use mathlib.Core.List.{List, []}
use Rattle.names.specs.Places.{Place, nothing, stands}
use Rattle.names.specs.declared.tokens.Token.{Token}
use Rattle.expressions.specs.Reader.{Test, is, Reading, reading, after, Reader, answer, bind, here, bump, peek, run}
use Rattle.expressions.specs.Laws.{holds, met_one, met_yes, met_no}
use Rattle.spelling.specs.Signs.{Sign}

-- from i, the reader comes to the cursor j with the answer a, and raises nothing
pub record Reads {A : Type 0} (p : Reader A) (at : ℕ → Place) (i l j : ℕ) (a : A) : Type 0 where
  pub end : ℕ
  pub same : run p at i l ≡ reading j end [] a

record Comes {A : Type 0} (r : Reading A) (j : ℕ) (a : A) : Type 0 where
  end : ℕ
  same : r ≡ reading j end [] a

pub answers : {A : Type 0} {at : ℕ → Place} {i l : ℕ} {a : A} → Reads (answer a) at i l i a
unfolding run
answers {l = l} = record { end = l; same = refl }

module _ {A : Type 0} {at : ℕ → Place} {i l j : ℕ} {a : A} where
  pub from_here : {f : ℕ → ℕ → Reader A} → Reads (f i l) at i l j a → Reads (here f) at i l j a
  unfolding run
  from_here h = record { end = h.end; same = h.same }

  -- where it matters at which offset the first one ended
  pub then_at : {B : Type 0} {p : Reader B} {f : B → Reader A} {m e : ℕ} {b : B} → run p at i l ≡ reading m e [] b → Reads (f b) at m e j a
      → Reads (bind p f) at i l j a
  unfolding run
  then_at {f = f} h g =
      record {
        end = g.end;
        same = ap (λ r. after r.raised (run (f r.value) at r.cursor r.end)) h ∙ ap (λ (r : Reading A). after [] r) g.same;
      }

  pub then : {B : Type 0} {p : Reader B} {f : B → Reader A} {m : ℕ} {b : B} → Reads p at i l m b → ((n : ℕ) → Reads (f b) at m n j a)
      → Reads (bind p f) at i l j a
  then h g = then_at h.same (g h.end)

  module _ {t : Test} {y : Token → List ℕ → Reader A} {n : Unit {0} → Reader A} where
    pub steps : {k : Token} {x : List ℕ} → at i ≡ stands k x → t k x ≡ true → Reads (y k x) at (i + 1) k.end j a → Reads (bump t y n) at i l j a
    unfolding run
    steps {k = k} {x = x} h q g = record { end = g.end; same = met_yes t (λ k x. run (y k x) at (i + 1) k.end) (λ u. run (n u) at i l) (at i) k x h q ∙ g.same }

    pub passes : holds t (at i) ≡ false → Reads (n tt) at i l j a → Reads (bump t y n) at i l j a
    unfolding run
    passes q g = record { end = g.end; same = met_no t (λ k x. run (y k x) at (i + 1) k.end) (λ u. run (n u) at i l) (at i) q ∙ g.same }

    pub sees : {c m : ℕ} {k : Token} {x : List ℕ} → i + c ≡ m → at m ≡ stands k x → t k x ≡ true → Reads (y k x) at i l j a
        → Reads (peek c t y n) at i l j a
    unfolding run
    sees {c = c} {k = k} {x = x} e h q g = record { end = g.end; same = met_yes t (λ k x. run (y k x) at i l) (λ u. run (n u) at i l) (at (i + c)) k x (ap at e ∙ h) q ∙ g.same }

    pub misses : {c m : ℕ} → i + c ≡ m → holds t (at m) ≡ false → Reads (n tt) at i l j a → Reads (peek c t y n) at i l j a
    unfolding run
    misses {c = c} e q g = record { end = g.end; same = met_no t (λ k x. run (y k x) at i l) (λ u. run (n u) at i l) (at (i + c)) (ap (λ m. holds t (at m)) e ∙ q) ∙ g.same }

    -- whatever is seen
    pub either_way : {c m : ℕ} → i + c ≡ m → ((k : Token) (x : List ℕ) → at m ≡ stands k x → t k x ≡ true → Reads (y k x) at i l j a)
        → (holds t (at m) ≡ false → Reads (n tt) at i l j a) → Reads (peek c t y n) at i l j a
    unfolding run
    either_way {c = c} p f g =
        let r = met_one (λ (r : Reading A). Comes r j a) t (λ k x. run (y k x) at i l) (λ u. run (n u) at i l) (at (i + c))
        (λ k x e q. let h = f k x (sym (ap at p) ∙ e) q in record { end = h.end; same = h.same })
        (λ q. let h = g (sym (ap (λ m. holds t (at m)) p) ∙ q) in record { end = h.end; same = h.same }) in
        record { end = r.end; same = r.same }

-- what a test comes to at a token that is known
pub comes : {at : ℕ → Place} {k i : ℕ} {b : Bool} (t : Test) (s : Sign at k i) → t s.token s.text ≡ b → holds t (at i) ≡ b
unfolding holds
comes t s q = rw s.there q

pub other : {at : ℕ → Place} {k i : ℕ} (s : Sign at k i) (c : ℕ) → eqb k c ≡ false → holds (is c) (at i) ≡ false
other s c q = comes (is c) s (ap (λ k. eqb k c) s.of ∙ q)

pub kinded : {at : ℕ → Place} {k i : ℕ} (s : Sign at k i) (c : ℕ) → eqb k c ≡ true → eqb s.token.kind c ≡ true
kinded s c q = ap (λ k. eqb k c) s.of ∙ q

-- a reader is a function
pub unique : {A : Type 0} {p : Reader A} {at : ℕ → Place} {i l j n : ℕ} {a b : A} → Reads p at i l j a → Reads p at i l n b → (j ≡ n) × (a ≡ b)
unique h g = (ap (λ r. r.cursor) (sym h.same ∙ g.same), ap (λ r. r.value) (sym h.same ∙ g.same))

-- one token has one kind
pub same_sign : {at : ℕ → Place} {k n i : ℕ} → Sign at k i → Sign at n i → k ≡ n
same_sign s t = sym s.of ∙ ap kind_of (sym s.there ∙ t.there) ∙ t.of
  where
    kind_of : Place → ℕ
    kind_of nothing = 0
    kind_of (stands k x) = k.kind
