-- Two readers that read the same from here, where all that the first one raises is of some sort; and how that is shown, step by step.
-- Assumes nothing.
use Rattle.std.specs.Prelude.{◌≡◌, refl, true, List, [], ◌∷◌, ◌++◌, ℕ, ◌+◌, ◌≤◌}
use Rattle.std.proofs.Math.Path.{sym, ap}
use Rattle.std.proofs.Common.{◌∙◌}
use Rattle.names.specs.Places.{Place, nothing, stands}
use Rattle.names.specs.declared.tokens.Token.{Token}
use Rattle.records.specs.declared.diagnostics.Diagnostic.{Diagnostic}
use Rattle.expressions.specs.Reader.{Test, Reading, after, Reader, bind, here, bump, peek, run}
use Rattle.expressions.specs.Laws.{holds, met_one, met_yes, met_no, forward, Every}

pub record Alike {A : Type 0} (P : Diagnostic → Type 0) (at : ℕ → Place) (i l : ℕ) (p q : Reader A) : Type 0 where
  pub same : Every P (run p at i l).raised → run p at i l ≡ run q at i l

-- ---- of every sort

abbrev pub Any : Diagnostic → Type 0
Any d = Unit {0}

every_any : (ds : List Diagnostic) → Every Any ds
every_any [] = tt
every_any (d ∷ ds) = (tt, every_any ds)

-- the same, whatever is raised
pub alike_run : {A : Type 0} {at : ℕ → Place} {i l : ℕ} {p q : Reader A} → Alike Any at i l p q → run p at i l ≡ run q at i l
alike_run {at = at} {i = i} {l = l} {p = p} h = h.same (every_any (run p at i l).raised)

pub flip : {A : Type 0} {at : ℕ → Place} {i l : ℕ} {p q : Reader A} → Alike Any at i l p q → Alike Any at i l q p
flip h = record { same = λ e. sym (alike_run h) }

-- ---- step by step

every_split : (P : Diagnostic → Type 0) (xs ys : List Diagnostic) → Every P (xs ++ ys) → Every P xs × Every P ys
every_split P [] ys h = (tt, h)
every_split P (x ∷ xs) ys h = let t = every_split P xs ys h.1 in ((h.0, t.0), t.1)

holds_same : (t u : Test) (p : Place) → ((k : Token) (x : List ℕ) → p ≡ stands k x → t k x ≡ u k x) → holds t p ≡ holds u p
unfolding holds
holds_same t u nothing h = refl
holds_same t u (stands k x) h = h k x refl

module _ {P : Diagnostic → Type 0} where
  pub same_alike : {A : Type 0} {at : ℕ → Place} {i l : ℕ} {p : Reader A} → Alike P at i l p p
  same_alike = record { same = λ e. refl }

  -- readers that are equal
  pub path_alike : {A : Type 0} {at : ℕ → Place} {i l : ℕ} {p q : Reader A} → p ≡ q → Alike P at i l p q
  path_alike {at = at} {i = i} {l = l} e = record { same = λ h. ap (λ r. run r at i l) e }

  pub bind_alike : {A B : Type 0} {at : ℕ → Place} {i l : ℕ} {p q : Reader B} {f g : B → Reader A}
      → Alike P at i l p q → ((j m : ℕ) (b : B) → i ≤ j → Alike P at j m (f b) (g b)) → Alike P at i l (bind p f) (bind q g)
  unfolding run
  bind_alike {A} {at = at} {i = i} {l = l} {p = p} {g = g} h k = record {
    same = λ e.
        let s = run p at i l in
        let t = every_split P s.raised _ e in
        ap (λ (r : Reading A). after s.raised r) ((k s.cursor s.end s.value (forward p at i l)).same t.1)
        ∙ ap (λ r. after r.raised (run (g r.value) at r.cursor r.end)) (h.same t.0);
  }

  pub here_alike : {A : Type 0} {at : ℕ → Place} {i l : ℕ} {f g : ℕ → ℕ → Reader A} → Alike P at i l (f i l) (g i l) → Alike P at i l (here f) (here g)
  unfolding run
  here_alike h = record { same = λ e. h.same e }

  -- two tests that agree on what stands there
  pub bump_same : {A : Type 0} {at : ℕ → Place} {i l : ℕ} {t u : Test} {y y' : Token → List ℕ → Reader A} {n n' : Unit {0} → Reader A}
      → ((k : Token) (x : List ℕ) → at i ≡ stands k x → t k x ≡ u k x)
      → ((k : Token) (x : List ℕ) → at i ≡ stands k x → t k x ≡ true → Alike P at (i + 1) k.end (y k x) (y' k x)) → Alike P at i l (n tt) (n' tt)
      → Alike P at i l (bump t y n) (bump u y' n')
  unfolding run
  bump_same {A} {at = at} {i = i} {l = l} {t = t} {u = u} {y = y} {y' = y'} {n = n} {n' = n'} e f g = record {
    same =
        met_one (λ (s : Reading A). Every P s.raised → s ≡ run (bump u y' n') at i l) t (λ k x. run (y k x) at (i + 1) k.end) (λ u. run (n u) at i l) (at i)
        (λ k x h q c. (f k x h q).same c ∙ sym (met_yes u (λ k x. run (y' k x) at (i + 1) k.end) (λ v. run (n' v) at i l) (at i) k x h (sym (e k x h) ∙ q)))
        (λ q c. g.same c ∙ sym (met_no u (λ k x. run (y' k x) at (i + 1) k.end) (λ v. run (n' v) at i l) (at i) (sym (holds_same t u (at i) e) ∙ q)));
  }

  pub peek_same : {A : Type 0} {at : ℕ → Place} {i l : ℕ} (a : ℕ) {t u : Test} {y y' : Token → List ℕ → Reader A} {n n' : Unit {0} → Reader A}
      → ((k : Token) (x : List ℕ) → at (i + a) ≡ stands k x → t k x ≡ u k x)
      → ((k : Token) (x : List ℕ) → Alike P at i l (y k x) (y' k x)) → Alike P at i l (n tt) (n' tt)
      → Alike P at i l (peek a t y n) (peek a u y' n')
  unfolding run
  peek_same {A} {at = at} {i = i} {l = l} a {t = t} {u = u} {y = y} {y' = y'} {n = n} {n' = n'} e f g = record {
    same =
        met_one (λ (s : Reading A). Every P s.raised → s ≡ run (peek a u y' n') at i l) t (λ k x. run (y k x) at i l) (λ u. run (n u) at i l) (at (i + a))
        (λ k x h q c. (f k x).same c ∙ sym (met_yes u (λ k x. run (y' k x) at i l) (λ v. run (n' v) at i l) (at (i + a)) k x h (sym (e k x h) ∙ q)))
        (λ q c. g.same c ∙ sym (met_no u (λ k x. run (y' k x) at i l) (λ v. run (n' v) at i l) (at (i + a)) (sym (holds_same t u (at (i + a)) e) ∙ q)));
  }

  -- the same test
  pub bump_alike : {A : Type 0} {at : ℕ → Place} {i l : ℕ} {t : Test} {y y' : Token → List ℕ → Reader A} {n n' : Unit {0} → Reader A}
      → ((k : Token) (x : List ℕ) → at i ≡ stands k x → t k x ≡ true → Alike P at (i + 1) k.end (y k x) (y' k x)) → Alike P at i l (n tt) (n' tt)
      → Alike P at i l (bump t y n) (bump t y' n')
  bump_alike f g = bump_same (λ k x h. refl) f g

  pub peek_alike : {A : Type 0} {at : ℕ → Place} {i l a : ℕ} {t : Test} {y y' : Token → List ℕ → Reader A} {n n' : Unit {0} → Reader A}
      → ((k : Token) (x : List ℕ) → Alike P at i l (y k x) (y' k x)) → Alike P at i l (n tt) (n' tt)
      → Alike P at i l (peek a t y n) (peek a t y' n')
  peek_alike {a = a} f g = peek_same a (λ k x h. refl) f g
