-- What a reading has met that raises nothing: the way from a reading to its spelling.
-- Assumes nothing.
use Rattle.std.specs.Prelude.{◌≡◌, refl, Bool, true, false, List, [], ◌∷◌, ◌++◌, ℕ, ◌+◌, ◌≤◌, length}
use Rattle.std.proofs.Common.{ap, arith}
use Rattle.names.specs.Places.{Place}
use Rattle.records.specs.declared.diagnostics.Diagnostic.{Diagnostic}
use Rattle.expressions.specs.Reader.{Reading, Reader, answer, bind, here, raise, bump, peek, choose, run}
use Rattle.expressions.specs.Laws.{met_one, forward}
use Rattle.spelling.specs.Silence.{Silent, Unerring, Quiet}

empty_first : (xs ys : List Diagnostic) → xs ++ ys ≡ [] → xs ≡ []
empty_first [] ys h = refl
empty_first (x ∷ xs) ys h = let z = ap length h in absurd (omega arith)

empty_second : (xs ys : List Diagnostic) → xs ++ ys ≡ [] → ys ≡ []
empty_second [] ys h = h
empty_second (x ∷ xs) ys h = let z = ap length h in absurd (omega arith)

narrower : {at : ℕ → Place} {i j m n : ℕ} → m ≤ i → j ≤ n → Unerring at m n → Unerring at i j
narrower a b h = record { none = λ m k x c d. h.none m k x (omega arith) (omega arith) }

pub silent_run : {A : Type 0} (p : Reader A) (at : ℕ → Place) (Q : ℕ → ℕ → A → Type 0) (i l : ℕ) → Silent p at Q i l → (run p at i l).raised ≡ []
    → Unerring at i (run p at i l).cursor → Q (run p at i l).cursor (run p at i l).end (run p at i l).value
unfolding run Silent
silent_run (answer a) at Q i l h e u = h
silent_run (bind p f) at Q i l h e u =
    let s = run p at i l in
    let a = forward p at i l in
    let b = forward (f s.value) at s.cursor s.end in
    silent_run (f s.value) at Q s.cursor s.end
    (silent_run p at (λ j m b. Silent (f b) at Q j m) i l h (empty_first s.raised _ e) (narrower (omega arith) b u))
    (empty_second s.raised _ e) (narrower a (omega arith) u)
silent_run (here f) at Q i l h e u = silent_run (f i l) at Q i l h e u
silent_run (raise d p) at Q i l h e u = let z = ap length e in absurd (omega arith)
silent_run {A} (bump t y n) at Q i l h e u =
    (met_one (λ (r : Reading A). r.raised ≡ [] → Unerring at i r.cursor → Q r.cursor r.end r.value) t (λ k x. run (y k x) at (i + 1) k.end) (λ u. run (n u) at i l) (at i)
    (λ k x c q e u.
    let a = forward (y k x) at (i + 1) k.end in
    silent_run (y k x) at Q (i + 1) k.end (h.0 k x c q (u.none i k x (omega arith) (omega arith) c)) e (narrower (omega arith) (omega arith) u))
    (λ q e u. silent_run (n tt) at Q i l (h.1 q) e u)) e u
silent_run {A} (peek a t y n) at Q i l h e u =
    (met_one (λ (r : Reading A). r.raised ≡ [] → Unerring at i r.cursor → Q r.cursor r.end r.value) t (λ k x. run (y k x) at i l) (λ u. run (n u) at i l) (at (i + a))
    (λ k x c q e u. silent_run (y k x) at Q i l (h.0 k x c q) e u)
    (λ q e u. silent_run (n tt) at Q i l (h.1 q) e u)) e u

weaken : {A : Type 0} (p : Reader A) (at : ℕ → Place) (R Q : ℕ → ℕ → A → Type 0) (i l : ℕ)
    → Silent p at R i l → ((j m : ℕ) (a : A) → i ≤ j → R j m a → Q j m a) → Silent p at Q i l
unfolding Silent
weaken (answer a) at R Q i l h g = g i l a (omega arith) h
weaken (bind p f) at R Q i l h g =
    weaken p at (λ j m b. Silent (f b) at R j m) (λ j m b. Silent (f b) at Q j m) i l h λ j m b c r. weaken (f b) at R Q j m r λ j₂ m₂ a d. g j₂ m₂ a (omega arith)
weaken (here f) at R Q i l h g = weaken (f i l) at R Q i l h g
weaken (raise d p) at R Q i l h g = tt
weaken (bump t y n) at R Q i l h g = (
  (λ k x e q w. weaken (y k x) at R Q (i + 1) k.end (h.0 k x e q w) λ j m a b. g j m a (omega arith)),
  λ q. weaken (n tt) at R Q i l (h.1 q) g,
)
weaken (peek c t y n) at R Q i l h g = ((λ k x e q. weaken (y k x) at R Q i l (h.0 k x e q) g), λ q. weaken (n tt) at R Q i l (h.1 q) g)

-- the use of a law where the reader is called
pub call : {A : Type 0} {p : Reader A} {at : ℕ → Place} {R Q : ℕ → ℕ → A → Type 0} {i l : ℕ}
    → Quiet p at R i l → ((j m : ℕ) (a : A) → i ≤ j → R j m a → Q j m a) → Silent p at Q i l
call h g = weaken _ _ _ _ _ _ h.all g

pub silent_choose : {A : Type 0} (b : Bool) (p q : Reader A) (at : ℕ → Place) (Q : ℕ → ℕ → A → Type 0) (i l : ℕ)
    → (b ≡ true → Silent p at Q i l) → (b ≡ false → Silent q at Q i l) → Silent (choose b p q) at Q i l
silent_choose true p q at Q i l g h = g refl
silent_choose false p q at Q i l g h = h refl
