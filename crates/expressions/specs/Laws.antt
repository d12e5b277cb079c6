-- What holds of every reader, and how to state a law of one.
-- Assumes nothing.
use Rattle.std.specs.Prelude.{◌≡◌, refl, Bool, true, false, List, [], ◌∷◌, ◌++◌, ℕ, suc, ◌+◌, ◌≤◌, ◌<◌, max, eqb, length}
use Rattle.std.proofs.Common.{sym, ◌∙◌, ap, add_assoc, add-zero, add-suc, suc-add, arith, length-append}
use Rattle.names.specs.Kinds
use Rattle.names.specs.Places.{Place, nothing, stands}
use Rattle.names.specs.declared.tokens.Token.{Token}
use Rattle.records.specs.DiagnosticKinds
use Rattle.records.specs.Spans.{span_of}
use Rattle.records.specs.declared.spans.Span.{Span}
use Rattle.records.specs.declared.diagnostics.Diagnostic.{Diagnostic}
use Rattle.expressions.specs.Reader.{Test, Reading, after, Reader, answer, bind, here, raise, bump, peek, choose, run, met, reach}

-- ---- a test at a place, by cases

unfoldable pub holds : Test → Place → Bool
holds t nothing = false
holds t (stands k x) = t k x

pub met_all : {S R : Type 0} (P : S → R → Type 0) (t : Test) (y : Token → List ℕ → S) (n : Unit {0} → S) (y' : Token → List ℕ → R) (n' : Unit {0} → R) (p : Place)
    → ((k : Token) (x : List ℕ) → p ≡ stands k x → t k x ≡ true → P (y k x) (y' k x))
    → (holds t p ≡ false → P (n tt) (n' tt))
    → P (met t y n p) (met t y' n' p)
unfolding met holds
met_all P t y n y' n' nothing f g = g refl
met_all P t y n y' n' (stands k x) f g = go (t k x) refl
  where
    go : (b : Bool) → t k x ≡ b → P (elim b [ true ↦ y k x | false ↦ n tt ]) (elim b [ true ↦ y' k x | false ↦ n' tt ])
    go true q = f k x refl q
    go false q = g q

pub met_one : {S : Type 0} (P : S → Type 0) (t : Test) (y : Token → List ℕ → S) (n : Unit {0} → S) (p : Place)
    → ((k : Token) (x : List ℕ) → p ≡ stands k x → t k x ≡ true → P (y k x)) → (holds t p ≡ false → P (n tt)) → P (met t y n p)
met_one P t y n p f g = met_all (λ s (u : Unit {0}). P s) t y n (λ k x. tt) (λ u. tt) p f g

pub met_yes : {S : Type 0} (t : Test) (y : Token → List ℕ → S) (n : Unit {0} → S) (p : Place) (k : Token) (x : List ℕ)
    → p ≡ stands k x → t k x ≡ true → met t y n p ≡ y k x
unfolding met
met_yes t y n p k x h q = rw (h, met, q)

pub met_no : {S : Type 0} (t : Test) (y : Token → List ℕ → S) (n : Unit {0} → S) (p : Place) → holds t p ≡ false → met t y n p ≡ n tt
unfolding met holds
met_no t y n nothing q = refl
met_no t y n (stands k x) q = rw (q, met)

-- ---- the cursor

-- it never goes back
pub forward : {A : Type 0} (p : Reader A) (at : ℕ → Place) (i l : ℕ) → i ≤ (run p at i l).cursor
unfolding run
forward (answer a) at i l = omega arith
forward (bind p f) at i l =
    let s = run p at i l in
    omega (arith, forward p at i l, forward (f s.value) at s.cursor s.end)
forward (here f) at i l = forward (f i l) at i l
forward (raise d p) at i l = forward p at i l
forward {A} (bump t y n) at i l =
    met_one (λ (s : Reading A). i ≤ s.cursor) t (λ k x. run (y k x) at (i + 1) k.end) (λ u. run (n u) at i l) (at i)
    (λ k x h q. omega (arith, forward (y k x) at (i + 1) k.end)) (λ q. forward (n tt) at i l)
forward {A} (peek a t y n) at i l =
    met_one (λ (s : Reading A). i ≤ s.cursor) t (λ k x. run (y k x) at i l) (λ u. run (n u) at i l) (at (i + a))
    (λ k x h q. forward (y k x) at i l) (λ q. forward (n tt) at i l)

-- and stays within the tokens
pub within : {A : Type 0} (p : Reader A) (at : ℕ → Place) (count i l : ℕ)
    → ((j : ℕ) (k : Token) (x : List ℕ) → at j ≡ stands k x → j < count) → i ≤ count → (run p at i l).cursor ≤ count
unfolding run
within (answer a) at count i l ends h = h
within (bind p f) at count i l ends h = let s = run p at i l in within (f s.value) at count s.cursor s.end ends (within p at count i l ends h)
within (here f) at count i l ends h = within (f i l) at count i l ends h
within (raise d p) at count i l ends h = within p at count i l ends h
within {A} (bump t y n) at count i l ends h =
    met_one (λ (s : Reading A). s.cursor ≤ count) t (λ k x. run (y k x) at (i + 1) k.end) (λ u. run (n u) at i l) (at i)
    (λ k x h' q. within (y k x) at count (i + 1) k.end ends (omega (arith, ends i k x h'))) (λ q. within (n tt) at count i l ends h)
within {A} (peek a t y n) at count i l ends h =
    met_one (λ (s : Reading A). s.cursor ≤ count) t (λ k x. run (y k x) at i l) (λ u. run (n u) at i l) (at (i + a))
    (λ k x h' q. within (y k x) at count i l ends h) (λ q. within (n tt) at count i l ends h)

-- ---- locality: a reading depends on the places from the start through the cursor and through what was peeked at

reach_up : {A : Type 0} (p : Reader A) (at : ℕ → Place) (i l r : ℕ) → r ≤ reach p at i l r
unfolding reach
reach_up (answer a) at i l r = omega arith
reach_up (bind p f) at i l r = let s = run p at i l in omega (arith, reach_up p at i l r, reach_up (f s.value) at s.cursor s.end (reach p at i l r))
reach_up (here f) at i l r = reach_up (f i l) at i l r
reach_up (raise d p) at i l r = reach_up p at i l r
reach_up (bump t y n) at i l r = met_one (λ s. r ≤ s) t (λ k x. reach (y k x) at (i + 1) k.end r) (λ u. reach (n u) at i l r) (at i) (λ k x h q. reach_up (y k x) at (i + 1) k.end r) (λ q. reach_up (n tt) at i l r)
reach_up (peek a t y n) at i l r =
    met_one (λ s. r ≤ s) t (λ k x. reach (y k x) at i l (max r (i + a))) (λ u. reach (n u) at i l (max r (i + a))) (at (i + a))
    (λ k x h q. omega (arith, reach_up (y k x) at i l (max r (i + a)))) (λ q. omega (arith, reach_up (n tt) at i l (max r (i + a))))

pub local : {A : Type 0} (p : Reader A) (at at' : ℕ → Place) (i l r : ℕ)
    → ((j : ℕ) → i ≤ j → j ≤ max (run p at i l).cursor (reach p at i l r) → at j ≡ at' j)
    → run p at i l ≡ run p at' i l
unfolding run reach
local (answer a) at at' i l r h = refl
local {A} (bind p f) at at' i l r h =
    let s = run p at i l in
    let a = forward (f s.value) at s.cursor s.end in
    let b = reach_up (f s.value) at s.cursor s.end (reach p at i l r) in
    let c = forward p at i l in
    let e = local p at at' i l r (λ j x y. h j x (omega arith)) in
    let e' = local (f s.value) at at' s.cursor s.end (reach p at i l r) (λ j x y. h j (omega arith) y) in
    ap (λ (q : Reading A). after s.raised q) e' ∙ ap (λ q. after q.raised (run (f q.value) at' q.cursor q.end)) e
local (here f) at at' i l r h = local (f i l) at at' i l r h
local {A} (raise d p) at at' i l r h = ap (λ (q : Reading A). after (d ∷ []) q) (local p at at' i l r h)
local {A} (bump t y n) at at' i l r h =
    (met_all (λ (s : Reading A) (m : ℕ). ((j : ℕ) → i ≤ j → j ≤ max s.cursor m → at j ≡ at' j) → s ≡ run (bump t y n) at' i l) t (λ k x. run (y k x) at (i + 1) k.end) (λ u. run (n u) at i l) (λ k x. reach (y k x) at (i + 1) k.end r) (λ u. reach (n u) at i l r) (at i)
    (λ k x e q g.
    let a = forward (y k x) at (i + 1) k.end in
    local (y k x) at at' (i + 1) k.end r (λ j b c. g j (omega arith) c) ∙ sym (met_yes t (λ k x. run (y k x) at' (i + 1) k.end) (λ u. run (n u) at' i l) (at' i) k x (sym (g i (omega arith) (omega arith)) ∙ e) q))
    (λ q g.
    let a = forward (n tt) at i l in
    local (n tt) at at' i l r g ∙ sym (met_no t (λ k x. run (y k x) at' (i + 1) k.end) (λ u. run (n u) at' i l) (at' i) (rw (g i (omega arith) (omega arith)) at q)))) h
local {A} (peek a t y n) at at' i l r h =
    (met_all (λ (s : Reading A) (m : ℕ). ((j : ℕ) → i ≤ j → j ≤ max s.cursor m → at j ≡ at' j) → s ≡ run (peek a t y n) at' i l) t (λ k x. run (y k x) at i l) (λ u. run (n u) at i l) (λ k x. reach (y k x) at i l (max r (i + a))) (λ u. reach (n u) at i l (max r (i + a))) (at (i + a))
    (λ k x e q g.
    let b = reach_up (y k x) at i l (max r (i + a)) in
    local (y k x) at at' i l (max r (i + a)) g ∙ sym (met_yes t (λ k x. run (y k x) at' i l) (λ u. run (n u) at' i l) (at' (i + a)) k x (sym (g (i + a) (omega arith) (omega arith)) ∙ e) q))
    (λ q g.
    let b = reach_up (n tt) at i l (max r (i + a)) in
    local (n tt) at at' i l (max r (i + a)) g ∙ sym (met_no t (λ k x. run (y k x) at' i l) (λ u. run (n u) at' i l) (at' (i + a)) (rw (g (i + a) (omega arith) (omega arith)) at q)))) h

-- ---- a diagnostic of kind 13 has its plus before the cursor

-- a plus with this span stands before the place j
pub record PlusBefore (at : ℕ → Place) (s : Span) (j : ℕ) : Type 0 where
  pub place : ℕ
  pub before : place < j
  pub token : Token
  pub text : List ℕ
  pub found : at place ≡ stands token text
  pub plus : token.kind ≡ Kinds.plus
  pub spans : span_of token ≡ s

abbrev pub If : Bool → Type 0 → Type 0
If true T = T
If false T = Unit {0}

-- what a diagnostic that is raised with the cursor at j has to meet
abbrev pub Fine : (ℕ → Place) → Diagnostic → ℕ → Type 0
Fine at d j = If (eqb d.kind DiagnosticKinds.plus_is_not_a_unary_operator) (PlusBefore at d.span j)

if_map : {S T : Type 0} (b : Bool) → (S → T) → If b S → If b T
if_map true f h = f h
if_map false f h = tt

fine_on : (at : ℕ → Place) (d : Diagnostic) {i j : ℕ} → i ≤ j → Fine at d i → Fine at d j
fine_on at d h = if_map (eqb d.kind DiagnosticKinds.plus_is_not_a_unary_operator) λ p. record { place = p.place; before = omega arith; token = p.token; text = p.text; found = p.found; plus = p.plus; spans = p.spans }

abbrev pub Every : (Diagnostic → Type 0) → List Diagnostic → Type 0
Every P [] = Unit {0}
Every P (d ∷ ds) = P d × Every P ds

pub every_append : (P : Diagnostic → Type 0) (xs ys : List Diagnostic) → Every P xs → Every P ys → Every P (xs ++ ys)
every_append P [] ys f g = g
every_append P (x ∷ xs) ys f g = (f.0, every_append P xs ys f.1 g)

every_map : (P Q : Diagnostic → Type 0) (xs : List Diagnostic) → ((d : Diagnostic) → P d → Q d) → Every P xs → Every Q xs
every_map P Q [] f h = tt
every_map P Q (x ∷ xs) f h = (f x h.0, every_map P Q xs f h.1)

-- ---- the law of a reader

-- what it leaves, whatever way it takes: Q of the cursor, of how many diagnostics are raised, of how far it has peeked, and of the answer
unfoldable pub All : {A : Type 0} → Reader A → (ℕ → Place) → (ℕ → ℕ → ℕ → A → Type 0) → ℕ → ℕ → ℕ → ℕ → Type 0
All (answer a) at Q i l d r = Q i d r a
All (bind p f) at Q i l d r = All p at (λ j e s b. (m : ℕ) → All (f b) at Q j m e s) i l d r
All (here f) at Q i l d r = All (f i l) at Q i l d r
All (raise x p) at Q i l d r = Fine at x i × All p at Q i l (suc d) r
All (bump t y n) at Q i l d r =
    ((k : Token) (x : List ℕ) → at i ≡ stands k x → t k x ≡ true → All (y k x) at Q (i + 1) k.end d r) × (holds t (at i) ≡ false → All (n tt) at Q i l d r)
All (peek a t y n) at Q i l d r =
    ((k : Token) (x : List ℕ) → at (i + a) ≡ stands k x → t k x ≡ true → All (y k x) at Q i l d (max r (i + a)))
    × (holds t (at (i + a)) ≡ false → All (n tt) at Q i l d (max r (i + a)))

pub all_run : {A : Type 0} (p : Reader A) (at : ℕ → Place) (Q : ℕ → ℕ → ℕ → A → Type 0) (i l d r : ℕ)
    → All p at Q i l d r → Q (run p at i l).cursor (d + length (run p at i l).raised) (reach p at i l r) (run p at i l).value
unfolding run All reach
all_run (answer a) at Q i l d r h = rw (add-zero d) h
all_run (bind p f) at Q i l d r h =
    let s = run p at i l in
    rw (length-append, ← add_assoc) (all_run (f s.value) at Q s.cursor s.end _ _ (all_run p at (λ j e s b. (m : ℕ) → All (f b) at Q j m e s) i l d r h s.end))
all_run (here f) at Q i l d r h = all_run (f i l) at Q i l d r h
all_run (raise x p) at Q i l d r h = rw (add-suc, ← suc-add) (all_run p at Q i l (suc d) r h.1)
all_run {A} (bump t y n) at Q i l d r h =
    met_all (λ (s : Reading A) (m : ℕ). Q s.cursor (d + length s.raised) m s.value) t (λ k x. run (y k x) at (i + 1) k.end) (λ u. run (n u) at i l) (λ k x. reach (y k x) at (i + 1) k.end r) (λ u. reach (n u) at i l r) (at i)
    (λ k x e q. all_run (y k x) at Q (i + 1) k.end d r (h.0 k x e q))
    (λ q. all_run (n tt) at Q i l d r (h.1 q))
all_run {A} (peek a t y n) at Q i l d r h =
    met_all (λ (s : Reading A) (m : ℕ). Q s.cursor (d + length s.raised) m s.value) t (λ k x. run (y k x) at i l) (λ u. run (n u) at i l) (λ k x. reach (y k x) at i l (max r (i + a))) (λ u. reach (n u) at i l (max r (i + a))) (at (i + a))
    (λ k x e q. all_run (y k x) at Q i l d _ (h.0 k x e q))
    (λ q. all_run (n tt) at Q i l d _ (h.1 q))

pub all_fine : {A : Type 0} (p : Reader A) (at : ℕ → Place) (Q : ℕ → ℕ → ℕ → A → Type 0) (i l d r : ℕ)
    → All p at Q i l d r → Every (λ x. Fine at x (run p at i l).cursor) (run p at i l).raised
unfolding run All
all_fine (answer a) at Q i l d r h = tt
all_fine (bind p f) at Q i l d r h =
    let s = run p at i l in
    let j = (run (f s.value) at s.cursor s.end).cursor in
    every_append (λ x. Fine at x j) s.raised _
    (every_map (λ x. Fine at x s.cursor) (λ x. Fine at x j) s.raised (λ x g. fine_on at x (forward (f s.value) at s.cursor s.end) g)
    (all_fine p at (λ j e s b. (m : ℕ) → All (f b) at Q j m e s) i l d r h))
    (all_fine (f s.value) at Q s.cursor s.end _ _ (all_run p at (λ j e s b. (m : ℕ) → All (f b) at Q j m e s) i l d r h s.end))
all_fine (here f) at Q i l d r h = all_fine (f i l) at Q i l d r h
all_fine (raise x p) at Q i l d r h = (fine_on at x (forward p at i l) h.0, all_fine p at Q i l (suc d) r h.1)
all_fine {A} (bump t y n) at Q i l d r h =
    met_one (λ (s : Reading A). Every (λ x. Fine at x s.cursor) s.raised) t (λ k x. run (y k x) at (i + 1) k.end) (λ u. run (n u) at i l) (at i)
    (λ k x e q. all_fine (y k x) at Q (i + 1) k.end d r (h.0 k x e q))
    (λ q. all_fine (n tt) at Q i l d r (h.1 q))
all_fine {A} (peek a t y n) at Q i l d r h =
    met_one (λ (s : Reading A). Every (λ x. Fine at x s.cursor) s.raised) t (λ k x. run (y k x) at i l) (λ u. run (n u) at i l) (at (i + a))
    (λ k x e q. all_fine (y k x) at Q i l d _ (h.0 k x e q))
    (λ q. all_fine (n tt) at Q i l d _ (h.1 q))

weaken : {A : Type 0} (p : Reader A) (at : ℕ → Place) (R Q : ℕ → ℕ → ℕ → A → Type 0) (i l d r : ℕ)
    → All p at R i l d r → ((j e s : ℕ) (a : A) → i ≤ j → d ≤ e → r ≤ s → R j e s a → Q j e s a) → All p at Q i l d r
unfolding All
weaken (answer a) at R Q i l d r h g = g i d r a (omega arith) (omega arith) (omega arith) h
weaken (bind p f) at R Q i l d r h g =
    weaken p at (λ j e s b. (m : ℕ) → All (f b) at R j m e s) (λ j e s b. (m : ℕ) → All (f b) at Q j m e s) i l d r h
    λ j e s b x y z c m. weaken (f b) at R Q j m e s (c m) λ j' e' s' a x' y' z'. g j' e' s' a (omega arith) (omega arith) (omega arith)
weaken (here f) at R Q i l d r h g = weaken (f i l) at R Q i l d r h g
weaken (raise x p) at R Q i l d r h g = (h.0, weaken p at R Q i l (suc d) r h.1 λ j e s a b c. g j e s a b (omega arith))
weaken (bump t y n) at R Q i l d r h g = (
  (λ k x e q. weaken (y k x) at R Q (i + 1) k.end d r (h.0 k x e q) λ j e' s a b c. g j e' s a (omega arith) c),
  λ q. weaken (n tt) at R Q i l d r (h.1 q) g,
)
weaken (peek b t y n) at R Q i l d r h g = (
  (λ k v e q. weaken (y k v) at R Q i l d _ (h.0 k v e q) λ j e s a x y z. g j e s a x y (omega arith)),
  λ q. weaken (n tt) at R Q i l d _ (h.1 q) λ j e s a x y z. g j e s a x y (omega arith),
)

-- a record, so that a caller may write `_` for what the law is of
pub record Law {A : Type 0} (p : Reader A) (at : ℕ → Place) (R : ℕ → ℕ → ℕ → A → Type 0) (i l d r : ℕ) : Type 0 where
  pub all : All p at R i l d r

-- the use of a law where the reader is called
pub call : {A : Type 0} {p : Reader A} {at : ℕ → Place} {R Q : ℕ → ℕ → ℕ → A → Type 0} {i l d r : ℕ}
    → Law p at R i l d r → ((j e s : ℕ) (a : A) → i ≤ j → d ≤ e → r ≤ s → R j e s a → Q j e s a) → All p at Q i l d r
call h g = weaken _ _ _ _ _ _ _ _ h.all g

-- a law at the start says what the reading leaves
pub law_run : {A : Type 0} {p : Reader A} {at : ℕ → Place} {R : ℕ → ℕ → ℕ → A → Type 0} {i l d r : ℕ}
    → Law p at R i l d r → R (run p at i l).cursor (d + length (run p at i l).raised) (reach p at i l r) (run p at i l).value
law_run h = all_run _ _ _ _ _ _ _ h.all

pub all_choose : {A : Type 0} (b : Bool) (p q : Reader A) (at : ℕ → Place) (Q : ℕ → ℕ → ℕ → A → Type 0) (i l d r : ℕ)
    → All p at Q i l d r → All q at Q i l d r → All (choose b p q) at Q i l d r
all_choose true p q at Q i l d r g h = g
all_choose false p q at Q i l d r g h = h
