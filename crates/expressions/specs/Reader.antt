-- A reader as data: what it may do with the tokens, and nothing else.
-- Assumes nothing.
use Rattle.std.specs.Prelude.{Bool, true, false, Option, Some, None, List, [], ◌∷◌, ◌++◌, ℕ, ◌+◌, max, eqb}
use Rattle.std.specs.Bool.{then_some}
use Rattle.names.specs.Places.{Place, nothing, stands}
use Rattle.names.specs.declared.tokens.Token.{Token}
use Rattle.records.specs.declared.diagnostics.Diagnostic.{Diagnostic}

-- what a reading comes to: the cursor, the end of the last token stepped over, what was raised, and the answer
pub record Reading (A : Type 0) : Type 0 where
  pub cursor : ℕ
  pub end : ℕ
  pub raised : List Diagnostic
  pub value : A

-- a test of a token and its text
abbrev pub Test : Type 0
Test = Token → List ℕ → Bool

abbrev pub is : ℕ → Test
is kind k x = eqb k.kind kind

-- the token, if it is of this kind
unfoldable pub of_kind : ℕ → Option Token → Option Token
of_kind kind None = None
of_kind kind (Some k) = then_some (eqb k.kind kind) k

abbrev pub any : Test
any k x = true

-- answer: the value. bind: one reader after the other. here: the cursor, and the end of the last token. raise: a diagnostic.
-- bump: if the token at the cursor passes the test, step over it and go on with the first, else with the second.
-- peek: test the place that lies so far ahead of the cursor, which stays
pub data Reader : Type 0 → Type 1 where
  answer : {A : Type 0} → A → Reader A
  bind : {A B : Type 0} → Reader B → (B → Reader A) → Reader A
  here : {A : Type 0} → (ℕ → ℕ → Reader A) → Reader A
  raise : {A : Type 0} → Diagnostic → Reader A → Reader A
  bump : {A : Type 0} → Test → (Token → List ℕ → Reader A) → (Unit {0} → Reader A) → Reader A
  peek : {A : Type 0} → ℕ → Test → (Token → List ℕ → Reader A) → (Unit {0} → Reader A) → Reader A

infixl 20 ◌>>=◌
abbrev pub ◌>>=◌ : {A B : Type 0} → Reader B → (B → Reader A) → Reader A
◌>>=◌ p f = bind p f

-- one reader or the other, by a test
abbrev pub choose : {A : Type 0} → Bool → Reader A → Reader A → Reader A
choose true p q = p
choose false p q = q

abbrev pub reading : {A : Type 0} → ℕ → ℕ → List Diagnostic → A → Reading A
reading i l ds a = record { cursor = i; end = l; raised = ds; value = a }

-- what a test comes to at a place
unfoldable pub met : {S : Type 0} → Test → (Token → List ℕ → S) → (Unit {0} → S) → Place → S
met t y n nothing = n tt
met t y n (stands k x) = elim (t k x) [ true ↦ y k x | false ↦ n tt ]

-- the second reading, with what the first one raised
abbrev pub after : {A : Type 0} → List Diagnostic → Reading A → Reading A
after ds r = reading r.cursor r.end (ds ++ r.raised) r.value

-- the meaning of a reader: over what stands at each place, from a cursor on, with the end of the last token
unfoldable pub run : {A : Type 0} → Reader A → (ℕ → Place) → ℕ → ℕ → Reading A
unfolding met
run (answer a) at i l = reading i l [] a
run (bind p f) at i l = let s = run p at i l in after s.raised (run (f s.value) at s.cursor s.end)
run (here f) at i l = run (f i l) at i l
run (raise d p) at i l = after (d ∷ []) (run p at i l)
run (bump t y n) at i l = met t (λ k x. run (y k x) at (i + 1) k.end) (λ u. run (n u) at i l) (at i)
run (peek a t y n) at i l = met t (λ k x. run (y k x) at i l) (λ u. run (n u) at i l) (at (i + a))

-- the farthest place at which a reader has peeked, or r
unfoldable pub reach : {A : Type 0} → Reader A → (ℕ → Place) → ℕ → ℕ → ℕ → ℕ
reach (answer a) at i l r = r
reach (bind p f) at i l r = let s = run p at i l in reach (f s.value) at s.cursor s.end (reach p at i l r)
reach (here f) at i l r = reach (f i l) at i l r
reach (raise d p) at i l r = reach p at i l r
reach (bump t y n) at i l r = met t (λ k x. reach (y k x) at (i + 1) k.end r) (λ u. reach (n u) at i l r) (at i)
reach (peek a t y n) at i l r = met t (λ k x. reach (y k x) at i l (max r (i + a))) (λ u. reach (n u) at i l (max r (i + a))) (at (i + a))
