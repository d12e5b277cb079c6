-- A path through a reader, a step at a time: from what the rest of it tells, what the whole tells.
-- Assumes nothing.
use Rattle.std.proofs.Math.Path.{◌≡◌, refl, ap}
use Rattle.std.proofs.Common.{Some, None, sym, ◌∙◌, ap₂, subst, arith, length-append}
use Rattle.std.specs.Prelude.{Bool, false, Option, List, ℕ, ◌+◌, ◌*◌, ◌<◌, eqb, length}
use Rattle.std.specs.Bool.{then_some}
use Rattle.std.proofs.Math.Bool.{true}
use Rattle.std.proofs.lemmas.Option.{none-some}
use Rattle.names.specs.Laws.{true_false}
use Rattle.names.specs.Tokens.{token_at}
use Rattle.names.specs.Places.{Place, nothing, stands, text_of, placed, place, there, nowhere}
use Rattle.names.specs.declared.tokens.Token.{Token}
use Rattle.records.specs.declared.diagnostics.Diagnostic.{Diagnostic}
use Rattle.records.specs.declared.counters.Counters.{Counters}
use Rattle.records.specs.Diagnostics.{diagnostic_record}
use Rattle.records.specs.Stores.{written, added}
use Rattle.records.specs.Written.{added_append}
use Rattle.records.specs.Counters.{stepped, OneMore, counters_are, over_is}
use Rattle.expressions.specs.Laws.{holds, met_yes, met_no}
use Rattle.expressions.specs.Reader.{Test, is, of_kind, Reading, Reader, answer, here, raise, bump, peek, ◌>>=◌, choose, run}
use Rattle.expressions.specs.Told.{Raised, RaisedOver, over, ended, Told, Same, NextTold}

-- ---- a test that fails

pub fails : (t : Test) (p : Place) (k : Token) (x : List ℕ) → p ≡ stands k x → t k x ≡ false → holds t p ≡ false
unfolding holds
fails t p k x h q = rw h q

pub fails_end : (t : Test) (p : Place) → p ≡ nothing → holds t p ≡ false
unfolding holds
fails_end t p h = rw h

-- ---- a token of a kind

pub kind_token : (kind : ℕ) (o : Option Token) {k : Token} → of_kind kind o ≡ Some k → (o ≡ Some k) × (eqb k.kind kind ≡ true)
unfolding of_kind
kind_token kind None e = absurd (none-some _ e)
kind_token kind (Some m) {k} e = go (eqb m.kind kind) refl e
  where
    go : (b : Bool) → eqb m.kind kind ≡ b → then_some b m ≡ Some k → (Some m ≡ Some k) × (eqb k.kind kind ≡ true)
    go true q h = let s : m ≡ k = cc in (h, rw (← s) q)
    go false q h = absurd (none-some _ h)

pub no_kind : (kind : ℕ) (L T : List ℕ) (i : ℕ) → of_kind kind (token_at T i) ≡ None → holds (is kind) (place L T i) ≡ false
unfolding of_kind place placed holds
no_kind kind L T i e = go (token_at T i) e
  where
    no : (k : Token) (b : Bool) → eqb k.kind kind ≡ b → then_some b k ≡ None → eqb k.kind kind ≡ false
    no k true q g = absurd (none-some _ (sym g))
    no k false q g = q

    go : (o : Option Token) → of_kind kind o ≡ None → holds (is kind) (placed L o) ≡ false
    go None h = refl
    go (Some k) h = no k (eqb k.kind kind) refl h

-- ---- a diagnostic that is raised

-- as the code tells it
pub told_one : {x : Diagnostic} {D D' : List ℕ} {c r : Counters} → c.diagnostics < 65535 → D' ≡ written D (10 * c.diagnostics) (diagnostic_record x) → OneMore c r → Raised D D' c x r
told_one {r = r} h e k = record { counters = counters_are r _ _ _ _ k.at k.end k.nodes (omega (arith, h, k.diagnostics)); more = e }

-- the counters, written out
pub raised_here : {D D' : List ℕ} {c : Counters} {x : Diagnostic} {r : Counters} → Raised D D' c x r → Raised D D' c x (record { at = c.at; end = c.end; nodes = c.nodes; diagnostics = c.diagnostics + 1 })
raised_here h = record { counters = refl; more = h.more }

-- by another name
pub raised_as : {D D' : List ℕ} {c : Counters} {x y : Diagnostic} {r : Counters} → x ≡ y → Raised D D' c x r → Raised D D' c y r
raised_as {D} {D'} {c} {r = r} e h = subst (λ z. Raised D D' c z r) e h

-- from other counters, at which the span ends
pub raised_at : {D D' : List ℕ} {c c₁ : Counters} {r : Counters} (x : ℕ → Diagnostic) → c₁ ≡ c → Raised D D' c₁ (x c₁.end) r → Raised D D' c (x c.end) r
raised_at {D} {D'} {r = r} x e h = subst (λ z. Raised D D' z (x z.end) r) e h

-- ---- steps

-- the same reading by another reader, from counters that count as many diagnostics
pub retold : {A E : Type 0} {f : A → E} {Q : A → Counters → Type 0} {p q : Reader A} {L T D D' : List ℕ} {c c₁ : Counters} {v : E} {r : Counters}
    → run p (place L T) c.at c.end ≡ run q (place L T) c₁.at c₁.end → c₁.diagnostics ≡ c.diagnostics → Told f Q q L T D D' c₁ v r → Told f Q p L T D D' c v r
retold {A} {f = f} {Q = Q} {p = p} {L = L} {T = T} {D = D} {c = c} {c₁ = c₁} {r = r} e d h = record {
  what = h.what ∙ ap (λ (s : Reading A). f s.value) (sym e);
  at = h.at ∙ ap (λ (s : Reading A). s.cursor) (sym e);
  end = h.end ∙ ap (λ (s : Reading A). s.end) (sym e);
  seen = h.seen ∙ ap (λ (s : Reading A). c₁.diagnostics + length s.raised) (sym e) ∙ ap (λ z. z + length (run p (place L T) c.at c.end).raised) d;
  more = h.more ∙ ap (λ (s : Reading A). added D c₁.diagnostics s.raised) (sym e) ∙ ap (λ z. added D z (run p (place L T) c.at c.end).raised) d;
  held = subst (λ (s : Reading A). Q s.value r) (sym e) h.held;
}

-- by another name of the reader
pub renamed : {A E : Type 0} {f : A → E} {Q : A → Counters → Type 0} {p q : Reader A} {L T D D' : List ℕ} {c : Counters} {v : E} {r : Counters} → q ≡ p → Told f Q q L T D D' c v r → Told f Q p L T D D' c v r
renamed {f = f} {Q = Q} {L = L} {T = T} {D = D} {D' = D'} {c = c} {v = v} {r = r} e h = subst (λ z. Told f Q z L T D D' c v r) e h

-- what else holds of the answer a
pub held_as : {A E : Type 0} {f : A → E} {Q : A → Counters → Type 0} {p : Reader A} {L T D D' : List ℕ} {c : Counters} {v : E} {r : Counters} {a : A} → Told f Q p L T D D' c v r → (run p (place L T) c.at c.end).value ≡ a → Q a r
held_as {Q = Q} {r = r} h e = subst (λ z. Q z r) e h.held

-- in other words
pub reheld : {A E : Type 0} {f : A → E} {Q R : A → Counters → Type 0} {p : Reader A} {L T D D' : List ℕ} {c : Counters} {v : E} {r : Counters}
    → (Q (run p (place L T) c.at c.end).value r → R (run p (place L T) c.at c.end).value r) → Told f Q p L T D D' c v r → Told f R p L T D D' c v r
reheld g h = record { what = h.what; at = h.at; end = h.end; seen = h.seen; more = h.more; held = g h.held }

-- from counters that count other nodes
pub counted : {A E : Type 0} {f : A → E} {Q : A → Counters → Type 0} {p : Reader A} {L T D D' : List ℕ} {c c₁ : Counters} {v : E} {r : Counters}
    → c₁.at ≡ c.at → c₁.end ≡ c.end → c₁.diagnostics ≡ c.diagnostics → Told f Q p L T D D' c₁ v r → Told f Q p L T D D' c v r
counted {p = p} {L = L} {T = T} a e d h = retold (ap₂ (run p (place L T)) (sym a) (sym e)) d h

-- from counters that count as many nodes
pub same : {A E : Type 0} {f : A → E} {p : Reader A} {L T D D' : List ℕ} {n m : ℕ} {c : Counters} {v : E} {r : Counters} → m ≡ n → Told f (Same m) p L T D D' c v r → Told f (Same n) p L T D D' c v r
same e h = reheld (λ q. q ∙ e) h

-- the answer
pub answered : {A E : Type 0} {f : A → E} {Q : A → Counters → Type 0} {L T D : List ℕ} {c : Counters} {a : A} {v : E} {r : Counters} → v ≡ f a → r ≡ c → Q a c → Told f Q (answer a) L T D D c v r
unfolding run added
answered {Q = Q} {a = a} w e q = record {
  what = w;
  at = ap (λ z. z.at) e;
  end = ap (λ z. z.end) e;
  seen = omega (arith, ap (λ z. z.diagnostics) e);
  more = refl;
  held = subst (Q a) (sym e) q;
}

-- the cursor is looked at
pub hereby : {A E : Type 0} {f : A → E} {Q : A → Counters → Type 0} {L T D D' : List ℕ} {g : ℕ → ℕ → Reader A} {c : Counters} {v : E} {r : Counters}
    → Told f Q (g c.at c.end) L T D D' c v r → Told f Q (here g) L T D D' c v r
unfolding run
hereby h = retold refl refl h

-- a diagnostic is raised, and then
pub raised : {A E : Type 0} {f : A → E} {Q : A → Counters → Type 0} {L T D D₁ D₂ : List ℕ} {p : Reader A} {x : Diagnostic} {c c₁ : Counters} {v : E} {r : Counters}
    → Raised D D₁ c x c₁ → Told f Q p L T D₁ D₂ c₁ v r → Told f Q (raise x p) L T D D₂ c v r
unfolding run added
raised {f = f} {Q = Q} {L = L} {T = T} {D₁ = D₁} {D₂ = D₂} {p = p} {c = c} {v = v} {r = r} e h =
    let g : Told f Q p L T D₁ D₂ (record { at = c.at; end = c.end; nodes = c.nodes; diagnostics = c.diagnostics + 1 }) v r
    = subst (λ z. Told f Q p L T D₁ D₂ z v r) e.counters h in
    record {
      what = g.what;
      at = g.at;
      end = g.end;
      seen = omega (arith, g.seen);
      more = g.more ∙ ap (λ y. added y (c.diagnostics + 1) (run p (place L T) c.at c.end).raised) e.more;
      held = g.held;
    }

-- one reader after the other, which has answered a
pub bound : {A B E F : Type 0} {f : A → E} {g : B → F} {Q : A → Counters → Type 0} {R : B → Counters → Type 0} {L T D D₁ D₂ : List ℕ} {p : Reader B} {q : B → Reader A} {c c₁ : Counters} {w : F} {v : E} {r : Counters} {a : B}
    → Told g R p L T D D₁ c w c₁ → (run p (place L T) c.at c.end).value ≡ a → Told f Q (q a) L T D₁ D₂ c₁ v r → Told f Q (p >>= q) L T D D₂ c v r
unfolding run
bound {A} {B} {f = f} {Q = Q} {L = L} {T = T} {D = D} {D₁ = D₁} {p = p} {q = q} {c = c} {c₁ = c₁} {r = r} {a = a} h e k =
    let s : Reading B = run p (place L T) c.at c.end in
    let u : run (q a) (place L T) c₁.at c₁.end ≡ run (q s.value) (place L T) s.cursor s.end = rw (sym e, h.at, h.end) in
    record {
      what = k.what ∙ ap (λ (z : Reading A). f z.value) u;
      at = k.at ∙ ap (λ (z : Reading A). z.cursor) u;
      end = k.end ∙ ap (λ (z : Reading A). z.end) u;
      seen = rw length-append (omega (arith, k.seen, h.seen, ap (λ (z : Reading A). length z.raised) u));
      more = k.more
          ∙ ap (λ (z : Reading A). added D₁ c₁.diagnostics z.raised) u
          ∙ rw (h.more, h.seen) (sym (added_append D c.diagnostics s.raised (run (q s.value) (place L T) s.cursor s.end).raised));
      held = subst (λ (z : Reading A). Q z.value r) u k.held;
    }

-- one reader after the other, whose answer the code has as it is
pub bound_as : {A B E : Type 0} {f : A → E} {Q : A → Counters → Type 0} {R : B → Counters → Type 0} {L T D D₁ D₂ : List ℕ} {p : Reader B} {q : B → Reader A} {c c₁ : Counters} {v : E} {r : Counters} {a : B}
    → Told (λ z. z) R p L T D D₁ c a c₁ → Told f Q (q a) L T D₁ D₂ c₁ v r → Told f Q (p >>= q) L T D D₂ c v r
bound_as h k = bound h (sym h.what) k

-- ---- tests at the cursor and ahead of it

module _ {A E : Type 0} {f : A → E} {Q : A → Counters → Type 0} {L T D D' : List ℕ} {c : Counters} {v : E} {r : Counters} {t : Test} {y : Token → List ℕ → Reader A} {n : Unit {0} → Reader A} where
  -- the token k passes the test, and is stepped over
  pub hit : {k : Token} {c₁ : Counters} → token_at T c.at ≡ Some k → t k (text_of L k.start k.end) ≡ true → c₁ ≡ stepped c k
      → Told f Q (y k (text_of L k.start k.end)) L T D D' c₁ v r → Told f Q (bump t y n) L T D D' c v r
  unfolding run
  hit {k} {c₁} h q e g =
      let x = text_of L k.start k.end in
      retold (met_yes t (λ k x. run (y k x) (place L T) (c.at + 1) k.end) (λ u. run (n u) (place L T) c.at c.end) (place L T c.at) k x (there L T c.at k h) q ∙ ap (λ z. run (y k x) (place L T) z.at z.end) (sym e)) (ap (λ z. z.diagnostics) e) g

  -- none passes
  pub missed : holds t (place L T c.at) ≡ false → Told f Q (n tt) L T D D' c v r → Told f Q (bump t y n) L T D D' c v r
  unfolding run
  missed h g = retold (met_no t (λ k x. run (y k x) (place L T) (c.at + 1) k.end) (λ u. run (n u) (place L T) c.at c.end) (place L T c.at) h) refl g

  pub miss : {k : Token} → token_at T c.at ≡ Some k → t k (text_of L k.start k.end) ≡ false → Told f Q (n tt) L T D D' c v r → Told f Q (bump t y n) L T D D' c v r
  miss {k} h q g = missed (fails t (place L T c.at) k _ (there L T c.at k h) q) g

  pub done : token_at T c.at ≡ None → Told f Q (n tt) L T D D' c v r → Told f Q (bump t y n) L T D D' c v r
  done h g = missed (fails_end t (place L T c.at) (nowhere L T c.at h)) g

  -- the place j is looked at, which lies so far ahead
  pub seen : {a j : ℕ} {k : Token} → j ≡ c.at + a → token_at T j ≡ Some k → t k (text_of L k.start k.end) ≡ true
      → Told f Q (y k (text_of L k.start k.end)) L T D D' c v r → Told f Q (peek a t y n) L T D D' c v r
  unfolding run
  seen {a} {j} {k} e h q g = retold (met_yes t (λ k x. run (y k x) (place L T) c.at c.end) (λ u. run (n u) (place L T) c.at c.end) (place L T (c.at + a)) k _ (there L T (c.at + a) k (subst (λ z. token_at T z ≡ Some k) e h)) q) refl g

  pub unseen : {a : ℕ} → holds t (place L T (c.at + a)) ≡ false → Told f Q (n tt) L T D D' c v r → Told f Q (peek a t y n) L T D D' c v r
  unfolding run
  unseen {a} h g = retold (met_no t (λ k x. run (y k x) (place L T) c.at c.end) (λ u. run (n u) (place L T) c.at c.end) (place L T (c.at + a)) h) refl g

  pub other : {a j : ℕ} {k : Token} → j ≡ c.at + a → token_at T j ≡ Some k → t k (text_of L k.start k.end) ≡ false
      → Told f Q (n tt) L T D D' c v r → Told f Q (peek a t y n) L T D D' c v r
  other {a} {j} {k} e h q g = unseen (fails t (place L T (c.at + a)) k _ (there L T (c.at + a) k (subst (λ z. token_at T z ≡ Some k) e h)) q) g

  pub beyond : {a j : ℕ} → j ≡ c.at + a → token_at T j ≡ None → Told f Q (n tt) L T D D' c v r → Told f Q (peek a t y n) L T D D' c v r
  beyond {a} {j} e h g = unseen (fails_end t (place L T (c.at + a)) (nowhere L T (c.at + a) (subst (λ z. token_at T z ≡ None) e h))) g

  -- whatever token passes there
  pub passed : {a : ℕ} → holds t (place L T (c.at + a)) ≡ true → ((k : Token) (x : List ℕ) → Told f Q (y k x) L T D D' c v r) → Told f Q (peek a t y n) L T D D' c v r
  unfolding run holds
  passed {a} h g = go (place L T (c.at + a)) refl h
    where
      go : (p : Place) → place L T (c.at + a) ≡ p → holds t p ≡ true → Told f Q (peek a t y n) L T D D' c v r
      go nothing e q = absurd (true_false (sym q))
      go (stands k x) e q = retold (met_yes t (λ k x. run (y k x) (place L T) c.at c.end) (λ u. run (n u) (place L T) c.at c.end) (place L T (c.at + a)) k x e q) refl (g k x)

  -- either way
  pub whether : {a : ℕ} → ((k : Token) (x : List ℕ) → Told f Q (y k x) L T D D' c v r) → Told f Q (n tt) L T D D' c v r → Told f Q (peek a t y n) L T D D' c v r
  whether {a} g h = go (holds t (place L T (c.at + a))) refl
    where
      go : (b : Bool) → holds t (place L T (c.at + a)) ≡ b → Told f Q (peek a t y n) L T D D' c v r
      go true e = passed e g
      go false e = unseen e h

-- the same by the kind that the code asks for
module _ {A E : Type 0} {f : A → E} {Q : A → Counters → Type 0} {L T D D' : List ℕ} {c : Counters} {v : E} {r : Counters} (kind : ℕ) {y : Token → List ℕ → Reader A} {n : Unit {0} → Reader A} where
  pub hit_kind : {k : Token} {c₁ : Counters} → of_kind kind (token_at T c.at) ≡ Some k → c₁ ≡ stepped c k
      → Told f Q (y k (text_of L k.start k.end)) L T D D' c₁ v r → Told f Q (bump (is kind) y n) L T D D' c v r
  hit_kind e s g = let h = kind_token kind _ e in hit h.0 h.1 s g

  pub miss_kind : of_kind kind (token_at T c.at) ≡ None → Told f Q (n tt) L T D D' c v r → Told f Q (bump (is kind) y n) L T D D' c v r
  miss_kind e g = missed (no_kind kind L T c.at e) g

  pub seen_kind : {a j : ℕ} {k : Token} → j ≡ c.at + a → of_kind kind (token_at T j) ≡ Some k
      → Told f Q (y k (text_of L k.start k.end)) L T D D' c v r → Told f Q (peek a (is kind) y n) L T D D' c v r
  seen_kind i e g = let h = kind_token kind _ e in seen i h.0 h.1 g

  pub unseen_kind : {a j : ℕ} → j ≡ c.at + a → of_kind kind (token_at T j) ≡ None → Told f Q (n tt) L T D D' c v r → Told f Q (peek a (is kind) y n) L T D D' c v r
  unseen_kind {a} i e g = unseen (no_kind kind L T (c.at + a) (subst (λ z. of_kind kind (token_at T z) ≡ None) i e)) g

-- the counters behind the token that the code took
pub next_stepped : {T : List ℕ} {kind : ℕ} {c c₁ : Counters} {x : Option Token} {k : Token} → NextTold T kind c x c₁ → x ≡ Some k → c.at < 65535 → c₁ ≡ stepped c k
next_stepped h e l = over_is l (h.steps _ e)

-- the same by what the code says of that token
module _ {A E : Type 0} {f : A → E} {Q : A → Counters → Type 0} {L T D D' : List ℕ} {c c₁ : Counters} {v : E} {r : Counters} {kind : ℕ} {x : Option Token} {y : Token → List ℕ → Reader A} {n : Unit {0} → Reader A} (h : NextTold T kind c x c₁) where
  pub hit_next : {k : Token} → x ≡ Some k → c.at < 65535 → Told f Q (y k (text_of L k.start k.end)) L T D D' c₁ v r → Told f Q (bump (is kind) y n) L T D D' c v r
  hit_next e l g = hit_kind kind (sym h.token ∙ e) (next_stepped h e l) g

  pub miss_next : x ≡ None → Told f Q (n tt) L T D D' c₁ v r → Told f Q (bump (is kind) y n) L T D D' c v r
  miss_next e g = miss_kind kind (sym h.token ∙ e) (subst (λ z. Told f Q (n tt) L T D D' z v r) (h.stays e) g)

-- a token is stepped over, and no node is written
pub hit_same : {A E : Type 0} {f : A → E} {L T D D' : List ℕ} {c : Counters} {v : E} {r : Counters} {t : Test} {y : Token → List ℕ → Reader A} {n : Unit {0} → Reader A} {k : Token} {c₁ : Counters}
    → token_at T c.at ≡ Some k → t k (text_of L k.start k.end) ≡ true → c₁ ≡ stepped c k
    → Told f (Same c₁.nodes) (y k (text_of L k.start k.end)) L T D D' c₁ v r → Told f (Same c.nodes) (bump t y n) L T D D' c v r
hit_same h q e g = hit h q e (same (ap (λ z. z.nodes) e) g)

-- ---- choices

pub chosen : {A E : Type 0} {f : A → E} {Q : A → Counters → Type 0} {L T D D' : List ℕ} {c : Counters} {v : E} {r : Counters} (b : Bool) {p : Reader A} (q : Reader A) → b ≡ true → Told f Q p L T D D' c v r → Told f Q (choose b p q) L T D D' c v r
chosen true q e h = h
chosen false q e h = absurd (true_false (sym e))

pub unchosen : {A E : Type 0} {f : A → E} {Q : A → Counters → Type 0} {L T D D' : List ℕ} {c : Counters} {v : E} {r : Counters} (b : Bool) (p : Reader A) {q : Reader A} → b ≡ false → Told f Q q L T D D' c v r → Told f Q (choose b p q) L T D D' c v r
unchosen true p e h = absurd (true_false e)
unchosen false p e h = h

-- ---- no node is written

-- a diagnostic writes none
pub raised_same : {D D' : List ℕ} {c : Counters} {x : Diagnostic} {r : Counters} → Raised D D' c x r → r.nodes ≡ c.nodes
raised_same h = ap (λ z. z.nodes) h.counters

pub over_same : {T D D' : List ℕ} {c : Counters} {x : ℕ → Diagnostic} {r : Counters} → RaisedOver T D D' c x r → r.nodes ≡ c.nodes
over_same (over t e h) = ap (λ z. z.nodes) h.counters
over_same (ended e h) = ap (λ z. z.nodes) h.counters
