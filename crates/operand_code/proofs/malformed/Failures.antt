-- A reader that fails: a diagnostic, and no answer.
-- Assumes nothing.
use mathlib.Core.Path.{◌≡◌, refl, sym, ◌∙◌}
use mathlib.Core.List.{List}
use Prim.Native.Nat.{ℕ}
use Rattle.names.specs.declared.tokens.Token.{Token}
use Rattle.records.specs.Problems
use Rattle.records.specs.declared.diagnostics.Diagnostic.{Diagnostic}
use Rattle.records.specs.declared.counters.Counters.{Counters}
use Rattle.records.specs.Diagnostics.{malformed_operand, malformed_open}
use Rattle.records.specs.Spans.{span, span_of, no_span}
use Rattle.expressions.specs.Reader.{Reader, answer, raise, run}
use Rattle.expressions.specs.Told.{Raised, RaisedOver, over, ended, Told, Same}
use Rattle.expressions.specs.Paths.{answered, bound, hereby, raised, hit, done, over_same}
use Rattle.expressions.specs.declared.reading.Setting.{Setting}
use Rattle.names.specs.Places.{place}
use Rattle.operand.specs.Operand.{or_none, ◌>>=?◌, malformed, unclosed, not_an_address_register, stepped_over}
use Rattle.std.specs.Prelude.{Option, None}

pub failed : {A E : Type 0} {f : Option A → E} {Q : Option A → Counters → Type 0} {L T D D' : List ℕ} {x : Diagnostic} {c m : Counters} {v : E} {r : Counters}
    → Raised D D' c x m → v ≡ f None → r ≡ m → Q None m → Told f Q (raise x (answer None)) L T D D' c v r
failed h w e q = raised h (answered w e q)

pub failed_malformed : {A E : Type 0} {f : Option A → E} {Q : Option A → Counters → Type 0} (s : Setting) (shape problem : ℕ) {L T D D' : List ℕ} {c m : Counters} {v : E} {r : Counters}
    → Raised D D' c (malformed_operand shape problem (span s.start c.end) no_span) m → v ≡ f None → r ≡ m → Q None m → Told f Q (malformed s shape problem) L T D D' c v r
unfolding malformed
failed_malformed s shape problem h w e q = hereby (failed h w e q)

pub failed_unclosed : {A E : Type 0} {f : Option A → E} {Q : Option A → Counters → Type 0} (s : Setting) (k : Token) (shape problem : ℕ) {L T D D' : List ℕ} {c m : Counters} {v : E} {r : Counters}
    → Raised D D' c (malformed_open shape problem (span s.start c.end) (span_of k)) m → v ≡ f None → r ≡ m → Q None m → Told f Q (unclosed s k shape problem) L T D D' c v r
unfolding unclosed
failed_unclosed s k shape problem h w e q = hereby (failed h w e q)

pub failed_register : {A E : Type 0} {f : Option A → E} {Q : Option A → Counters → Type 0} (s : Setting) (shape : ℕ) (k : Token) {L T D D' : List ℕ} {c m : Counters} {v : E} {r : Counters}
    → Raised D D' c (malformed_operand shape Problems.not_an_address_register (span s.start c.end) (span_of k)) m → v ≡ f None → r ≡ m → Q None m → Told f Q (not_an_address_register s shape k) L T D D' c v r
unfolding not_an_address_register
failed_register s shape k h w e q = hereby (failed h w e q)

pub failed_over : {A E : Type 0} {f : Option A → E} {Q : Option A → Counters → Type 0} (s : Setting) (shape problem : ℕ) {L T D D' : List ℕ} {c m : Counters} {v : E} {r : Counters}
    → RaisedOver T D D' c (λ l. malformed_operand shape problem (span s.start l) no_span) m → v ≡ f None → r ≡ m → Q None m → Told f Q (stepped_over s shape problem) L T D D' c v r
unfolding stepped_over
failed_over s shape problem (over t e h) w u q = hit e refl refl (failed_malformed s shape problem h w u q)
failed_over s shape problem (ended e h) w u q = done e (failed_malformed s shape problem h w u q)

-- behind a reader that has no answer `?` goes no further
pub stopped_by : {A B C E : Type 0} {g : Option A → C} {f : Option B → E} {Q : Option A → Counters → Type 0} {P : Option B → Counters → Type 0} {p : Reader (Option A)} (q : A → Reader (Option B)) {L T D D' : List ℕ} {c c₁ : Counters} {v : C} {w : E}
    → Told g Q p L T D D' c v c₁ → (run p (place L T) c.at c.end).value ≡ None → w ≡ f None → P None c₁ → Told f P (p >>=? q) L T D D' c w c₁
unfolding or_none
stopped_by q t e r h = bound t e (answered r refl h)

pub stopped : {A B E : Type 0} {f : Option B → E} {Q : Option A → Counters → Type 0} {P : Option B → Counters → Type 0} {p : Reader (Option A)} (q : A → Reader (Option B)) {L T D D' : List ℕ} {c c₁ : Counters} {v : Option A} {w : E}
    → Told (λ z. z) Q p L T D D' c v c₁ → v ≡ None → w ≡ f None → P None c₁ → Told f P (p >>=? q) L T D D' c w c₁
stopped q t e r h = stopped_by q t (sym t.what ∙ e) r h

-- the same, of an answer that the code has as it is
pub failed_over_same : {A : Type 0} (s : Setting) (shape problem : ℕ) {L T D D' : List ℕ} {c m : Counters}
    → RaisedOver T D D' c (λ l. malformed_operand shape problem (span s.start l) no_span) m → Told (λ (z : Option A). z) (Same c.nodes) (stepped_over s shape problem) L T D D' c None m
failed_over_same s shape problem h = failed_over s shape problem h refl refl (over_same h)
