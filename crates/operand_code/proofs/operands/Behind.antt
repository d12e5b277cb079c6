-- Behind a token that the code has stepped over, and behind a diagnostic that it has told.
-- Assumes nothing.
use mathlib.Core.Path.{◌≡◌, refl, sym, ◌∙◌, subst}
use mathlib.Core.List.{List}
use Prim.Native.Nat.{ℕ, ◌-◌, ◌*◌}
use native.Mathlib.Omega.{arith}
use Rattle.names.specs.Tokens.{token_at}
use Rattle.names.specs.declared.tokens.Token.{Token}
use Rattle.records.specs.declared.counters.Counters.{Counters}
use Rattle.records.specs.Counters.{Over, OneMore}
use Rattle.records.specs.Diagnostics.{diagnostic_record}
use Rattle.records.specs.Rooms.{Room, NodeRoom}
use Rattle.records.specs.Stores.{written}
use Rattle.records.specs.declared.diagnostics.Diagnostic.{Diagnostic}
use Rattle.expressions.specs.Paths.{told_one, raised, raised_as, raised_same}
use Rattle.expressions.specs.Reader.{Reader, answer, raise}
use Rattle.expressions.specs.Told.{Raised, Told}
use Rattle.expressions.specs.Trees.{Expr, size}
use Rattle.operand.specs.Forms.{record_of}
use Rattle.operand.specs.Operands.{Displacement, displaced, Operand}
use Rattle.operand.specs.declared.forms.OperandRecord.{OperandRecord}
use Rattle.operand.specs.declared.forms.Sized.{Sized}
use Rattle.operand_code.specs.Operands.{Kept, Stored, BaseTold}
use Rattle.operand_code.proofs.Holdings.{kept_none, nothing_stored, tree_is_lem, no_size, behind_reported, behind_absent}
use Rattle.operand_code.specs.Absolutes.{OrTold, there, missed}
use Rattle.operand_code.specs.Absolutes as O
use Rattle.expressions_code.specs.Reading.{ExpressionFits}
use Rattle.expressions.specs.declared.reading.Setting.{Setting}
use Rattle.records.specs.declared.spans.Span.{Span}
use Rattle.operand.specs.Operand.{expression_or, or_absent}
use Rattle.std.proofs.lemmas.Option.{none-some}
use Rattle.operand_code.proofs.bases.Tails.{kept_from}
use Rattle.operand_code.proofs.Rooms.{node_over}
use Rattle.operand_code.proofs.malformed.Failures.{failed}
use Rattle.std.specs.Prelude.{Option, Some, None, Ok, option_map}

-- ---- a token

module _ {T : List ℕ} {c c₁ : Counters} {k : Token} where
  -- there is room for nodes as before, and none yet
  pub first_over : {N : List ℕ} → NodeRoom T N c 0 0 1 → c.nodes ≡ 0 → Over c k c₁ → token_at T c.at ≡ Some k → (NodeRoom T N c₁ 0 0 1) × (c₁.nodes ≡ 0)
  first_over h z o t = (node_over h o t, o.nodes ∙ z)

-- the tree of the last records is the displacement of a base
pub base_behind : {T : List ℕ} {n : ℕ} {c : Counters} {p : Displacement → Reader (Option Operand)} {L D D' : List ℕ} (e : Expr) {d : Option Sized} {v : Option OperandRecord} {r : Counters} → n ≡ size e → d ≡ Some (record { node = c.nodes - 1; size = 0 }) → c.nodes ≡ n
    → BaseTold p L T D D' c d v r → Told (option_map record_of) (Kept n (displaced e 0)) (p (displaced e 0)) L T D D' c v r
base_behind e h w o t = kept_from (displaced e 0) o (t.told (displaced e 0) (tree_is_lem e (o ∙ h) w) (no_size e))

-- ---- a diagnostic

-- the diagnostic y, and no operand
module _ {T D D' : List ℕ} {c r : Counters} {x y : Diagnostic} {n : ℕ} (h : Room T c n 1) (e : x ≡ y) (w : D' ≡ written D (10 * c.diagnostics) (diagnostic_record x)) (one : OneMore c r) where
  told_as : Raised D D' c y r
  told_as = raised_as e (told_one (omega (arith, h)) w one)

  pub fails_kept : {L : List ℕ} (z : Displacement) → Told (option_map record_of) (Kept c.nodes z) (raise y (answer None)) L T D D' c None r
  fails_kept z = failed told_as refl refl (kept_none z (raised_same told_as))

  pub fails_stored : {L : List ℕ} (N : List ℕ) → Told (option_map record_of) (Stored N) (raise y (answer None)) L T D D' c None r
  fails_stored N = raised told_as (nothing_stored N refl refl)

-- ---- an expression, or what is told where none stands

module _ {L T N D N' D' : List ℕ} {c : Counters} {x : Diagnostic} {v : Option Span} {r : Counters} where
  pub or_read : {limit : ℕ} → OrTold limit x L T N D N' D' c v r → {s : Span} → v ≡ Some s → ExpressionFits L T N D N' D' c limit (Ok s) r
  or_read {limit} (there q w p) {s} e = let z : q ≡ s = cc in subst (λ y. ExpressionFits L T N D N' D' c limit (Ok y) r) z p
  or_read (O.failed w p) e = absurd (none-some _ (sym w ∙ e))
  or_read (missed w p g) e = absurd (none-some _ (sym w ∙ e))

  pub or_fails : (s : Setting) (f : Expr → Reader (Option Operand)) → NodeRoom T N c 0 0 1 → OrTold s.limit x L T N D N' D' c v r → v ≡ None
      → Told (option_map record_of) (Stored N') (expression_or s (raise x (answer None)) f) L T D D' c None r
  unfolding or_absent
  or_fails s f h (there q w p) e = absurd (none-some _ (sym e ∙ w))
  or_fails s f h (O.failed w p) e = behind_reported _ _ h p refl (nothing_stored _ refl refl)
  or_fails s f h (missed w p g) e = behind_absent _ _ h p refl (raised g (nothing_stored _ refl refl))
