-- The nodes of an operand: those of a tree that stands in the records, or none.
-- Assumes nothing.
use mathlib.Core.Path.{◌≡◌, refl, sym, ◌∙◌, ap, subst}
use mathlib.Core.List.{List, []}
use Prim.Native.Nat.{ℕ, ◌-◌, ◌*◌}
use native.Mathlib.Omega.{arith}
use lib.ListN.{take}
use Rattle.names.specs.Places.{place}
use Rattle.records.specs.declared.spans.Span.{Span}
use Rattle.records.specs.declared.counters.Counters.{Counters}
use Rattle.expressions.specs.Expressions.{Term, read, reported, absent, parse_expression, expression_from}
use Rattle.expressions_code.specs.Answers.{what_reported, what_absent}
use Rattle.expressions_code.specs.Reading.{ExpressionFits, FromFits}
use Rattle.expressions_code.specs.Left.{Stands}
use Rattle.expressions.specs.Reader.{Reader, answer, ◌>>=◌, run}
use Rattle.expressions_code.specs.Terms.{Parsed, size_t}
use Rattle.expressions.specs.Trees.{Expr, with_span, size}
use Rattle.expressions.specs.declared.reading.Setting.{Setting}
use Rattle.operand.specs.Operands.{Displacement, displaced, undisplaced, Operand}
use Rattle.operand.specs.Operand.{finish_expression_operand}
use Rattle.operand.specs.Records.{size_d, nodes_d}
use Rattle.operand.specs.Forms.{sized_of, record_of}
use Rattle.records.specs.Rooms.{NodeRoom}
use Rattle.expressions.specs.Told.{Told}
use Rattle.operand_code.specs.Operands.{HeldBy, Kept, Unsized, Stored}
use Rattle.operand_code.specs.Absolutes.{TreeTold}
use Rattle.expressions.specs.Paths.{answered, bound, reheld}
use Rattle.operand_code.proofs.expressed.Trees.{TreeRead, term_told, from_told}
use Rattle.std.specs.Prelude.{Option, Some, None, Err, option_map}
use Rattle.operand.specs.declared.forms.OperandRecord.{OperandRecord}
use Rattle.operand.specs.declared.forms.Sized.{Sized}
use Rattle.expressions_code.specs.declared.terms.TermError.TheVariants as errors

-- ---- an operand's nodes

-- no operand has none
pub kept_none : {n m : ℕ} (y : Displacement) → m ≡ n → (m ≡ n) × HeldBy (nodes_d 0 y) (size_d y) None
unfolding HeldBy
kept_none y h = (h, tt)

-- no operand was read
pub nothing_told : (y : Displacement) {L T D : List ℕ} {n : ℕ} {c : Counters} {v : Option OperandRecord} {r : Counters} → v ≡ None → r ≡ c → c.nodes ≡ n
    → Told (option_map record_of) (Kept n y) (answer None) L T D D c v r
nothing_told y w s e = answered w s (kept_none y e)

pub nothing_stored : (N : List ℕ) {L T D : List ℕ} {c : Counters} {v : Option OperandRecord} {r : Counters} → v ≡ None → r ≡ c
    → Told (option_map record_of) (Stored N) (answer None) L T D D c v r
unfolding HeldBy
nothing_stored N w s = answered w s tt

-- the displacement's records are all that stand in N
stored_as : (y : Displacement) (n : ℕ) (N : List ℕ) → take (10 * n) N ≡ nodes_d 0 y → n ≡ size_d y → (x : Option Operand) (m : ℕ) → (m ≡ n) × HeldBy (nodes_d 0 y) (size_d y) x → HeldBy (take (10 * m) N) m x
unfolding HeldBy
stored_as y n N b s (Some x) m h = (h.1.0 ∙ sym b ∙ ap (λ z. take (10 * z) N) (sym h.0), h.1.1 ∙ sym s ∙ sym h.0)
stored_as y n N b s None m h = tt

stored_told : (y : Displacement) (n : ℕ) (N : List ℕ) {p : Reader (Option Operand)} {L T D D' : List ℕ} {c : Counters} {v : Option OperandRecord} {r : Counters}
    → take (10 * n) N ≡ nodes_d 0 y → n ≡ size_d y → Told (option_map record_of) (Kept n y) p L T D D' c v r → Told (option_map record_of) (Stored N) p L T D D' c v r
stored_told y n N {r = r} b s h = reheld (λ q. stored_as y n N b s _ r.nodes q) h

-- a tree's are
pub tree_stored : (N : List ℕ) {n : ℕ} {e : Expr} {p : Reader (Option Operand)} {L T D D' : List ℕ} {c : Counters} {v : Option OperandRecord} {r : Counters}
    → Stands N n [] 0 e → Told (option_map record_of) (Kept n (displaced e 0)) p L T D D' c v r → Told (option_map record_of) (Stored N) p L T D D' c v r
unfolding nodes_d size_d
tree_stored N {n} {e} h t = stored_told (displaced e 0) n N h.bytes (omega (arith, h.total)) t

-- where there is no node
pub unstored_told : (N : List ℕ) {n : ℕ} {p : Reader (Option Operand)} {L T D D' : List ℕ} {c : Counters} {v : Option OperandRecord} {r : Counters}
    → n ≡ 0 → Told (option_map record_of) (Kept n undisplaced) p L T D D' c v r → Told (option_map record_of) (Stored N) p L T D D' c v r
unfolding nodes_d size_d
unstored_told N {n} e h = stored_told undisplaced n N (ap (λ z. take (10 * z) N) e) e h

-- the size of a displacement is in no node
pub kept_sized : (e : Expr) (k : ℕ) {p : Reader (Option Operand)} {L T D D' : List ℕ} {n m : ℕ} {c : Counters} {v : Option OperandRecord} {r : Counters} → m ≡ n
    → Told (option_map record_of) (Kept m (displaced e k)) p L T D D' c v r → Told (option_map record_of) (Kept n (displaced e 0)) p L T D D' c v r
unfolding nodes_d size_d
kept_sized e k w h = reheld (λ q. (q.0 ∙ w, q.1)) h

-- ---- a tree that stands in the records

-- by another number of records
pub stands_from : {N : List ℕ} {n m : ℕ} {e : Expr} → n ≡ m → Stands N n [] 0 e → Stands N m [] 0 e
stands_from {N} {e = e} q h = subst (λ z. Stands N z [] 0 e) q h

pub stands_size : {N : List ℕ} {n : ℕ} {e : Expr} → Stands N n [] 0 e → n ≡ size e
stands_size h = omega (arith, h.total)

-- the code's last tree, as a displacement of the definition
pub tree_is_lem : (e : Expr) {m n : ℕ} {d : Option Sized} → m ≡ size e → d ≡ Some (record { node = m - 1; size = n }) → sized_of 0 (displaced e n) ≡ d
unfolding sized_of
tree_is_lem e {m} {n} h w = ap (λ z. Some (record { node = z; size = n })) (omega (arith, h)) ∙ sym w

pub no_size : (e : Expr) → Unsized (displaced e 0)
unfolding Unsized
no_size e = refl

-- ---- behind an expression

module _ {L T N D N' D' : List ℕ} {c : Counters} {limit : ℕ} {s : Span} {r : Counters} (t : TreeRead L T N D N' D' c limit s r) where
  pub tree_stands : c.nodes ≡ 0 → Stands N' r.nodes [] 0 t.tree
  tree_stands z = record { bytes = rw z at t.bytes; total = omega (arith, t.total, z) }

module _ (L : List ℕ) {T N D N₁ D₁ : List ℕ} {c : Counters} (limit : ℕ) {m : Parsed} {c₁ : Counters} (h : NodeRoom T N c 0 0 1) (p : ExpressionFits L T N D N₁ D₁ c limit m c₁) where
  -- no expression has no node
  pub absent_nodes : m ≡ Err errors.Absent → c.nodes ≡ 0 → c₁.nodes ≡ 0
  unfolding size_t
  absent_nodes e z =
      let k : size_t (run (parse_expression limit) (place L T) c.at c.end).value ≡ 0 = ap size_t (what_absent _ (sym (term_told L limit h p).what ∙ e)) in
      omega (arith, ap (λ w. w.nodes) p.counters, k, z)

  module _ {E : Type 0} {f : Option Operand → E} {Q : Option Operand → Counters → Type 0} {D₂ : List ℕ} {q : Term → Reader (Option Operand)} {v : E} {r : Counters} where
    pub behind_tree : {s : Span} (t : TreeRead L T N D N₁ D₁ c limit s c₁) → Told f Q (q (read t.tree)) L T D₁ D₂ c₁ v r
        → Told f Q (parse_expression limit >>= q) L T D D₂ c v r
    behind_tree t g = bound (term_told L limit h p) t.value g

    pub behind_reported : m ≡ Err errors.Reported → Told f Q (q reported) L T D₁ D₂ c₁ v r → Told f Q (parse_expression limit >>= q) L T D D₂ c v r
    behind_reported e g = bound (term_told L limit h p) (what_reported _ (sym (term_told L limit h p).what ∙ e)) g

    pub behind_absent : m ≡ Err errors.Absent → Told f Q (q absent) L T D₁ D₂ c₁ v r → Told f Q (parse_expression limit >>= q) L T D D₂ c v r
    behind_absent e g = bound (term_told L limit h p) (what_absent _ (sym (term_told L limit h p).what ∙ e)) g

-- ---- a group that goes on

module _ (L : List ℕ) {T N D N' D' : List ℕ} {c : Counters} (group : Span) (limit : ℕ) {m : Span} {c₁ : Counters} (h : NodeRoom T N c 1 0 1) (p : FromFits L T N D N' D' c group limit m c₁) where
  pub group_told : (e : Expr) → Stands N c.nodes [] 0 e → (s : Setting) {D₂ : List ℕ} {v : Option OperandRecord} {r : Counters} → TreeTold (λ x. finish_expression_operand s x) L T D' D₂ c₁ m v r
      → Told (option_map record_of) (Stored N') (expression_from limit (with_span e group) >>= finish_expression_operand s) L T D D₂ c v r
  group_told e st s g =
      let f = from_told L group limit h p st in
      bound f refl (tree_stored N' f.held (g.told _ (stands_size f.held) f.what))
