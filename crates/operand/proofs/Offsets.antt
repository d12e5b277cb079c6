-- The law that an offset fits: for a valid input, no offset that a reading leaves lies past the line. So one that is written in the bytes of its layout loses nothing.
-- Assumes nothing.
pub mod Operands
pub mod Readers
use Rattle.std.specs.Prelude.{◌≡◌, refl, Bool, true, false, List, [], ◌∷◌, ℕ, zero, suc, ◌+◌, ◌*◌, ◌≤◌, ◌<◌, leb, length, get_or, Option}
use Rattle.std.proofs.Common.{Some, None, arith, leb-true, leb-false}
use Rattle.names.specs.Choice.{pick}
use Rattle.names.specs.Laws.{both_first, both_second}
use Rattle.names.specs.Tokens.{count, token_from, token_at, detail_defined}
use Rattle.names.specs.Places.{Place, stands, placed, place}
use Rattle.names.specs.declared.tokens.Token.{Token}
use Rattle.records.specs.Spans.{span_of}
use Rattle.records.specs.declared.spans.Span.{Span}
use Rattle.expressions.specs.Reader.{Reading}
use Rattle.expressions.specs.Laws.{Every}
use Rattle.expressions.proofs.Offsets.{SpanIn, DiagnosticIn, TokensIn, Fits, answers, sees}
use Rattle.operand.specs.Operands.{Operand}
use Rattle.operand.specs.Operand.{parse_operand, reading_of}
use Rattle.operand.specs.declared.layouts.Layout.{Layout}
use Rattle.operand.specs.Layouts.{number, number_at, number_read, longest_line, numbers_fit}
use Rattle.operand.specs.Entry.{Input, tokens_of, place_of, good_token, good_tokens, reading_at}
use Rattle.operand.specs.Conditions.{Valid}
use Rattle.operand.proofs.Conditions.{valid_tokens}
pub use Operands.{RegisterIn, IndexRegisterIn, BaseIn, IndexIn, RegistersIn, DisplacementIn, ItemIn, ItemsIn, OperandIn, MaybeIn}
use Readers.{operand_from_fits}

-- ---- over whatever places

-- every offset of the operand, and of each diagnostic
pub record ReadingIn (m : ℕ) (r : Reading (Option Operand)) : Type 0 where
  pub value : MaybeIn (OperandIn m) r.value
  pub raised : Every (DiagnosticIn m) r.raised

operand_fits : (m limit mark : ℕ) → Fits m (MaybeIn (OperandIn m)) (parse_operand limit mark)
unfolding parse_operand
operand_fits m limit mark = sees (λ k x h. operand_from_fits _ h.0) (answers tt)

pub reading_in : (m limit mark : ℕ) (at : ℕ → Place) (i : ℕ) → TokensIn m at → ReadingIn m (reading_of limit mark at i)
unfolding reading_of
reading_in m limit mark at i w = let h = (operand_fits m limit mark).all at w i 0 (omega arith) in record { value = h.0; raised = h.2 }

-- ---- good tokens lie within the line

good_in : (L : List ℕ) (p k d s e : ℕ) → good_token L p k d s e ≡ true → (s ≤ length L) × (e ≤ length L)
unfolding good_token
good_in L p k d s e h =
    let g = both_second (detail_defined k d) _ h in
    let f = both_second (leb s e) _ g in
    omega (arith, leb-true s e (both_first (leb s e) _ g), leb-true e (length L) (both_first (leb e (length L)) _ f))

all_good_in : (L : List ℕ) (p : ℕ) (T : List ℕ) → good_tokens L p T ≡ true → (j : ℕ) → j < count T → (get_or T (4 * j + 2) 0 ≤ length L) × (get_or T (4 * j + 3) 0 ≤ length L)
unfolding good_tokens
all_good_in L p [] h j b = absurd (omega arith)
all_good_in L p (k ∷ []) h j b = absurd (omega arith)
all_good_in L p (k ∷ d ∷ []) h j b = absurd (omega arith)
all_good_in L p (k ∷ d ∷ s ∷ []) h j b = absurd (omega arith)
all_good_in L p (k ∷ d ∷ s ∷ e ∷ ts) h zero b = good_in L p k d s e (both_first (good_token L p k d s e) _ h)
all_good_in L p (k ∷ d ∷ s ∷ e ∷ ts) h (suc j) b =
    let two : 4 * suc j + 2 ≡ suc (suc (suc (suc (4 * j + 2)))) = omega arith in
    let three : 4 * suc j + 3 ≡ suc (suc (suc (suc (4 * j + 3)))) = omega arith in
    rw (two, three) (all_good_in L e ts (both_second (good_token L p k d s e) _ h) j (omega arith))

pub tokens_in : (m : ℕ) (L T : List ℕ) → length L ≤ m → good_tokens L 0 T ≡ true → TokensIn m (place L T)
unfolding place placed token_at
tokens_in m L T long good = record { tokens = λ j k x h. go j k x (leb (count T) j) refl h }
  where
    go : (j : ℕ) (k : Token) (x : List ℕ) (b : Bool) → leb (count T) j ≡ b → placed L (pick b None (Some (token_from T j))) ≡ stands k x → SpanIn m (span_of k)
    go j k x true q h = let z : ◌≡◌ {A = ℕ} 0 1 = cc in absurd (omega arith)
    go j k x false q h =
        let e : token_from T j ≡ k = cc in
        rw (← e) (omega (arith, all_good_in L 0 T good j (leb-false (count T) j q)))

-- ---- the law

-- m: the line's length, or any number from there on
pub offsets_in : (a : Input) → Valid a → (m : ℕ) → length a.line ≤ m → ReadingIn m (reading_at a)
offsets_in a valid m long = reading_in m a.limit a.mark (place_of a) a.start (tokens_in m a.line (tokens_of a) long (valid_tokens a valid).1)

-- so that each is written whole
pub offsets_written : (a : Input) → Valid a → ReadingIn (longest_line a.layout) (reading_at a)
offsets_written a valid = offsets_in a valid (longest_line a.layout) (valid_tokens a valid).0

pub span_written : (w : Layout) (s : Span) → SpanIn (longest_line w) s → (number_at w (number w s.start) 0 ≡ s.start) × (number_at w (number w s.end) 0 ≡ s.end)
span_written w s h = let f = (numbers_fit w).0 in (number_read w s.start (omega arith), number_read w s.end (omega arith))
