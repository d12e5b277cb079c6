-- What the entry answers, as bytes.
-- Assumes nothing.
use mathlib.Core.Path.{◌≡◌, refl, sym, ◌∙◌, ap, ap₂}
use mathlib.Core.Bool.{Bool, true, false}
use mathlib.Core.List.{List, ◌++◌}
use Prim.Native.Nat.{ℕ, ◌+◌, ◌-◌, ◌*◌, ◌≤◌}
use native.Mathlib.Nat.{mul-zero}
use native.Mathlib.Omega.{arith}
use borrow.Author.Tests.{eq-eqb, ne_eqb, eqb-true, eqb-false}
use lib.Dec.{eqb}
use lib.ListN.{length, take, drop}
use Rattle.expressions.specs.Reader.{Reading}
use Rattle.operand.specs.RefusalNumbers
use Rattle.operand.specs.Operands.{Operand}
use Rattle.operand.specs.Records.{size_m}
use Rattle.operand.specs.declared.layouts.Layout.{Layout}
use Rattle.operand.specs.Layouts.{width, number_at, token_size, diagnostic_size, node_store}
use Rattle.operand.specs.Layout.{records_laid, nodes_laid, diagnostics_laid, head_laid, answer_line}
use Rattle.operand.specs.Entry.{Input, refusal, reading_at}
use Rattle.layout.specs.Promise.{result_of, result_at, EntryPromise}
use Rattle.operand.specs.Conditions.{Valid}
use Rattle.layout.specs.Answers as Answers
use Rattle.layout.specs.Answers.{Total, answer_valid}
use Rattle.std.specs.Prelude.{Option, Some, None, Result, Ok, Err}
use Rattle.std.specs.Bool.{then_some}
use Rattle.std.specs.Option.{ok_or}
use Rattle.operand.specs.declared.refusals.Refusal.{Refusal}
use Rattle.layout.specs.declared.answer.Answer.{Answer}
use Rattle.frames.specs.declared.output.Output.{Output}
use Rattle.std.proofs.Common.{subst}
use Rattle.frames.specs.Hex.{spells}
use Rattle.frames.specs.Frame.{diagnostic_bytes, max_nesting_depth, max_nesting_depth_lem, line_length, token_count, frame_length, is_frame, input_of, lent}
use Rattle.frames.specs.Reply.{refused, bytes_at, input_bytes, frame_bytes, line_bytes}
use Rattle.frames.specs.Lent.{lent_same}
use Rattle.frames.specs.Inner.{DecodedAs, Spelled, case_of, record_bytes, answer_bytes, AnswerAsks, AnswerTold, ReadTold, ReadAsks, FramedAs}

-- ---- of a call that keeps the entry's promise

refused_by : {a : Input} {N D : List ℕ} {k : Refusal} → Total a N D (Err k) → RefusalNumbers.number k ≡ refusal a
refused_by (Answers.Total.refused k e known f g) = e

module _ (a : Input) (None-used : a.used ≡ 0) (N D : List ℕ) where
  abbrev s : Reading (Option Operand)
  s = reading_at a

  abbrev w : Layout
  w = a.layout

  module _ (x : Answer) (p : EntryPromise a N D (Ok x)) where
    v : Valid a
    v = answer_valid (Answers.total a N D (Ok x) p)

    read_is : x ≡ result_of s s.value
    unfolding result_at
    read_is = let e = p.value ∙ ap (result_at a) v in cc

    -- the added diagnostics are the first ones
    first_added : take (diagnostic_size w * x.diagnostics) D ≡ diagnostics_laid w s.raised
    first_added =
        ap (λ k. take (diagnostic_size w * x.diagnostics) (drop k D)) (sym (ap (λ k. diagnostic_size w * k) None-used ∙ mul-zero (diagnostic_size w)))
        ∙ Answers.added_records_lem a N D (Ok x) p v

    pub answer_bytes_is : answer_bytes w x N D ≡ input_bytes a
    unfolding answer_bytes input_bytes bytes_at result_of answer_line size_m records_laid
    answer_bytes_is = go s.value refl read_is ∙ ap (bytes_at a) (sym v)
      where
        go : (m : Option Operand) → s.value ≡ m → x ≡ result_of s m → answer_bytes w x N D ≡ answer_line w s m
        go (Some y) e h =
            ap₂ (λ l r. l ++ r) (ap (λ (z : Answer). head_laid w (case_of z.operand) z.cursor z.nodes z.diagnostics) h)
            (ap₂ (λ l r. l ++ r) (ap (λ (z : Answer). record_bytes w z.operand) h)
            (ap₂ (λ l r. l ++ r) (Answers.used_records a N D (Ok x) p v ∙ ap (nodes_laid w) e) first_added))
        go None e h =
            ap₂ (λ l r. l ++ r) (ap (λ (z : Answer). head_laid w (case_of z.operand) z.cursor z.nodes z.diagnostics) h)
            (ap₂ (λ l r. l ++ r) (ap (λ (z : Answer). record_bytes w z.operand) h)
            (ap₂ (λ l r. l ++ r) (Answers.used_records a N D (Ok x) p v ∙ ap (nodes_laid w) e) first_added))

    pub answer_told : (x₀ : List ℕ) → input_bytes a ≡ line_bytes w x₀ → AnswerTold w x₀ N D x
    answer_told x₀ e = record { nodes_few = Answers.nodes_few a N D (Ok x) p v; diagnostics_few = Answers.records_enough a N D (Ok x) p v; bytes = answer_bytes_is ∙ e }

  pub refused_bytes : (k : Refusal) → EntryPromise a N D (Err k) → refused (RefusalNumbers.number k) ≡ input_bytes a
  unfolding input_bytes bytes_at
  refused_bytes k p =
      let n = RefusalNumbers.number_more k in
      ap refused n.1 ∙ ap (bytes_at a) (sym n.1 ∙ refused_by (Answers.total a N D (Err k) p))

-- ---- a frame

pub is_frame_lem : (w : Layout) (B : List ℕ) → length B ≡ frame_length w B → frame_bytes w B ≡ input_bytes (input_of w B)
unfolding frame_bytes is_frame
is_frame_lem w B h = rw (eq-eqb (length B) (frame_length w B) h)

pub not_frame : (w : Layout) (B : List ℕ) → (length B ≡ frame_length w B → ⊥) → frame_bytes w B ≡ refused RefusalNumbers.bad_frame
unfolding frame_bytes is_frame
not_frame w B h = rw (ne_eqb (length B) (frame_length w B) h)

-- the bytes of the tokens, by the count where the code finds it
pub frame_tokens : (w : Layout) (B : List ℕ) (line k c t : ℕ) → line ≡ line_length w B → k ≡ width w → c ≡ number_at w B (line + k) → t ≡ token_size w * c → t ≡ token_size w * token_count w B
frame_tokens w B line k c t e f g h = h ∙ ap (λ n. token_size w * n) (g ∙ ap₂ (λ l m. number_at w B (l + m)) e f)

-- whether the bytes behind the line are its tokens
pub framed_if : (w : Layout) (B : List ℕ) (line list t : ℕ) → line ≡ line_length w B → t ≡ token_size w * token_count w B → length B ≡ line + list + 4 * width w → FramedAs w B (then_some (eqb list t) line)
unfolding FramedAs
framed_if w B line list t first tokens long = go (eqb list t) refl
  where
    go : (b : Bool) → eqb list t ≡ b → FramedAs w B (then_some b line)
    go true e = record { first = first; whole = omega (arith, eqb-true list t e) }
    go false e = λ f. eqb-false list t e (omega arith)

-- the parts as the code takes them
abbrev pub parts : Layout → List ℕ → ℕ → ℕ → ℕ → ℕ → List ℕ → List ℕ → Input
parts w B line k start mark N D = record {
  layout = w;
  line = take (line + k - k) (drop k B);
  tokens = take (length B - 2 * k - (line + 2 * k)) (drop (line + 2 * k) B);
  start = start;
  mark = mark;
  limit = 64;
  nodes = N;
  diagnostics = D;
  used = 0;
}

module _ (w : Layout) (B : List ℕ) (line k start mark : ℕ) (N D N' D' : List ℕ) (h : ReadAsks w B line) (is : k ≡ width w) (starts : start ≡ number_at w B (length B - 2 * k))
    (marks : mark ≡ number_at w B (length B - k)) where
  parts_lent : parts w B line k start mark N D ≡ lent w B N D
  parts_lent =
      let first = h.first in
      let whole = h.whole in
      let e₁ : line + k - k ≡ line_length w B = omega arith in
      let e₂ : length B - 2 * k - (line + 2 * k) ≡ token_size w * token_count w B = omega arith in
      let e₃ : line + 2 * k ≡ line_length w B + 2 * width w = omega arith in
      let e₄ : length B - 2 * k ≡ line_length w B + token_size w * token_count w B + 2 * width w = omega arith in
      let e₅ : length B - k ≡ line_length w B + token_size w * token_count w B + 3 * width w = omega arith in
      part e₁ e₂ is e₃ (starts ∙ ap (number_at w B) e₄) (marks ∙ ap (number_at w B) e₅) (sym max_nesting_depth_lem)
    where
      part : {i j n m s t d : ℕ} → i ≡ line_length w B → j ≡ token_size w * token_count w B → n ≡ width w → m ≡ line_length w B + 2 * width w
          → s ≡ number_at w B (line_length w B + token_size w * token_count w B + 2 * width w) → t ≡ number_at w B (line_length w B + token_size w * token_count w B + 3 * width w) → d ≡ max_nesting_depth
          → ◌≡◌ {A = Input} (record { layout = w; line = take i (drop n B); tokens = take j (drop m B); start = s; mark = t; limit = d; nodes = N; diagnostics = D; used = 0 }) (lent w B N D)
      part f₁ f₂ f₃ f₄ f₅ f₆ f₇ = rw (f₁, f₂, f₃, f₄, f₅, f₆, f₇)

  pub read_lent : (r : Result Answer Refusal) → EntryPromise (parts w B line k start mark N D) N' D' r → EntryPromise (lent w B N D) N' D' r
  read_lent r p = rw parts_lent at p

module _ (w : Layout) (x B N D N' D' : List ℕ) (is : frame_bytes w B ≡ line_bytes w x) (h : length B ≡ frame_length w B) (n : length N ≡ node_store w) (d : length D ≡ diagnostic_bytes w) where
  same_bytes : input_bytes (lent w B N D) ≡ line_bytes w x
  same_bytes = lent_same w B N D n d ∙ sym (is_frame_lem w B h) ∙ is

  pub read_told : (r : Result Answer Refusal) → EntryPromise (lent w B N D) N' D' r → ReadTold w x N' D' r
  unfolding ReadTold
  read_told (Ok y) p = answer_told (lent w B N D) refl N' D' y p x same_bytes
  read_told (Err k) p = refused_bytes (lent w B N D) refl N' D' k p ∙ same_bytes

-- what the answer of a line asks to be put
pub put_asks : (w : Layout) (x N D : List ℕ) (o : Output) (a : Answer) → AnswerTold w x N D a → length N ≡ node_store w → length D ≡ diagnostic_bytes w → o.filled + 102408 ≤ length o.bytes.now → AnswerAsks w o a N D
put_asks w x N D o a t n d room = record { room = room; nodes_few = t.nodes_few; nodes_long = n; diagnostics_few = t.diagnostics_few; diagnostics_long = d }

-- a line that spells no frame
pub told_bad : (w : Layout) (x N D : List ℕ) (r : Result Answer Refusal) → r ≡ Err Refusal.BadFrame → refused RefusalNumbers.bad_frame ≡ line_bytes w x → ReadTold w x N D r
unfolding ReadTold
told_bad w x N D r e f = rw e f

-- what is told of the option that `ok_or` made a result of, where `?` goes on, and where it returns
pub spelled_by : {E : Type 0} {r : Result ℕ E} {x S : List ℕ} {n : ℕ} (o : Option ℕ) (d : E) → DecodedAs x S o → r ≡ ok_or o d → r ≡ Ok n → Spelled x S n
unfolding DecodedAs
spelled_by {x = x} {S = S} (Some m) d told e f = let k : m ≡ _ = cc in subst (Spelled x S) k told
spelled_by None d told e f = absurd cc

pub unspelled_by : {E : Type 0} {y : E} {r : Result ℕ E} (x S : List ℕ) (o : Option ℕ) (d : E) → DecodedAs x S o → r ≡ ok_or o d → r ≡ Err y → (spells x ≡ false) × (y ≡ d)
unfolding DecodedAs
unspelled_by x S (Some m) d told e f = absurd cc
unspelled_by x S None d told e f = (told, cc)

pub framed_by : {E : Type 0} {r : Result ℕ E} {w : Layout} {B : List ℕ} {n : ℕ} (o : Option ℕ) (d : E) → FramedAs w B o → r ≡ ok_or o d → r ≡ Ok n → ReadAsks w B n
unfolding FramedAs
framed_by {w = w} {B = B} (Some m) d told e f = let k : m ≡ _ = cc in subst (ReadAsks w B) k told
framed_by None d told e f = absurd cc

pub unframed_by : {E : Type 0} {y : E} {r : Result ℕ E} (w : Layout) (B : List ℕ) (o : Option ℕ) (d : E) → FramedAs w B o → r ≡ ok_or o d → r ≡ Err y → (length B ≡ frame_length w B → ⊥) × (y ≡ d)
unfolding FramedAs
unframed_by w B (Some m) d told e f = absurd cc
unframed_by w B None d told e f = (told, cc)
