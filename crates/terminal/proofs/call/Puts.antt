-- What is written, piece by piece, is the answer.
-- Assumes nothing.
use mathlib.Core.Path.{◌≡◌, refl, sym, ◌∙◌, ap}
use mathlib.Core.List.{List, [], ◌∷◌, ◌++◌, append_assoc}
use Prim.Native.Nat.{ℕ, ◌+◌, ◌-◌, ◌/◌, ◌%◌, ◌≤◌, ◌<◌}
use native.Mathlib.Omega.{arith}
use borrow.Author.Tests.{lt-ltb, le-ltb}
use lib.ListN.{length, take, drop, replicate, length-append, length-take, length-replicate}
use Rattle.std.proofs.lemmas.List.{length-drop}
use borrow.Rule.Slice.PartMut.{put_mid}
use Rattle.records.specs.Nodes.{low_first}
use Rattle.records.specs.Stores.{written}
use Rattle.records.specs.Written.{put_written, length_written, written_nothing, written_on}
use Rattle.operand.specs.declared.layouts.Layout.{Layout}
use Rattle.operand.specs.Layouts.{operand_size}
use Rattle.operand.specs.Layout.{bytes_of, head_laid}
use Rattle.operand.specs.Lengths.{length_bytes}
use Rattle.operand.specs.Entry.{Input}
use Rattle.std.specs.Prelude.{Option, Some, None, Result, Ok, Err}
use Rattle.operand.specs.RefusalNumbers
use Rattle.operand.specs.declared.refusals.Refusal.{Refusal}
use Rattle.operand.specs.declared.forms.OperandRecord.{OperandRecord}
use Rattle.layout.specs.Promise.{given_read, given, EntryPromise}
use Rattle.layout.specs.Head.{head_size, length_head}
use Rattle.layout.specs.declared.answer.Answer.{Answer}
use Rattle.terminal.specs.Exported.{told, number_of, answer_laid, out_after, answered, answer_bytes, answer_bytes_lem, short_answer, exported}

-- one piece behind the other
three : (O P Q R x y z : List ℕ) (j k : ℕ) → P ≡ written O 0 x → Q ≡ written P j y → R ≡ written Q k z → j ≡ length x → k ≡ length x + length y
    → length x + length y + length z ≤ length O → R ≡ written O 0 (x ++ (y ++ z))
three O P Q R x y z j k p q r e f h =
    written_on O Q R 0 k (x ++ y) z (written_on O P Q 0 j x y p (omega arith) q (omega arith)) (simp length-append (omega arith)) r (simp length-append (omega arith))
    ∙ ap (written O 0) (append_assoc x y z)

-- the longest answer
pub answer_few : (w : Layout) → answer_bytes w ≤ 39
answer_few Layout.Narrow = omega arith
answer_few Layout.Wide = omega arith

module _ (w : Layout) (x : Answer) (O P : List ℕ) (j : ℕ) (room : answer_bytes w ≤ length O) (is : j ≡ head_size w) where
  pub operand_put : (o : OperandRecord) → x.operand ≡ Some o → (Q R : List ℕ) (k : ℕ) → k ≡ operand_size w
      → P ≡ written O 0 (head_laid w 0 x.cursor x.nodes x.diagnostics) → Q ≡ written P j (bytes_of w o)
      → R ≡ written Q (j + k) (o.mask % 256 ∷ o.mask / 256 % 256 ∷ []) → R ≡ out_after w (given w (Ok x)) O
  unfolding given out_after answer_laid low_first
  operand_put o e Q R k f p q r =
      let head = length_head w 0 x.cursor x.nodes x.diagnostics in
      let record-long = length_bytes w o in
      rw e (three O P Q R _ _ _ j (j + k) p q r (omega (arith, head)) (omega (arith, head, record-long)) (omega (arith, head, record-long, answer_bytes_lem w)))

  pub none_put : x.operand ≡ None → P ≡ written O 0 (head_laid w 1 x.cursor 0 x.diagnostics) → (Z : List ℕ) (n : ℕ) → n ≡ answer_bytes w
      → Z ≡ replicate (length (take (n - j) (drop j P))) 0 → put_mid j (n - j) P Z ≡ out_after w (given w (Ok x)) O
  unfolding given out_after answer_laid
  none_put e p Z n end z =
      let head = length_head w 1 x.cursor 0 x.diagnostics in
      let Y : List ℕ = replicate (operand_size w + 2) 0 in
      let long : length Y ≡ operand_size w + 2 = length-replicate (operand_size w + 2) 0 in
      let kept : length P ≡ length O = ap length p ∙ length_written O 0 (head_laid w 1 x.cursor 0 x.diagnostics) (omega (arith, head, answer_bytes_lem w)) in
      let part : length (take (n - j) (drop j P)) ≡ operand_size w + 2 = simp (length-take, length-drop) (omega (arith, kept, answer_bytes_lem w)) in
      let put = put_written P j (n - j) Z Y (z ∙ ap (λ k. replicate k 0) part) (omega (arith, long, answer_bytes_lem w)) (omega (arith, long, kept, answer_bytes_lem w)) in
      rw e (written_on O P (put_mid j (n - j) P Z) 0 j _ _ p (omega (arith, head)) put (omega (arith, head, long, answer_bytes_lem w)))

-- ---- the whole

joined : {k k' : ℕ} {N N' D D' O O' : List ℕ} → k ≡ k' → N ≡ N' → D ≡ D' → O ≡ O' → told k N D O ≡ told k' N' D' O'
joined e₁ e₂ e₃ e₄ = cc

pub short : (a : Input) (O : List ℕ) → length O < answer_bytes a.layout → told short_answer a.nodes a.diagnostics O ≡ exported a O
unfolding exported
short a O h = rw (lt-ltb (length O) (answer_bytes a.layout) h)

module _ (a : Input) (N D O : List ℕ) (room : answer_bytes a.layout ≤ length O) where
  -- a call's number, and its answer store
  whole : (x : Result Answer Refusal) → EntryPromise a N D x → (O' : List ℕ) (k : ℕ) → k ≡ number_of (given a.layout x) → O' ≡ out_after a.layout (given a.layout x) O
      → told k N D O' ≡ exported a O
  unfolding exported answered
  whole x p O' k n out =
      rw (le-ltb (length O) (answer_bytes a.layout) room)
      (joined (n ∙ ap number_of p.answer) p.nodes p.diagnostics (out ∙ ap (λ r. out_after a.layout r O) p.answer))

  pub answer_told : (x : Answer) → EntryPromise a N D (Ok x) → (O' : List ℕ) → O' ≡ out_after a.layout (given a.layout (Ok x)) O → told 0 N D O' ≡ exported a O
  unfolding given number_of
  answer_told x p O' out = whole (Ok x) p O' 0 (go x.operand) out
    where
      go : (o : Option OperandRecord) → 0 ≡ number_of (given_read a.layout x o)
      go (Some o) = refl
      go None = refl

  pub refusal_told : (k : Refusal) (n : ℕ) → EntryPromise a N D (Err k) → n ≡ RefusalNumbers.number k → told n N D O ≡ exported a O
  unfolding given number_of out_after answer_laid
  refusal_told k n p e = whole (Err k) p O n e (sym (written_nothing O 0))
