-- Bytes put one after the other make a line.
-- Assumes nothing.
use mathlib.Core.Path.{◌≡◌, ◌∙◌, ap₂}
use mathlib.Core.List.{List, [], ◌∷◌, ◌++◌, append_assoc}
use Prim.Native.Nat.{ℕ, ◌+◌, ◌*◌, ◌≤◌}
use native.Mathlib.Omega.{arith}
use lib.ListN.{length, take, length-append}
use Rattle.records.specs.Stores.{written}
use Rattle.operand.specs.declared.layouts.Layout.{Layout}
use Rattle.operand.specs.Layouts.{node_size, diagnostic_size, operand_size, free_records, nodes_within}
use Rattle.operand.specs.Layout.{bytes_of, head_laid}
use Rattle.layout.specs.Head.{head_size}
use Rattle.std.specs.Prelude.{Option, Some, None}
use Rattle.operand.specs.Lengths.{length_bytes}
use Rattle.operand.specs.declared.forms.OperandRecord.{OperandRecord}
use Rattle.layout.specs.declared.answer.Answer.{Answer}
use Rattle.frames.specs.declared.output.Output.{Output}
use Rattle.frames.specs.Frame.{diagnostic_bytes, opening}
use Rattle.frames.specs.Hex.{digits}
use Rattle.frames.specs.Reply.{ended}
use Rattle.records.specs.Written.{written_take}
use Rattle.frames.specs.Lengths.{length_digits, parts_short}
use Rattle.frames.specs.Inner.{Put, case_of, record_bytes, RecordPut, answer_bytes, AnswerAsks}
use Rattle.frames.proofs.output.Filling.{put_none, then, then_digits}

-- a line's opening
pub opened : (w : Layout) (O : List ℕ) (at : ℕ) → at ≤ length O → w ≡ Layout.Narrow → Put O O at (opening w) at
unfolding opening
opened w O at h e = rw e (put_none O at h)

pub opened_wide : {O P : List ℕ} {at r : ℕ} (w : Layout) → w ≡ Layout.Wide → Put O P at (119 ∷ []) r → Put O P at (opening w) r
unfolding opening
opened_wide w e p = rw e p

pub next_opening : {O P : List ℕ} {at r : ℕ} (w : Layout) → Put O P at (opening w) r → r ≤ at + 1
unfolding opening
next_opening Layout.Narrow p = omega (arith, p.next)
next_opening Layout.Wide p = omega (arith, p.next)

-- the opening, the digits of bytes, and the line feed
line_put : {O N P Q : List ℕ} {at k r s : ℕ} (w : Layout) (b : List ℕ) → Put O N at (opening w) k → Put N P k (digits b) r → Put P Q r (10 ∷ []) s
    → at + 2 * length b + 2 ≤ length O → Put O Q at (ended w b) s
unfolding ended
line_put w b o p q h =
    let k = next_opening w o in
    let l = length_digits b in
    then o (then p q (omega (arith, l, o.kept))) (simp length-append (omega (arith, l, o.next)))

pub parts_put : {O P₀ P₁ P₂ P₃ P₄ P₅ : List ℕ} {at r₀ r₁ r₂ r₃ r₄ r₅ : ℕ} (w : Layout) (h r n d : List ℕ)
    → at + 2 * (length h + length r + length n + length d) + 2 ≤ length O → Put O P₀ at (opening w) r₀
    → Put P₀ P₁ r₀ (digits h) r₁ → Put P₁ P₂ r₁ (digits r) r₂ → Put P₂ P₃ r₂ (digits n) r₃ → Put P₃ P₄ r₃ (digits d) r₄ → Put P₄ P₅ r₄ (10 ∷ []) r₅
    → Put O P₅ at (ended w (h ++ (r ++ (n ++ d)))) r₅
parts_put w h r n d a p₀ p₁ p₂ p₃ p₄ p₅ =
    let k = next_opening w p₀ in
    let l = p₀.kept in
    let q₂ = then_digits h r p₁ p₂ (omega arith) in
    let q₃ = then_digits (h ++ r) n q₂ p₃ (simp length-append (omega arith)) in
    let q₄ = then_digits ((h ++ r) ++ n) d q₃ p₄ (simp length-append (omega arith)) in
    let q₅ = line_put w (((h ++ r) ++ n) ++ d) p₀ q₄ p₅ (simp length-append (omega arith)) in
    rw (append_assoc, append_assoc) at q₅

-- how long the parts of an answer are
module _ (w : Layout) where
  sizes : (head_size w ≤ 7) × (operand_size w ≤ 30)
  sizes = go w
    where
      go : (w : Layout) → (head_size w ≤ 7) × (operand_size w ≤ 30)
      go Layout.Narrow = omega arith
      go Layout.Wide = omega arith

  diagnostics_within : (d : ℕ) → d ≤ free_records w → diagnostic_size w * d ≤ diagnostic_bytes w
  unfolding free_records diagnostic_bytes
  diagnostics_within d h = go w h
    where
      go : (w : Layout) → d ≤ free_records w → diagnostic_size w * d ≤ diagnostic_bytes w
      go Layout.Narrow h = omega arith
      go Layout.Wide h = omega arith

  -- a record at the beginning of a store of its own
  pub alone : (S S' y : List ℕ) (n : ℕ) → n ≡ length y → length y ≤ length S → S' ≡ written S 0 y → take n S' ≡ y
  alone S S' y n e h g =
      let z : n ≡ 0 + length y = omega arith in
      ap₂ take z g ∙ written_take S 0 y (omega arith)

  pub record Long (N D : List ℕ) (o : Output) (n d : ℕ) : Type 0 where
    pub head : head_size w ≤ 7
    pub operand : operand_size w ≤ 30
    pub nodes : node_size w * n ≤ length N
    pub diagnostics : diagnostic_size w * d ≤ length D
    pub room : o.filled + 2 * (head_size w + operand_size w + node_size w * n + diagnostic_size w * d) + 2 ≤ length o.bytes.now

  pub answer_long : (N D : List ℕ) (o : Output) (x : Answer) → AnswerAsks w o x N D → Long N D o x.nodes x.diagnostics
  answer_long N D o x a =
      record {
        head = sizes.0;
        operand = sizes.1;
        nodes = omega (arith, nodes_within w x.nodes a.nodes_few, a.nodes_long);
        diagnostics = omega (arith, diagnostics_within x.diagnostics a.diagnostics_few, a.diagnostics_long);
        room = omega (arith, parts_short w x.nodes x.diagnostics a.nodes_few a.diagnostics_few, a.room);
      }

  pub record_long : (x : Option OperandRecord) → length (record_bytes w x) ≤ operand_size w
  record_long (Some x) = omega (arith, length_bytes w x)
  record_long None = omega arith

  pub record_put : (x : OperandRecord) (S S' : List ℕ) (n : ℕ) → length S ≡ 30 → n ≡ operand_size w → S' ≡ written S 0 (bytes_of w x) → RecordPut w (Some x) S' n
  record_put x S S' n l e f =
      let long = length_bytes w x in
      record { few = omega (arith, sizes.1); bytes = alone S S' (bytes_of w x) n (omega arith) (omega (arith, sizes.1)) f }

  -- the parts of an answer as they are taken, under the answer's name
  pub answer_line : (x : Answer) (H R N D O P : List ℕ) (at r h k n d : ℕ) → take h H ≡ head_laid w (case_of x.operand) x.cursor x.nodes x.diagnostics → take k R ≡ record_bytes w x.operand
      → n ≡ node_size w * x.nodes → d ≡ diagnostic_size w * x.diagnostics → Put O P at (ended w (take h H ++ (take k R ++ (take n N ++ take d D)))) r → Put O P at (ended w (answer_bytes w x N D)) r
  unfolding answer_bytes
  answer_line x H R N D O P at r h k n d e f g i p = rw (e, f, g, i) at p
