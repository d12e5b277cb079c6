-- The answer's bytes are those that the call's outcome gives: its answer, and the records at the beginning of both stores.
-- Assumes nothing.
use Rattle.std.specs.Prelude.{◌≡◌, refl, List, ◌++◌, ℕ, zero, suc, ◌+◌, ◌*◌, length, take, drop, Option, Some, None}
use Rattle.std.proofs.Common.{◌∙◌, ap, ap₂, mul-zero, take_at}
use Rattle.expressions.specs.Reader.{Reading}
use Rattle.operand.specs.Operands.{Operand}
use Rattle.operand.specs.Records.{size_o, size_m, nodes_m}
use Rattle.operand.specs.declared.layouts.Layout.{Layout}
use Rattle.operand.specs.Layouts.{node_size, diagnostic_size}
use Rattle.operand.specs.Layout.{nodes_laid, diagnostics_laid, operand_record, operand_number, no_operand_number, head_laid, answer_line}
use Rattle.operand.specs.Entry.{Input, refusal, reading_at, answer_of, nodes_after, diagnostics_after, outcome_of, outcome}
use Rattle.operand.specs.Entry as Entry
use Rattle.operand.specs.Lengths.{length_node_bytes, length_laid}
use Rattle.frames.specs.Reply.{refused, bytes_at, input_bytes}

unfoldable pub outcome_bytes : Layout → Entry.Answer → List ℕ → List ℕ → List ℕ
outcome_bytes w (Entry.operand x cursor n d mask) N D = head_laid w operand_number cursor n d ++ (x ++ (take (node_size w * n) N ++ take (diagnostic_size w * d) D))
outcome_bytes w (Entry.no_operand cursor d) N D = head_laid w no_operand_number cursor 0 d ++ take (diagnostic_size w * d) D
outcome_bytes w (Entry.refused k) N D = refused k

first_nodes : (w : Layout) (v : Option Operand) (N : List ℕ) → take (node_size w * size_m v) (nodes_after w v N) ≡ nodes_laid w v
unfolding nodes_after
first_nodes w v N = take_at (nodes_laid w v) _ (node_size w * size_m v) (length_node_bytes w (nodes_m v) (size_m v))

first_diagnostics : (w : Layout) (r : Reading (Option Operand)) (D : List ℕ) → take (diagnostic_size w * length r.raised) (diagnostics_after w r 0 D) ≡ diagnostics_laid w r.raised
unfolding diagnostics_after
first_diagnostics w r D =
    let m : ℕ = diagnostic_size w * length r.raised in
    ap (λ k. take m (take k D ++ (diagnostics_laid w r.raised ++ drop (diagnostic_size w * (0 + length r.raised)) D))) (mul-zero (diagnostic_size w))
    ∙ take_at (diagnostics_laid w r.raised) _ m (length_laid w r.raised)

read_bytes : (w : Layout) (r : Reading (Option Operand)) (v : Option Operand) (N D : List ℕ) → outcome_bytes w (answer_of w r v) (nodes_after w v N) (diagnostics_after w r 0 D) ≡ answer_line w r v
unfolding outcome_bytes answer_of answer_line size_m
read_bytes w r (Some x) N D =
    ap₂ (λ n d. head_laid w operand_number r.cursor (size_o x) (length r.raised) ++ (operand_record w x ++ (n ++ d))) (first_nodes w (Some x) N) (first_diagnostics w r D)
read_bytes w r None N D = ap (λ d. head_laid w no_operand_number r.cursor 0 (length r.raised) ++ d) (first_diagnostics w r D)

pub from_outcome : (a : Input) → a.used ≡ 0 → outcome_bytes a.layout (outcome a).answer (outcome a).nodes (outcome a).diagnostics ≡ input_bytes a
unfolding outcome outcome_of input_bytes bytes_at outcome_bytes
from_outcome a none-used = go (refusal a)
  where
    go : (k : ℕ) → outcome_bytes a.layout (outcome_of a k).answer (outcome_of a k).nodes (outcome_of a k).diagnostics ≡ bytes_at a k
    go zero =
        let w = a.layout in
        let r = reading_at a in
        ap (λ k. outcome_bytes w (answer_of w r r.value) (nodes_after w r.value a.nodes) (diagnostics_after w r k a.diagnostics)) none-used
        ∙ read_bytes w r r.value a.nodes a.diagnostics
    go (suc k) = refl
