-- What stands in the stores before a call does not matter to the answer.
-- Assumes nothing.
use Rattle.std.specs.Prelude.{◌≡◌, refl, List, ℕ, zero, suc, length}
use Rattle.std.proofs.Common.{sym, ◌∙◌, ap}
use Rattle.std.proofs.lemmas.List.{length-replicate}
use Rattle.operand.specs.declared.layouts.Layout.{Layout}
use Rattle.operand.specs.Layouts.{node_store}
use Rattle.operand.specs.Entry.{refusals, refusal}
use Rattle.frames.specs.Frame.{diagnostic_bytes, lent, input_of}
use Rattle.frames.specs.Reply.{bytes_at, input_bytes}

refusal_lent : (w : Layout) (B N D : List ℕ) → length N ≡ node_store w → length D ≡ diagnostic_bytes w → refusal (lent w B N D) ≡ refusal (input_of w B)
unfolding refusal refusals input_of
refusal_lent w B N D n d = rw (n ∙ sym (length-replicate {A = ℕ} (node_store w) 0), d ∙ sym (length-replicate {A = ℕ} (diagnostic_bytes w) 0))

pub lent_same : (w : Layout) (B N D : List ℕ) → length N ≡ node_store w → length D ≡ diagnostic_bytes w → input_bytes (lent w B N D) ≡ input_bytes (input_of w B)
unfolding input_bytes bytes_at input_of
lent_same w B N D n d = ap (bytes_at (lent w B N D)) (refusal_lent w B N D n d) ∙ at (refusal (input_of w B))
  where
    at : (k : ℕ) → bytes_at (lent w B N D) k ≡ bytes_at (input_of w B) k
    at zero = refl
    at (suc k) = refl
