-- Condition 2, of what the entry returns and writes: it follows from its promise, and from Conditions.antt.
-- Assumes nothing.
use Rattle.std.specs.Prelude.{◌≡◌, List, [], ◌∷◌, ℕ, ◌*◌, length, Some, Result, Ok, Option, None}
use Rattle.std.proofs.Math.Path.{refl, ap}
use Rattle.std.proofs.Common.{sym, ◌∙◌, add-zero, arith, take-append-drop}
use Rattle.std.proofs.lemmas.Option.{none-some}
use Rattle.expressions.specs.Reader.{Reading}
use Rattle.records.specs.declared.diagnostics.Diagnostic.{Diagnostic}
use Rattle.operand.specs.Operands.{Operand}
use Rattle.operand.specs.Layouts.{diagnostic_size}
use Rattle.operand.specs.Layout.{diagnostics_laid}
use Rattle.operand.specs.Entry.{Input, place_of, reading_at, nodes_after, diagnostics_after, outcome, outcome_of}
use Rattle.layout.specs.Promise.{result_of, result_at, EntryPromise}
use Rattle.operand.specs.Conditions.{Valid}
use Rattle.operand.specs.declared.forms.OperandRecord.{OperandRecord}
use Rattle.operand.specs.declared.refusals.Refusal.{Refusal}
use Rattle.layout.specs.declared.answer.Answer.{Answer}
use Rattle.spelling.specs.Signs.{unreserved, ordinary}
use Rattle.spelling.specs.Spelling.{Closed, Spelled}
use Rattle.spelling.specs.Silence.{Unerring}
use Rattle.spelling.specs.Conditions.{Answers}
use Rattle.spelling.proofs.Conditions.{spelled_is_read, read_is_spelled}
use Rattle.spelling.specs.Answers.{Returns}

no_length : (ds : List Diagnostic) → length ds ≡ 0 → ds ≡ []
no_length [] e = refl
no_length (d ∷ ds) e = absurd (omega arith)

module _ (a : Input) (N' D' : List ℕ) (r : Result Answer Refusal) (p : EntryPromise a N' D' r) (valid : Valid a) where
  abbrev s : Reading (Option Operand)
  s = reading_at a

  value : r ≡ Ok (result_of s s.value)
  unfolding result_at
  value = p.value ∙ ap (result_at a) valid

  -- a silent reading of an operand, as it is returned and stored
  returned : {y : Operand} {j : ℕ} → Answers s y j → Returns a N' D' r y j
  unfolding result_of outcome outcome_of diagnostics_after diagnostics_laid
  returned z = record {
    answer = value ∙ rw (z.value, z.cursor, z.raised) refl;
    nodes = p.nodes ∙ ap (λ k. (outcome_of a k).nodes) valid ∙ ap (λ v. nodes_after a.layout v a.nodes) z.value;
    diagnostics = p.diagnostics ∙ ap (λ k. (outcome_of a k).diagnostics) valid ∙ rw (z.raised, add-zero) (take-append-drop (diagnostic_size a.layout * a.used) a.diagnostics);
  }

  -- each addressing mode of Motorola's manual, spelled and closed as document 01 says, is read as that mode without diagnostic
  pub spelled_is_answered : {j : ℕ} {y : Operand} → Spelled a.limit a.mark (place_of a) (ordinary a.mark) a.start j y → Closed (place_of a) j
      → Returns a N' D' r y j
  spelled_is_answered h c = returned (spelled_is_read a valid h c)

  -- and an operand read without diagnostic has such a spelling up to the cursor
  pub record Spelt (j : ℕ) : Type 0 where
    pub operand : Operand
    pub returns : Returns a N' D' r operand j
    pub spelled : Spelled a.limit a.mark (place_of a) unreserved a.start j operand

  pub answered_is_spelled : (x : Answer) (o : OperandRecord) → r ≡ Ok x → x.operand ≡ Some o → x.diagnostics ≡ 0 → Unerring (place_of a) a.start x.cursor → Spelt x.cursor
  unfolding result_of
  answered_is_spelled x o e f q u = go s.value refl
    where
      same : result_of s s.value ≡ x
      same = cc (sym value ∙ e)

      go : (v : Option Operand) → s.value ≡ v → Spelt x.cursor
      go None g = absurd (none-some _ (ap (λ v. (result_of s v).operand) (sym g) ∙ ap (λ y. y.operand) same ∙ f))
      go (Some y) g =
          let here : x.cursor ≡ s.cursor = sym (ap (λ y. y.cursor) same) in
          let quiet : s.raised ≡ [] = no_length s.raised (ap (λ y. y.diagnostics) same ∙ q) in
          record {
            operand = y;
            returns = returned (record { value = g; cursor = sym here; raised = quiet });
            spelled = rw here (read_is_spelled a valid g quiet (rw here at u));
          }
