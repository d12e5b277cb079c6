-- The buyer's conditions, of what the exported call returns and writes. They follow from the entry's (layout `Answers`, spelling `Answers`), as the number
-- and the bytes are its answer. Words in quotes are document 01's.
-- Assumes nothing.
use Rattle.std.specs.Prelude.{◌≡◌, refl, Bool, true, false, List, ◌++◌, ℕ, zero, suc, ◌+◌, ◌-◌, ◌*◌, ◌≤◌, ◌<◌, eqb, ltb, length, take, replicate, None, Result, Ok, Err, Option, Some}
use Rattle.std.proofs.Common.{sym, ◌∙◌, ap₂, append_assoc, zero-add, arith, le-ltb, ltb-true, ltb-false, length-append, take_at, drop_at}
use Rattle.std.proofs.Math.Path.{ap}
use Rattle.std.proofs.Math.ListN.{drop}
use Rattle.std.proofs.lemmas.List.{length-replicate}
use Rattle.names.specs.Choice.{pick}
use Rattle.names.specs.Kinds
use Rattle.names.specs.Tokens.{count}
use Rattle.names.specs.Places.{stands}
use Rattle.names.specs.declared.tokens.Token.{Token}
use Rattle.records.specs.Nodes.{low_first}
use Rattle.records.specs.Written.{written_fits}
use Rattle.expressions.specs.Reader.{Reading}
use Rattle.operand.specs.Operands.{Operand}
use Rattle.operand.specs.Records.{size_m}
use Rattle.operand.specs.Forms.{record_of, mask_o}
use Rattle.operand.specs.declared.layouts.Layout.{Layout}
use Rattle.operand.specs.Layouts.{number, number_at, numbers_end, node_size, diagnostic_size, operand_size, node_store, free_records, free_records_lem, most_tokens_lem, numbers_fit}
use Rattle.operand.specs.Layout.{operand_record, head_laid, operand_number, no_operand_number}
use Rattle.operand.specs.Widened.{SameGiven, Satisfies}
use Rattle.operand.proofs.Widened.{refusal_same}
use Rattle.operand.specs.Lengths.{length_bytes}
use Rattle.operand.specs.Entry.{Input, tokens_of, place_of, refusal, reading_at, nodes_after, outcome, outcome_of, answer_number, outcome_number_lem}
use Rattle.operand.specs.Settings.{with_setting}
use Rattle.operand.specs.Marks.{remarked, MarksAgree, MarksPast}
use Rattle.operand.proofs.Marks.{marks_agree, outcome_same}
use Rattle.operand.proofs.Limits as L
use Rattle.operand.specs.Limits.{limited, Higher, NoneTooDeep}
use Rattle.operand.proofs.Conditions as Conditions
use Rattle.operand.specs.Conditions.{Valid, AlikeThrough, record_at, SameButPlus}
use Rattle.operand.proofs.Conditions.{refusal_number, refuses_numbered, refuses_bounds, valid_bounds, valid_limit, records_enough, alike_before}
use Rattle.layout.specs.Promise.{given, result_of, result_at, given_result, EntryPromise}
use Rattle.layout.specs.Head.{length_head}
use Rattle.layout.specs.Answers as Answers
use Rattle.operand.specs.RefusalNumbers
use Rattle.operand.specs.Entry as E
use Rattle.operand.specs.declared.refusals.Refusal.{Refusal}
use Rattle.layout.specs.declared.answer.Answer.{Answer}
use Rattle.spelling.specs.Signs.{unreserved, ordinary}
use Rattle.spelling.specs.Spelling.{Closed, Spelled}
use Rattle.spelling.specs.Silence.{Unerring}
use Rattle.spelling.specs.Answers as Answered
use Rattle.spelling.proofs.Answers as Spellings
use Rattle.terminal.specs.Exported.{Exported, told, answer_laid, out_after, answered, answer_bytes, answer_bytes_lem, short_answer, exported}
use Rattle.terminal.proofs.Stays.{number_roomy, number_short, stays}
use Rattle.terminal.specs.Conditions.{kind_in, cursor_in, nodes_in, added_in, Total, operand, no_operand, refused, short, added_records, SameBytes, SameBytesButPlus, OneAnswer}

-- ---- the bytes of an answer

laid_long : (w : Layout) (r : Reading (Option Operand)) (v : Option Operand) → length (answer_laid w (given w (Ok (result_of r v)))) ≡ answer_bytes w
unfolding answer_laid given result_of low_first
laid_long w r (Some x) =
    simp length-append (omega (arith, length_head w 0 r.cursor (size_m (Some x)) (length r.raised), length_bytes w (record_of x), answer_bytes_lem w))
laid_long w r None = simp (length-append, length-replicate) (omega (arith, length_head w 1 r.cursor 0 (length r.raised), answer_bytes_lem w))

-- the entry's answer, as it stands in a store
record Stands (w : Layout) (r : Result Answer Refusal) (O : List ℕ) : Type 0 where
  kind : kind_in O ≡ Answers.gap_of r
  cursor : cursor_in w O ≡ Answers.cursor_of r
  nodes : nodes_in w O ≡ Answers.nodes_used r
  added : added_in w O ≡ Answers.diagnostics_added r

-- a beginning whose numbers fit, and what stands behind it
record HeadStands (w : Layout) (k c n d : ℕ) (O : List ℕ) : Type 0 where
  kind : kind_in O ≡ k
  cursor : cursor_in w O ≡ c
  nodes : nodes_in w O ≡ n
  added : added_in w O ≡ d

head_stands : (w : Layout) (k cursor n d : ℕ) (R : List ℕ) → cursor < numbers_end w → n < numbers_end w → d < 65536 → HeadStands w k cursor n d (head_laid w k cursor n d ++ R)
unfolding head_laid number number_at low_first numbers_end
head_stands Layout.Narrow k cursor n d R c m e = record { kind = refl; cursor = omega arith; nodes = omega arith; added = omega arith }
head_stands Layout.Wide k cursor n d R c m e = record { kind = refl; cursor = omega arith; nodes = omega arith; added = omega arith }

stood : (w : Layout) (r : Reading (Option Operand)) (v : Option Operand) (R : List ℕ) → r.cursor < numbers_end w → size_m v < numbers_end w → length r.raised < 65536
    → Stands w (Ok (result_of r v)) (answer_laid w (given w (Ok (result_of r v))) ++ R)
unfolding answer_laid given result_of size_m
stood w r (Some x) R c n h =
    let z = head_stands w 0 r.cursor (size_m (Some x)) (length r.raised) ((operand_record w x ++ low_first 2 (mask_o x)) ++ R) c n h in
    rw (append_assoc (head_laid w 0 r.cursor (size_m (Some x)) (length r.raised)) (operand_record w x ++ low_first 2 (mask_o x)) R)
    (record { kind = z.kind; cursor = z.cursor; nodes = z.nodes; added = z.added })
stood w r None R c n h =
    let z = head_stands w 1 r.cursor 0 (length r.raised) (replicate (operand_size w + 2) 0 ++ R) c n h in
    rw (append_assoc (head_laid w 1 r.cursor 0 (length r.raised)) (replicate (operand_size w + 2) 0) R)
    (record { kind = z.kind; cursor = z.cursor; nodes = z.nodes; added = z.added })

-- ---- it is the entry's call

given_at : (a : Input) → given a.layout (result_at a (refusal a)) ≡ (outcome_of a (refusal a)).answer
unfolding given result_at outcome_of
given_at a = go (refusal a) λ n. refuses_numbered (refusal_number a n)
  where
    go : (k : ℕ) → ((k ≡ 0 → ⊥) → RefusalNumbers.number (RefusalNumbers.numbered k) ≡ k) → given a.layout (result_at a k) ≡ (outcome_of a k).answer
    go zero h = given_result a.layout (reading_at a) (reading_at a).value
    go (suc k) h = ap E.refused (h (λ e. omega arith))

exported_is : (a : Input) (O : List ℕ) → answer_bytes a.layout ≤ length O → exported a O ≡ answered a.layout (outcome a) O
unfolding exported
exported_is a O room = rw (le-ltb (length O) (answer_bytes a.layout) room)

-- with room for the answer, the number and the stores are those of a call that keeps the entry's promise: what holds of every such call holds of this one
pub entry_kept : (a : Input) (O : List ℕ) → answer_bytes a.layout ≤ length O
    → EntryPromise a (exported a O).nodes (exported a O).diagnostics (result_at a (refusal a))
unfolding answered outcome
entry_kept a O room =
    let e = exported_is a O room in
    record { answer = given_at a; number = ap answer_number (given_at a) ∙ outcome_number_lem a; nodes = ap (λ x. x.nodes) e; diagnostics = ap (λ x. x.diagnostics) e; value = refl }

-- ---- of a valid input, with room for the answer

module _ (a : Input) (O : List ℕ) (v : Valid a) (room : answer_bytes a.layout ≤ length O) where
  abbrev w : Layout
  w = a.layout

  abbrev s : Reading (Option Operand)
  s = reading_at a

  -- the entry's answer
  abbrev r : Result Answer Refusal
  r = Ok (result_of s s.value)

  abbrev N' : List ℕ
  N' = (exported a O).nodes

  abbrev D' : List ℕ
  D' = (exported a O).diagnostics

  abbrev O' : List ℕ
  O' = (exported a O).out

  promise : EntryPromise a N' D' r
  unfolding result_at
  promise =
      let p = entry_kept a O room in
      record {
        answer = ap (λ k. given w (result_at a k)) (sym v) ∙ p.answer;
        number = ap (λ k. answer_number (given w (result_at a k))) (sym v) ∙ p.number;
        nodes = p.nodes;
        diagnostics = p.diagnostics;
        value = ap (result_at a) (sym v);
      }

  out_is : O' ≡ answer_laid w (given w r) ++ drop (answer_bytes w) O
  unfolding answered out_after
  out_is =
      let long = laid_long w s s.value in
      ap (λ x. x.out) (exported_is a O room)
      ∙ ap (λ x. out_after w x O) (sym promise.answer)
      ∙ written_fits O 0 (answer_laid w (given w r)) (omega arith)
      ∙ ap (λ n. answer_laid w (given w r) ++ drop n O) (zero-add _ ∙ long)

  there : Stands w r O'
  there =
      let lim = (valid_limit a v).0 in
      let bounds = Conditions.cursor_bounds a lim v in
      rw out_is (stood w s s.value (drop (answer_bytes w) O) (omega (arith, bounds, valid_bounds a v, numbers_fit w)) (omega (arith, bounds, Conditions.nodes_bound a lim, valid_bounds a v, numbers_fit w)) (omega (arith, records_enough a lim v, free_records_lem w, most_tokens_lem w)))

  -- the answer's bytes
  first : take (answer_bytes w) O' ≡ answer_laid w (given w r)
  first = ap (take (answer_bytes w)) out_is ∙ take_at (answer_laid w (given w r)) _ (answer_bytes w) (laid_long w s s.value)

  -- ---- condition 1

  -- the cursor neither goes back nor passes the end
  pub cursor_bounds : (a.start ≤ cursor_in w O') × (cursor_in w O' ≤ count (tokens_of a))
  cursor_bounds = rw there.cursor (Answers.cursor_bounds a N' D' r promise v)

  -- no operand is never silent, unless the start is the end or an Error token stood from there on
  pub never_silent : (k : Token) (x : List ℕ) → place_of a a.start ≡ stands k x
      → ((j : ℕ) (t : Token) (y : List ℕ) → a.start ≤ j → place_of a j ≡ stands t y → eqb t.kind Kinds.error ≡ false)
      → kind_in O' ≡ no_operand_number → 0 < added_in w O'
  unfolding result_of
  never_silent k x here quiet e = rw there.added (Answers.never_silent a N' D' r promise v k x here quiet (result_of s s.value) refl (none_read s.value (sym there.kind ∙ e)))
    where
      none_read : (v : Option Operand) → Answers.gap_of (Ok (result_of s v)) ≡ 1 → (result_of s v).operand ≡ None
      none_read (Some x) f = absurd (omega arith)
      none_read None f = refl

  -- "A reading adds at most twice its consumed tokens plus one."
  pub diagnostics_bound : added_in w O' + 2 * a.start ≤ 2 * cursor_in w O' + 1
  diagnostics_bound = rw (there.added, there.cursor) (Answers.diagnostics_bound a N' D' r promise v)

  -- so the records that must be free are enough
  pub diagnostics_enough : added_in w O' ≤ free_records w
  diagnostics_enough = rw there.added (Answers.records_enough a N' D' r promise v)

  -- the nodes are at most the consumed tokens
  pub nodes_bound : nodes_in w O' + a.start ≤ cursor_in w O'
  nodes_bound = rw (there.nodes, there.cursor) (Answers.nodes_bound a N' D' r promise v)

  -- so a store of one record a token is enough
  pub nodes_enough : node_size w * nodes_in w O' ≤ node_store w
  nodes_enough = rw there.nodes (Answers.nodes_enough a N' D' r promise v)

  -- ---- what stays with an answer

  -- the answer store's other bytes
  pub answer_past : drop (answer_bytes w) O' ≡ drop (answer_bytes w) O
  answer_past = ap (drop (answer_bytes w)) out_is ∙ drop_at (answer_laid w (given w r)) _ (answer_bytes w) (laid_long w s s.value)

  -- earlier diagnostics
  pub earlier_stand : take (diagnostic_size w * a.used) D' ≡ take (diagnostic_size w * a.used) a.diagnostics
  earlier_stand = Answers.earlier_stand a N' D' r promise v

  -- "Bytes past the added records stay."
  pub later_stand : drop (diagnostic_size w * (a.used + added_in w O')) D' ≡ drop (diagnostic_size w * (a.used + added_in w O')) a.diagnostics
  later_stand = rw there.added (Answers.later_stand a N' D' r promise v)

  -- "Unused node records of the 255 are zero; bytes past 3,570 stay.", and so of the 1,023
  pub unused_zero : drop (node_size w * nodes_in w O') N' ≡ replicate (node_store w - node_size w * nodes_in w O') 0 ++ drop (node_store w) a.nodes
  unused_zero = rw there.nodes (Answers.unused_zero a N' D' r promise v)

  -- "Start equal to the count gives no operand and no diagnostic."
  pub at_the_end : a.start ≡ count (tokens_of a) → take (answer_bytes w) O' ≡ head_laid w no_operand_number a.start 0 0 ++ replicate (operand_size w + 2) 0
  unfolding answer_laid given
  at_the_end e = first ∙ ap (λ q. answer_laid w (given w q)) (Answers.at_the_end a N' D' r promise v e).answer

  -- ---- condition 2

  -- the operand y up to the place j, its nodes, and no diagnostic: the number, the answer's bytes and both stores
  pub record Returns (y : Operand) (j : ℕ) : Type 0 where
    pub number : (exported a O).number ≡ 0
    pub answer : take (answer_bytes w) O' ≡ head_laid w operand_number j (size_m (Some y)) 0 ++ (operand_record w y ++ low_first 2 (mask_o y))
    pub nodes : N' ≡ nodes_after w (Some y) a.nodes
    pub diagnostics : D' ≡ a.diagnostics

  returned : {y : Operand} {j : ℕ} → Answered.Returns a N' D' r y j → Returns y j
  unfolding answer_laid given
  returned h = record {
    number = number_roomy a O room ∙ v;
    answer = first ∙ ap (λ q. answer_laid w (given w q)) h.answer;
    nodes = h.nodes;
    diagnostics = h.diagnostics;
  }

  -- each addressing mode of Motorola's manual, spelled and closed as document 01 says, is read as that mode without diagnostic
  pub spelled_is_answered : {j : ℕ} {y : Operand} → Spelled a.limit a.mark (place_of a) (ordinary a.mark) a.start j y → Closed (place_of a) j → Returns y j
  spelled_is_answered h c = returned (Spellings.spelled_is_answered a N' D' r promise v h c)

  -- and an operand read without diagnostic has such a spelling up to the cursor
  pub record Spelt : Type 0 where
    pub operand : Operand
    pub returns : Returns operand (cursor_in w O')
    pub spelled : Spelled a.limit a.mark (place_of a) unreserved a.start (cursor_in w O') operand

  spelt : {j : ℕ} → cursor_in w O' ≡ j → Spellings.Spelt a N' D' r promise v j → Spelt
  spelt c h =
      let g : Spellings.Spelt a N' D' r promise v (cursor_in w O') = rw c h in
      record { operand = g.operand; returns = returned g.returns; spelled = g.spelled }

  pub answered_is_spelled : kind_in O' ≡ operand_number → added_in w O' ≡ 0 → Unerring (place_of a) a.start (cursor_in w O') → Spelt
  answered_is_spelled k d u = go (Answers.total a N' D' r promise)
    where
      go : Answers.Total a N' D' r → Spelt
      go (Answers.Total.operand x o e _) = spelt there.cursor (Spellings.answered_is_spelled a N' D' r promise v x o refl e (sym there.added ∙ d) (rw there.cursor at u))
      go (Answers.Total.no_operand x e n _) = absurd (omega (arith, there.kind, ap Answers.gap_read e))

pub total : (a : Input) (O : List ℕ) → Total a O (exported a O)
unfolding result_at
total a O = go (ltb (length O) (answer_bytes a.layout)) refl
  where
    roomy : (room : answer_bytes a.layout ≤ length O) (q : Result Answer Refusal) → result_at a (refusal a) ≡ q → Answers.Total a (exported a O).nodes (exported a O).diagnostics q → Total a O (exported a O)
    roomy room (Ok x) e (Answers.Total.operand _ o f v) =
        operand v room (number_roomy a O room ∙ v) ((there a O v room).kind ∙ ap (λ k. Answers.gap_of (result_at a k)) (sym v) ∙ ap Answers.gap_of e ∙ ap Answers.gap_read f)
    roomy room (Ok x) e (Answers.Total.no_operand _ f n v) =
        no_operand v room (number_roomy a O room ∙ v) ((there a O v room).kind ∙ ap (λ k. Answers.gap_of (result_at a k)) (sym v) ∙ ap Answers.gap_of e ∙ ap Answers.gap_read f)
    roomy room (Err k) e (Answers.Total.refused _ f known x y) =
        let m = number_roomy a O room in
        refused room m (rw (m, ← f) known) (stays a O (omega (arith, m, f, refuses_bounds known)))

    go : (b : Bool) → ltb (length O) (answer_bytes a.layout) ≡ b → Total a O (exported a O)
    go true e = let less = ltb-true (length O) (answer_bytes a.layout) e in let n = number_short a O less in short less n (stays a O (omega arith))
    go false e =
        let room = ltb-false (length O) (answer_bytes a.layout) e in
        roomy room (result_at a (refusal a)) refl (Answers.total a _ _ _ (entry_kept a O room))

-- a caller that is returned 0 lent a valid input and room for the answer, so that all above holds of its call
pub read_valid : (a : Input) (O : List ℕ) → (exported a O).number ≡ 0 → Valid a × (answer_bytes a.layout ≤ length O)
read_valid a O = go (total a O)
  where
    go : {x : Exported} → Total a O x → x.number ≡ 0 → Valid a × (answer_bytes a.layout ≤ length O)
    go (Total.operand v room n k) e = (v, room)
    go (Total.no_operand v room n k) e = (v, room)
    go (Total.refused room n known h) e = absurd (omega (arith, refuses_bounds known))
    go (Total.short less n h) e = absurd (omega arith)

-- and one that is returned the library's own number lent no room
pub short_only : (a : Input) (O : List ℕ) → (exported a O).number ≡ short_answer → length O < answer_bytes a.layout
short_only a O = go (total a O)
  where
    go : {x : Exported} → Total a O x → x.number ≡ short_answer → length O < answer_bytes a.layout
    go (Total.operand v room n k) e = absurd (omega arith)
    go (Total.no_operand v room n k) e = absurd (omega arith)
    go (Total.refused room n known h) e = absurd (omega (arith, refuses_bounds known))
    go (Total.short less n h) e = less

module _ (a b : Input) (O P : List ℕ) (va : Valid a) (vb : Valid b) (ra : answer_bytes a.layout ≤ length O) (rb : answer_bytes b.layout ≤ length P) (one : a.layout ≡ b.layout) where
  -- two valid inputs of one layout alike from the start through the cursor (one place further where there is no operand: the kind is 1) have the same answer, without
  -- exception
  pub local : AlikeThrough a b (cursor_in a.layout (exported a O).out + kind_in (exported a O).out) → SameBytes a b O P
  local alike =
      let p = there a O va ra in
      let q = there b P vb rb in
      let h = Answers.local a b _ _ _ _ _ _ (promise a O va ra) (promise b P vb rb) va vb one (rw (p.cursor, p.kind) at alike) in
      record {
        number = number_roomy a O ra ∙ va ∙ sym vb ∙ sym (number_roomy b P rb);
        answer = first a O va ra ∙ ap₂ (λ w x. answer_laid w (given w x)) one h.answer ∙ sym (first b P vb rb);
        nodes = rw (p.nodes, q.nodes) h.nodes;
        diagnostics = rw (p.added, q.added) h.diagnostics;
      }

  -- as condition 3 is asked for (operand `Conditions.two_readings`): alike through the cursor, the same but for such a plus at the cursor; alike one token
  -- further, the same without exception
  pub two_calls : (AlikeThrough a b (cursor_in a.layout (exported a O).out + kind_in (exported a O).out) → SameBytesButPlus (place_of a (cursor_in a.layout (exported a O).out)) a b O P)
      × (AlikeThrough a b (cursor_in a.layout (exported a O).out + 1) → SameBytes a b O P)
  two_calls = (
    (λ alike.
        let h = local alike in
        record { number = h.number; answer = h.answer; nodes = h.nodes; diagnostics = λ i. SameButPlus.same (ap (λ D. record_at a.layout D i) h.diagnostics) }),
    λ alike. local (alike_before (omega (arith, (there a O va ra).kind, Answers.gap_small (r a O va ra))) alike),
  )

-- ---- the mark and the limit

-- an input with another mark and limit that has the same outcome gives the same number, and the same bytes in all three stores
same_exported : (a : Input) (m n : ℕ) (O : List ℕ) → outcome a ≡ outcome (with_setting a m n) → exported a O ≡ exported (with_setting a m n) O
unfolding exported
same_exported a m n O e = ap (λ x. pick (ltb (length O) (answer_bytes a.layout)) (told short_answer a.nodes a.diagnostics O) (answered a.layout x O)) e

-- so do marks that agree wherever a token stands
pub marks_same : (a : Input) (n : ℕ) (O : List ℕ) → MarksAgree a n → exported a O ≡ exported (remarked a n) O
marks_same a n O agree = same_exported a n a.limit O (outcome_same a n agree)

-- "one at or past the token count means none": so do any two such marks
pub marks_past : (a : Input) (n : ℕ) (O : List ℕ) → MarksPast a n → exported a O ≡ exported (remarked a n) O
marks_past a n O past = marks_same a n O (marks_agree a n past)

-- "A reading that raises no NestingTooDeep at one limit has the same answer at every higher one" (document 02): where no added record is of that kind
pub higher_limit : (a : Input) (n : ℕ) (O : List ℕ) → Valid a → answer_bytes a.layout ≤ length O → Higher a n
    → NoneTooDeep a.layout (added_records a O) (added_in a.layout (exported a O).out)
    → exported a O ≡ exported (limited a n) O
higher_limit a n O v room high none_deep =
    same_exported a a.mark n O (L.higher_limit a n high (Answers.none_raised a _ _ _ (promise a O v room) v (rw (there a O v room).added at none_deep)))

pub same_in_both : (a b : Input) (O P : List ℕ) → answer_bytes a.layout ≤ length O → answer_bytes b.layout ≤ length P → SameGiven a b → Satisfies a → Satisfies b
    → OneAnswer a b O P
unfolding answered outcome
same_in_both a b O P ra rb g s t =
    let e = Answers.same_in_both a b _ _ _ _ _ _ (entry_kept a O ra) (entry_kept b P rb) g s t in
    record {
      number = number_roomy a O ra ∙ refusal_same a b g s t ∙ sym (number_roomy b P rb);
      answer = result_at a (refusal a);
      answers = (
        ap (λ x. x.out) (exported_is a O ra) ∙ ap (λ x. out_after a.layout x O) (sym (given_at a)),
        ap (λ x. x.out) (exported_is b P rb) ∙ ap (λ x. out_after b.layout x P) (sym (given_at b)) ∙ ap (λ x. out_after b.layout (given b.layout x) P) (sym e),
      );
    }
