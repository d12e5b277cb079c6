-- The buyer's conditions, of what the entry returns and writes: they follow from its promise, and from Conditions.antt.
-- Assumes nothing.
use Rattle.std.proofs.Math.Path.{◌≡◌, refl, ap}
use Rattle.std.proofs.Common.{sym, ◌∙◌, ap₂, mul-add, arith, take-append-drop, drop-drop, length-take-le}
use Rattle.std.specs.Prelude.{false, ℕ, zero, suc, ◌+◌, ◌-◌, ◌*◌, ◌≤◌, ◌<◌, eqb, length, take, Option, Some, None, Result, Ok, Err}
use mathlib.Core.List.{List, [], ◌++◌}
use Rattle.std.proofs.Math.Nat.{add-zero, mul-zero}
use Rattle.std.proofs.Math.ListN.{drop, replicate}
use Rattle.std.proofs.Math.Seq.{take_at, drop_at}
use Rattle.names.specs.Kinds
use Rattle.names.specs.Tokens.{count}
use Rattle.names.specs.Places.{Place, nothing, stands, below}
use Rattle.names.specs.declared.tokens.Token.{Token}
use Rattle.expressions.specs.Reader.{Reading, reading}
use Rattle.expressions.specs.Laws.{Every}
use Rattle.expressions.specs.Limits.{NotTooDeep}
use Rattle.operand.specs.Operands.{Operand}
use Rattle.operand.specs.Records.{size_m}
use Rattle.operand.specs.declared.layouts.Layout.{Layout}
use Rattle.operand.specs.Layouts.{number, number_at, number_read, node_size, diagnostic_size, most_tokens, node_store, free_records, nodes_within, numbers_fit}
use Rattle.operand.specs.Layout.{records_laid, nodes_laid, diagnostics_laid}
use Rattle.operand.specs.Widened.{SameGiven, Satisfies}
use Rattle.operand.proofs.Widened.{reading_same, refusal_same}
use Rattle.operand.specs.Entry.{Input, tokens_of, place_of, refusal, reading_at, nodes_after, diagnostics_after, outcome, outcome_of}
use Rattle.layout.specs.Promise.{result_of, result_at, EntryPromise}
use Rattle.operand.specs.Readings.{gap}
use Rattle.operand.proofs.Readings.{ended}
use Rattle.operand.specs.Settings.{with_setting}
use Rattle.operand.proofs.Settings.{outcome_alike}
use Rattle.operand.specs.Marks.{remarked, MarksAgree, MarksPast}
use Rattle.operand.proofs.Marks.{marks_agree, reading_remarked}
use Rattle.operand.proofs.Marks as M
use Rattle.operand.specs.Limits.{limited, Higher, NoneTooDeep}
use Rattle.operand.proofs.Limits.{refusal_limited, reading_limited, none_too_deep}
use Rattle.operand.specs.Conditions.{Valid, Refuses, AlikeThrough, record_at, SameButPlus}
use Rattle.operand.proofs.Conditions.{refusal_number, refuses_numbered, valid_bounds, valid_limit}
use Rattle.operand.proofs.Conditions as C
use Rattle.operand.specs.Lengths.{length_node_bytes, length_laid}
use Rattle.operand.specs.RefusalNumbers
use Rattle.operand.specs.declared.refusals.Refusal.{Refusal}
use Rattle.operand.specs.declared.forms.OperandRecord.{OperandRecord}
use Rattle.layout.specs.declared.answer.Answer.{Answer}

-- ---- what an answer gives; a refusal gives none of these

abbrev pub cursor_of : Result Answer Refusal → ℕ
cursor_of (Ok x) = x.cursor
cursor_of (Err k) = 0

abbrev pub nodes_used : Result Answer Refusal → ℕ
nodes_used (Ok x) = x.nodes
nodes_used (Err k) = 0

abbrev pub diagnostics_added : Result Answer Refusal → ℕ
diagnostics_added (Ok x) = x.diagnostics
diagnostics_added (Err k) = 0

-- how far past the cursor the reading has looked
abbrev pub gap_read : Option OperandRecord → ℕ
gap_read (Some o) = 0
gap_read None = 1

abbrev pub gap_of : Result Answer Refusal → ℕ
gap_of (Ok x) = gap_read x.operand
gap_of (Err k) = 0

-- at most one place
pub gap_small : (r : Result Answer Refusal) → gap_of r ≤ 1
gap_small (Ok x) = go x.operand
  where
    go : (o : Option OperandRecord) → gap_read o ≤ 1
    go (Some o) = omega arith
    go None = omega arith
gap_small (Err k) = omega arith

-- an operand or none where no refusal applies; else the first that does. "It returns its number; all lent bytes stay." Without an operand no node is used
pub data Total (a : Input) (N' D' : List ℕ) : Result Answer Refusal → Type 0 where
  operand : (x : Answer) (o : OperandRecord) → x.operand ≡ Some o → Valid a → Total a N' D' (Ok x)
  no_operand : (x : Answer) → x.operand ≡ None → x.nodes ≡ 0 → Valid a → Total a N' D' (Ok x)
  refused : (k : Refusal) → RefusalNumbers.number k ≡ refusal a → Refuses (RefusalNumbers.number k) → N' ≡ a.nodes → D' ≡ a.diagnostics → Total a N' D' (Err k)

pub answer_valid : {a : Input} {N D : List ℕ} {x : Answer} → Total a N D (Ok x) → Valid a
answer_valid (Total.operand x o e v) = v
answer_valid (Total.no_operand x e n v) = v

-- "Start equal to the count gives no operand and no diagnostic.": all node records are 0, and nothing else moves
pub record AtTheEnd (a : Input) (N' D' : List ℕ) (r : Result Answer Refusal) : Type 0 where
  pub answer : r ≡ Ok (record { operand = None; cursor = a.start; nodes = 0; diagnostics = 0 })
  pub nodes : N' ≡ replicate (node_store a.layout) 0 ++ drop (node_store a.layout) a.nodes
  pub diagnostics : D' ≡ a.diagnostics

-- ---- the answer of a reading

module _ (r : Reading (Option Operand)) where
  cursor_result : (v : Option Operand) → cursor_of (Ok (result_of r v)) ≡ r.cursor
  unfolding result_of
  cursor_result v = refl

  used_result : (v : Option Operand) → nodes_used (Ok (result_of r v)) ≡ size_m v
  unfolding result_of
  used_result v = refl

  added_result : (v : Option Operand) → diagnostics_added (Ok (result_of r v)) ≡ length r.raised
  unfolding result_of
  added_result v = refl

  gap_result : (v : Option Operand) → gap_of (Ok (result_of r v)) ≡ gap v
  unfolding result_of gap
  gap_result (Some x) = refl
  gap_result None = refl

  none_result : (v : Option Operand) (x : Answer) → result_of r v ≡ x → x.operand ≡ None → v ≡ None
  unfolding result_of
  none_result (Some y) x h e = absurd cc
  none_result None x h e = refl

-- ---- of every call that keeps the promise

module _ (a : Input) (N' D' : List ℕ) (r : Result Answer Refusal) (p : EntryPromise a N' D' r) where
  abbrev w : Layout
  w = a.layout

  abbrev s : Reading (Option Operand)
  s = reading_at a

  pub total : Total a N' D' r
  unfolding result_at result_of size_m
  total = go (refusal a) refl p.value
    where
      read : Valid a → (v : Option Operand) → r ≡ Ok (result_of s v) → Total a N' D' r
      read v (Some x) e = rw e (operand _ _ refl v)
      read v None e = rw e (no_operand _ refl refl v)

      go : (k : ℕ) → refusal a ≡ k → r ≡ result_at a k → Total a N' D' r
      go zero e h = read e s.value h
      go (suc k) e h =
          let stays = C.refused_stays a k e in
          let known : Refuses (suc k) = rw e at (refusal_number a (λ z. omega arith)) in
          let n : RefusalNumbers.number (RefusalNumbers.numbered (suc k)) ≡ suc k = refuses_numbered known in
          rw h (refused _ (n ∙ sym e) (rw n known) (p.nodes ∙ ap (λ x. x.nodes) stays) (p.diagnostics ∙ ap (λ x. x.diagnostics) stays))

  module _ (v : Valid a) where
    lim : 1 ≤ a.limit
    lim = (valid_limit a v).0

    value_is : r ≡ Ok (result_of s s.value)
    unfolding result_at
    value_is = p.value ∙ ap (result_at a) v

    nodes_are : N' ≡ nodes_after w s.value a.nodes
    unfolding outcome outcome_of
    nodes_are = p.nodes ∙ ap (λ n. (outcome_of a n).nodes) v

    diagnostics_are : D' ≡ diagnostics_after w s a.used a.diagnostics
    unfolding outcome outcome_of
    diagnostics_are = p.diagnostics ∙ ap (λ n. (outcome_of a n).diagnostics) v

    cursor_is : cursor_of r ≡ s.cursor
    cursor_is = ap cursor_of value_is ∙ cursor_result s s.value

    used_is : nodes_used r ≡ size_m s.value
    used_is = ap nodes_used value_is ∙ used_result s s.value

    added_is : diagnostics_added r ≡ length s.raised
    added_is = ap diagnostics_added value_is ∙ added_result s s.value

    gap_is : gap_of r ≡ gap s.value
    gap_is = ap gap_of value_is ∙ gap_result s s.value

    -- ---- condition 1

    -- the cursor neither goes back nor passes the end
    pub cursor_bounds : (a.start ≤ cursor_of r) × (cursor_of r ≤ count (tokens_of a))
    cursor_bounds = let h = C.cursor_bounds a lim v in (omega (arith, cursor_is), omega (arith, cursor_is))

    -- so it is written whole
    pub cursor_written : number_at w (number w (cursor_of r)) 0 ≡ cursor_of r
    cursor_written = number_read w (cursor_of r) (omega (arith, cursor_bounds, valid_bounds a v, numbers_fit w))

    -- no operand is never silent, unless the start is the end or an Error token stood from there on
    pub never_silent : (k : Token) (x : List ℕ) → place_of a a.start ≡ stands k x
        → ((j : ℕ) (t : Token) (y : List ℕ) → a.start ≤ j → place_of a j ≡ stands t y → eqb t.kind Kinds.error ≡ false)
        → (m : Answer) → r ≡ Ok m → m.operand ≡ None → 0 < m.diagnostics
    never_silent k x there quiet m e f =
        let same : result_of s s.value ≡ m = cc value_is in
        let n = none_result s s.value m same f in
        omega (arith, C.never_silent a lim k x there quiet n, added_is, ap diagnostics_added e)

    -- "A reading adds at most twice its consumed tokens plus one."
    pub diagnostics_bound : diagnostics_added r + 2 * a.start ≤ 2 * cursor_of r + 1
    diagnostics_bound = omega (arith, C.diagnostics_bound a lim, added_is, cursor_is)

    -- so the records that must be free are enough
    pub records_enough : diagnostics_added r ≤ free_records w
    records_enough = omega (arith, C.records_enough a lim v, added_is)

    -- the nodes are at most the consumed tokens
    pub nodes_bound : nodes_used r + a.start ≤ cursor_of r
    nodes_bound = omega (arith, C.nodes_bound a lim, used_is, cursor_is)

    -- so a store of one record a token is enough
    pub nodes_few : nodes_used r ≤ most_tokens w
    nodes_few = omega (arith, nodes_bound, cursor_bounds, valid_bounds a v)

    pub nodes_enough : node_size w * nodes_used r ≤ node_store w
    nodes_enough = nodes_within w (nodes_used r) nodes_few

    -- ---- the diagnostics: the used records, the added ones, and the bytes past them

    -- the bytes of so many records
    abbrev before : ℕ
    before = diagnostic_size w * a.used

    before_long : length (take before a.diagnostics) ≡ before
    before_long = length-take-le before a.diagnostics (C.used_within a v)

    -- earlier diagnostics stand
    pub earlier_stand : take before D' ≡ take before a.diagnostics
    earlier_stand = ap (take before) p.diagnostics ∙ C.earlier_stand a v

    behind : drop before D' ≡ diagnostics_laid w s.raised ++ drop (diagnostic_size w * (a.used + length s.raised)) a.diagnostics
    unfolding diagnostics_after
    behind = ap (drop before) diagnostics_are ∙ drop_at (take before a.diagnostics) _ before before_long

    added_long : length (diagnostics_laid w s.raised) ≡ diagnostic_size w * diagnostics_added r
    added_long = length_laid w s.raised ∙ ap (λ n. diagnostic_size w * n) (sym added_is)

    -- the added ones are the reading's, in their order
    pub added_records_lem : take (diagnostic_size w * diagnostics_added r) (drop before D') ≡ diagnostics_laid w s.raised
    added_records_lem = ap (take (diagnostic_size w * diagnostics_added r)) behind ∙ take_at _ _ (diagnostic_size w * diagnostics_added r) added_long

    -- where no added one is of kind 6, no NestingTooDeep was raised
    pub none_raised : NoneTooDeep w (take (diagnostic_size w * diagnostics_added r) (drop before D')) (diagnostics_added r) → Every NotTooDeep s.raised
    none_raised h = none_too_deep w s.raised (rw (added_records_lem, added_is) at h)

    -- "Bytes past the added records stay."
    pub later_stand : drop (diagnostic_size w * (a.used + diagnostics_added r)) D' ≡ drop (diagnostic_size w * (a.used + diagnostics_added r)) a.diagnostics
    later_stand =
        ap (λ n. drop n D') (mul-add (diagnostic_size w) a.used (diagnostics_added r))
        ∙ sym (drop-drop (diagnostic_size w * diagnostics_added r) before D')
        ∙ ap (drop (diagnostic_size w * diagnostics_added r)) behind
        ∙ drop_at (diagnostics_laid w s.raised) _ (diagnostic_size w * diagnostics_added r) added_long
        ∙ ap (λ n. drop (diagnostic_size w * (a.used + n)) a.diagnostics) (sym added_is)

    -- ---- the nodes: the used records, zeros, and the bytes past the store's last record

    used_long : length (nodes_laid w s.value) ≡ node_size w * nodes_used r
    used_long = length_node_bytes w _ (size_m s.value) ∙ ap (λ n. node_size w * n) (sym used_is)

    -- the used records are the reading's
    pub used_records : take (node_size w * nodes_used r) N' ≡ nodes_laid w s.value
    unfolding nodes_after
    used_records = ap (take (node_size w * nodes_used r)) nodes_are ∙ take_at _ _ (node_size w * nodes_used r) used_long

    -- "Unused node records of the 255 are zero; bytes past 3,570 stay.", and so of the 1,023
    pub unused_zero : drop (node_size w * nodes_used r) N' ≡ replicate (node_store w - node_size w * nodes_used r) 0 ++ drop (node_store w) a.nodes
    unfolding nodes_after
    unused_zero =
        ap (drop (node_size w * nodes_used r)) nodes_are
        ∙ drop_at (nodes_laid w s.value) _ (node_size w * nodes_used r) used_long
        ∙ ap (λ n. replicate (node_store w - node_size w * n) 0 ++ drop (node_store w) a.nodes) (sym used_is)

    -- ---- the end

    pub at_the_end : a.start ≡ count (tokens_of a) → AtTheEnd a N' D' r
    unfolding result_of nodes_after diagnostics_after size_m records_laid diagnostics_laid
    at_the_end e = go (place_of a a.start) refl
      where
        none_read : s ≡ reading a.start 0 [] None → AtTheEnd a N' D' r
        none_read q = record {
          answer = value_is ∙ ap (λ (t : Reading (Option Operand)). Ok (result_of t t.value)) q;
          nodes =
              let z : node_store w - node_size w * 0 ≡ node_store w = omega (arith, mul-zero (node_size w)) in
              nodes_are ∙ ap (λ (t : Reading (Option Operand)). nodes_after w t.value a.nodes) q ∙ ap (λ n. replicate n 0 ++ drop (node_store w) a.nodes) z;
          diagnostics = diagnostics_are ∙ ap (λ (t : Reading (Option Operand)). diagnostics_after w t a.used a.diagnostics) q ∙ rw add-zero (take-append-drop before a.diagnostics);
        }

        go : (x : Place) → place_of a a.start ≡ x → AtTheEnd a N' D' r
        go nothing q = none_read (ended a.limit a.mark (place_of a) a.start q)
        go (stands k x) q = absurd (omega (arith, below a.line (tokens_of a) a.start k x q))

-- ---- condition 3

-- the bytes of the added diagnostics
abbrev pub added_in : Input → List ℕ → Result Answer Refusal → List ℕ
added_in a D' r = take (diagnostic_size a.layout * diagnostics_added r) (drop (diagnostic_size a.layout * a.used) D')

-- "Answers are the same if both have an operand, with the same record, or both have none; the cursor is the same; as many nodes are used, with the same
-- records; and as many diagnostics are added, the same records in the same order." The first line is all but the records in the stores; the mask is the same too
pub record SameOutcome (a b : Input) (N' D' N'' D'' : List ℕ) (r q : Result Answer Refusal) : Type 0 where
  pub answer : r ≡ q
  pub nodes : take (node_size a.layout * nodes_used r) N' ≡ take (node_size b.layout * nodes_used q) N''
  pub diagnostics : added_in a D' r ≡ added_in b D'' q

-- two valid inputs that are read alike give the same answer, in whichever layouts: all but the records in the stores
read_alike : (a b : Input) (N' D' N'' D'' : List ℕ) (r q : Result Answer Refusal) → EntryPromise a N' D' r → EntryPromise b N'' D'' q → Valid a → Valid b → reading_at a ≡ reading_at b → r ≡ q
read_alike a b N' D' N'' D'' r q p h va vb e =
    value_is a N' D' r p va ∙ ap (λ (t : Reading (Option Operand)). Ok (result_of t t.value)) e ∙ sym (value_is b N'' D'' q h vb)

-- two valid inputs of one layout alike from the start through the cursor (one place further where there is no operand) have the same answer, without exception
pub local : (a b : Input) (N' D' N'' D'' : List ℕ) (r q : Result Answer Refusal) → EntryPromise a N' D' r → EntryPromise b N'' D'' q → Valid a → Valid b
    → a.layout ≡ b.layout → AlikeThrough a b (cursor_of r + gap_of r) → SameOutcome a b N' D' N'' D'' r q
local a b N' D' N'' D'' r q p h va vb one alike =
    let e = C.same_reading a b (lim a N' D' r p va) (record { start = alike.start; mark = alike.mark; limit = alike.limit; places = λ j x y. alike.places j x (omega (arith, cursor_is a N' D' r p va, gap_is a N' D' r p va)) }) in
    record {
      answer = read_alike a b N' D' N'' D'' r q p h va vb e;
      nodes = used_records a N' D' r p va ∙ ap₂ (λ w (t : Reading (Option Operand)). nodes_laid w t.value) one e ∙ sym (used_records b N'' D'' q h vb);
      diagnostics = added_records_lem a N' D' r p va ∙ ap₂ (λ w (t : Reading (Option Operand)). diagnostics_laid w t.raised) one e ∙ sym (added_records_lem b N'' D'' q h vb);
    }

-- but for a kind 13 with its plus at this place, which is the same in all but its kind
pub record SameOutcomeButPlus (x : Place) (a b : Input) (N' D' N'' D'' : List ℕ) (r q : Result Answer Refusal) : Type 0 where
  pub answer : r ≡ q
  pub nodes : take (node_size a.layout * nodes_used r) N' ≡ take (node_size b.layout * nodes_used q) N''
  pub diagnostics : (i : ℕ) → SameButPlus a.layout x (record_at a.layout (added_in a D' r) i) (record_at a.layout (added_in b D'' q) i)

-- condition 3 as it is asked for (operand `Conditions.two_readings`): alike through the cursor, the same but for such a plus at the cursor; alike one token
-- further, the same without exception
pub two_calls : (a b : Input) (N' D' N'' D'' : List ℕ) (r q : Result Answer Refusal) → EntryPromise a N' D' r → EntryPromise b N'' D'' q → Valid a → Valid b
    → a.layout ≡ b.layout → (AlikeThrough a b (cursor_of r + gap_of r) → SameOutcomeButPlus (place_of a (cursor_of r)) a b N' D' N'' D'' r q)
    × (AlikeThrough a b (cursor_of r + 1) → SameOutcome a b N' D' N'' D'' r q)
two_calls a b N' D' N'' D'' r q p h va vb one = (
  (λ alike.
      let s = local a b N' D' N'' D'' r q p h va vb one alike in
      record { answer = s.answer; nodes = s.nodes; diagnostics = λ i. SameButPlus.same (ap (λ D. record_at a.layout D i) s.diagnostics) }),
  λ alike. local a b N' D' N'' D'' r q p h va vb one (C.alike_before (omega (arith, gap_small r)) alike),
)

-- ---- the mark and the limit

-- the same answer, and the same bytes in both stores
pub record SameCall (N' D' N'' D'' : List ℕ) (r q : Result Answer Refusal) : Type 0 where
  pub answer : r ≡ q
  pub nodes : N' ≡ N''
  pub diagnostics : D' ≡ D''

-- of two calls that differ in mark and limit alone, refused alike and read alike
same_call : (a : Input) (m n : ℕ) (N' D' N'' D'' : List ℕ) (r q : Result Answer Refusal) → EntryPromise a N' D' r → EntryPromise (with_setting a m n) N'' D'' q
    → refusal a ≡ refusal (with_setting a m n) → reading_at a ≡ reading_at (with_setting a m n) → SameCall N' D' N'' D'' r q
unfolding result_at
same_call a m n N' D' N'' D'' r q p h e f =
    let o = outcome_alike a m n e f in
    record {
      answer = p.value ∙ result (refusal a) ∙ ap (result_at (with_setting a m n)) e ∙ sym h.value;
      nodes = p.nodes ∙ ap (λ x. x.nodes) o ∙ sym h.nodes;
      diagnostics = p.diagnostics ∙ ap (λ x. x.diagnostics) o ∙ sym h.diagnostics;
    }
  where
    result : (k : ℕ) → result_at a k ≡ result_at (with_setting a m n) k
    result zero = ap (λ (t : Reading (Option Operand)). Ok (result_of t t.value)) f
    result (suc k) = refl

-- of two calls that differ in their marks alone, where these agree wherever a token stands
pub marks_same : (a : Input) (n : ℕ) (N' D' N'' D'' : List ℕ) (r q : Result Answer Refusal) → EntryPromise a N' D' r → EntryPromise (remarked a n) N'' D'' q
    → MarksAgree a n → SameCall N' D' N'' D'' r q
marks_same a n N' D' N'' D'' r q p h agree = same_call a n a.limit N' D' N'' D'' r q p h (M.refusal_same a n) (reading_remarked a n agree)

-- "one at or past the token count means none": of any two such marks
pub marks_past : (a : Input) (n : ℕ) (N' D' N'' D'' : List ℕ) (r q : Result Answer Refusal) → EntryPromise a N' D' r → EntryPromise (remarked a n) N'' D'' q
    → MarksPast a n → SameCall N' D' N'' D'' r q
marks_past a n N' D' N'' D'' r q p h past = marks_same a n N' D' N'' D'' r q p h (marks_agree a n past)

-- "A reading that raises no NestingTooDeep at one limit has the same answer at every higher one" (document 02): of two calls that differ in their limits alone,
-- where no added record is of that kind
pub higher_limit : (a : Input) (n : ℕ) (N' D' N'' D'' : List ℕ) (r q : Result Answer Refusal) → EntryPromise a N' D' r → EntryPromise (limited a n) N'' D'' q
    → Valid a → Higher a n → NoneTooDeep a.layout (added_in a D' r) (diagnostics_added r) → SameCall N' D' N'' D'' r q
higher_limit a n N' D' N'' D'' r q p h v high none_deep =
    same_call a a.mark n N' D' N'' D'' r q p h (refusal_limited a n high) (reading_limited a n high (none_raised a N' D' r p v none_deep))

-- ---- both layouts

-- "A line that satisfies both has the same answer in both, layout and refusal 20 aside" (document 02): of two calls with the same line, tokens, start, mark and
-- limit, in whichever layouts, each of which satisfies its own. Both have the same operand, cursor, counts and mask, or the same refusal
pub same_in_both : (a b : Input) (N' D' N'' D'' : List ℕ) (r q : Result Answer Refusal) → EntryPromise a N' D' r → EntryPromise b N'' D'' q → SameGiven a b → Satisfies a → Satisfies b → r ≡ q
unfolding result_at
same_in_both a b N' D' N'' D'' r q p h given s t = p.value ∙ result (refusal a) ∙ ap (result_at b) (refusal_same a b given s t) ∙ sym h.value
  where
    result : (k : ℕ) → result_at a k ≡ result_at b k
    result zero = ap (λ (x : Reading (Option Operand)). Ok (result_of x x.value)) (reading_same a b given)
    result (suc k) = refl

-- and where they are read, the records in the stores are those of one reading, each in its layout
pub record OneReading (a b : Input) (N' D' N'' D'' : List ℕ) (r q : Result Answer Refusal) : Type 0 where
  pub reading : Reading (Option Operand)
  pub nodes : (take (node_size a.layout * nodes_used r) N' ≡ nodes_laid a.layout reading.value) × (take (node_size b.layout * nodes_used q) N'' ≡ nodes_laid b.layout reading.value)
  pub diagnostics : (added_in a D' r ≡ diagnostics_laid a.layout reading.raised) × (added_in b D'' q ≡ diagnostics_laid b.layout reading.raised)

pub one_reading : (a b : Input) (N' D' N'' D'' : List ℕ) (r q : Result Answer Refusal) → EntryPromise a N' D' r → EntryPromise b N'' D'' q → Valid a → Valid b → SameGiven a b
    → OneReading a b N' D' N'' D'' r q
one_reading a b N' D' N'' D'' r q p h va vb given =
    let e = reading_same a b given in
    record {
      reading = reading_at a;
      nodes = (used_records a N' D' r p va, used_records b N'' D'' q h vb ∙ ap (λ (x : Reading (Option Operand)). nodes_laid b.layout x.value) (sym e));
      diagnostics = (added_records_lem a N' D' r p va, added_records_lem b N'' D'' q h vb ∙ ap (λ (x : Reading (Option Operand)). diagnostics_laid b.layout x.raised) (sym e));
    }
