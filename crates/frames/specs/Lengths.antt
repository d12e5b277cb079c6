-- How long answers are, and that no line longer than the longest frame is one.
-- Assumes nothing.
use Rattle.std.specs.Prelude.{◌≡◌, refl, Bool, true, false, List, [], ◌∷◌, ◌++◌, ℕ, zero, suc, ◌+◌, ◌*◌, ◌≤◌, ◌<◌, length, get_or, Option, Some, None}
use Rattle.std.proofs.Common.{sym, ap, arith, ltb-true, eqb-true, length-append, length-drop}
use Rattle.names.specs.Choice.{pick, both}
use Rattle.names.specs.Laws.{both_first, both_second}
use Rattle.expressions.specs.Reader.{Reading}
use Rattle.expressions.proofs.Costs.{true_false}
use Rattle.operand.specs.RefusalNumbers
use Rattle.operand.specs.Operands.{Operand}
use Rattle.operand.specs.Records.{size_o, size_m, nodes_m}
use Rattle.operand.specs.Forms.{record_of}
use Rattle.operand.specs.declared.layouts.Layout as L
use Rattle.operand.specs.Layouts.{width, number_at, numbers_end, token_size, node_size, diagnostic_size, operand_size, most_tokens, free_records}
use Rattle.operand.specs.Layout as Layout
use Rattle.operand.specs.Entry.{Input, refusal}
use Rattle.operand.proofs.Conditions as Conditions
use Rattle.operand.specs.Lengths.{length_node_bytes, length_laid, length_bytes}
use Rattle.frames.specs.Hex.{digits, value, is_digit, spells, spelled}
use Rattle.layout.specs.Head.{head_size, length_head}
use Rattle.frames.specs.Frame.{longest_frame, layout_of, opening, behind_opening, line_length, token_count, is_frame, input_of}
use Rattle.frames.specs.Reply.{refused, bytes_at, input_bytes, frame_bytes, line_bytes, ended, answer_line}
use Rattle.frames.specs.Machine.{longest}

-- ---- digits

pub length_digits : (bs : List ℕ) → length (digits bs) ≡ 2 * length bs
unfolding digits
length_digits [] = refl
length_digits (b ∷ bs) = omega (arith, length_digits bs)

pub digits_append : (a b : List ℕ) → digits (a ++ b) ≡ digits a ++ digits b
unfolding digits
digits_append [] b = refl
digits_append (x ∷ a) b = rw (digits_append a b)

-- ---- an answer

-- the parts of an answer, in either layout
pub parts_short : (w : L.Layout) (n d : ℕ) → n ≤ most_tokens w → d ≤ free_records w → head_size w + (operand_size w + (node_size w * n + diagnostic_size w * d)) ≤ 51203
unfolding most_tokens free_records
parts_short L.Layout.Narrow n d h g = omega arith
parts_short L.Layout.Wide n d h g = omega arith

answer_short : (w : L.Layout) (r : Reading (Option Operand)) (v : Option Operand) → size_m v ≤ most_tokens w → length r.raised ≤ free_records w → length (Layout.answer_line w r v) ≤ 51203
unfolding Layout.answer_line size_m
answer_short w r (Some x) n d =
    let long = length_head w Layout.operand_number r.cursor (size_o x) (length r.raised) in
    simp length-append
    (omega (arith, long, length_bytes w (record_of x), length_node_bytes w (nodes_m (Some x)) (size_m (Some x)), length_laid w r.raised, parts_short w (size_m (Some x)) (length r.raised) n d))
answer_short w r None n d =
    let long = length_head w Layout.no_operand_number r.cursor 0 (length r.raised) in
    simp length-append (omega (arith, long, length_laid w r.raised, parts_short w 0 (length r.raised) n d))

input_short : (a : Input) → length (input_bytes a) ≤ 51203
unfolding input_bytes bytes_at
input_short a = go (refusal a) refl
  where
    go : (k : ℕ) → refusal a ≡ k → length (bytes_at a k) ≤ 51203
    go zero v =
        let lim = (Conditions.valid_limit a v).0 in
        answer_short a.layout _ _ (omega (arith, Conditions.nodes_bound a lim, Conditions.cursor_bounds a lim v, Conditions.valid_bounds a v)) (Conditions.records_enough a lim v)
    go (suc k) v = omega arith

-- the opening, and the line feed
pub ended_bound : (w : L.Layout) (b : List ℕ) → length (ended w b) ≤ 2 * length b + 2
unfolding ended opening
ended_bound L.Layout.Narrow b = simp length-append (omega (arith, length_digits b))
ended_bound L.Layout.Wide b = simp length-append (omega (arith, length_digits b))

-- 1 + 2 * (7 + 30 + 18,414 + 32,752) + 1
pub answer_bound : (x : List ℕ) → length (answer_line x) ≤ 102408
unfolding answer_line line_bytes frame_bytes
answer_bound x = let w = layout_of x in omega (arith, ended_bound w (line_bytes w (behind_opening w x)), short w (behind_opening w x))
  where
    short : (w : L.Layout) (x : List ℕ) → length (line_bytes w x) ≤ 51203
    short w x = go (spells x) (is_frame w (spelled x))
      where
        go : (b c : Bool) → length (pick b (pick c (input_bytes (input_of w (spelled x))) (refused RefusalNumbers.bad_frame)) (refused RefusalNumbers.bad_frame)) ≤ 51203
        go true true = input_short (input_of w (spelled x))
        go true false = omega arith
        go false c = omega arith

-- ---- a line longer than the longest frame

-- two digits a byte
pub length_spelled : (x : List ℕ) → spells x ≡ true → length x ≡ 2 * length (spelled x)
unfolding spells spelled
length_spelled [] h = refl
length_spelled (c ∷ []) h = absurd (true_false (sym h))
length_spelled (c ∷ d ∷ cs) h = omega (arith, length_spelled cs (both_second (both (is_digit c) (is_digit d)) _ h))

spelled_small : (x : List ℕ) (i : ℕ) → spells x ≡ true → get_or (spelled x) i 0 < 256
unfolding spells spelled
spelled_small [] i h = omega arith
spelled_small (c ∷ []) i h = omega arith
spelled_small (c ∷ d ∷ cs) zero h =
    let p = both_first (both (is_digit c) (is_digit d)) _ h in
    omega (arith, ltb-true (value c) 16 (both_first (is_digit c) (is_digit d) p), ltb-true (value d) 16 (both_second (is_digit c) (is_digit d) p))
spelled_small (c ∷ d ∷ cs) (suc i) h = spelled_small cs i (both_second (both (is_digit c) (is_digit d)) _ h)

-- what bytes spell is less than what their number can be
number_small : (w : L.Layout) (x : List ℕ) (i : ℕ) → spells x ≡ true → number_at w (spelled x) i < numbers_end w
unfolding number_at numbers_end
number_small L.Layout.Narrow x i h = spelled_small x i h
number_small L.Layout.Wide x i h = omega (arith, spelled_small x i h, spelled_small x (i + 1) h)

-- so no frame is longer than the longest
frame_short : (w : L.Layout) (n c : ℕ) → n < numbers_end w → c < numbers_end w → n + token_size w * c + 4 * width w ≤ longest_frame w
unfolding numbers_end longest_frame
frame_short L.Layout.Narrow n c h g = omega arith
frame_short L.Layout.Wide n c h g = omega arith

-- one that has more digits is refused whatever it holds
pub long_refused : (w : L.Layout) (x : List ℕ) → 2 * longest_frame w < length x → line_bytes w x ≡ refused RefusalNumbers.bad_frame
unfolding line_bytes frame_bytes is_frame
long_refused w x h = go (spells x) refl (is_frame w (spelled x)) refl
  where
    go : (b : Bool) → spells x ≡ b → (c : Bool) → is_frame w (spelled x) ≡ c
        → pick b (pick c (input_bytes (input_of w (spelled x))) (refused RefusalNumbers.bad_frame)) (refused RefusalNumbers.bad_frame) ≡ refused RefusalNumbers.bad_frame
    go true e true f =
        let few = frame_short w (line_length w (spelled x)) (token_count w (spelled x)) (number_small w x 0 e) (number_small w x (line_length w (spelled x) + width w) e) in
        absurd (omega (arith, eqb-true (length (spelled x)) _ f, length_spelled x e, few))
    go true e false f = refl
    go false e c f = refl

behind_long : (w : L.Layout) (x : List ℕ) → longest < length x → 2 * longest_frame w < length (behind_opening w x)
unfolding longest longest_frame behind_opening
behind_long L.Layout.Narrow x h = omega arith
behind_long L.Layout.Wide x h = simp length-drop (omega arith)

-- so is a line longer than any, in its own layout
pub long_line_lem : (x : List ℕ) → longest < length x → answer_line x ≡ ended (layout_of x) (refused RefusalNumbers.bad_frame)
unfolding answer_line
long_line_lem x h = let w = layout_of x in ap (ended w) (long_refused w (behind_opening w x) (behind_long w x h))
