-- However an input is cut into parts, the same is written.
-- Assumes nothing.
use Rattle.std.specs.Prelude.{◌≡◌, refl, Bool, true, false, List, [], ◌∷◌, ◌++◌, ℕ, zero, suc, ◌+◌, ◌≤◌, ◌<◌, eqb, ltb, length, take, drop, get_or, set}
use Rattle.std.proofs.Common.{sym, ◌∙◌, ap, append_assoc, append-nil, zero-add, arith, add-one, ltb-true, ltb-false, lt-ltb, le-ltb, ne_eqb, eq-eqb, length-append, length-set, length-drop, take-suc-set}
use Rattle.names.specs.Choice.{pick}
use Rattle.records.specs.Stores.{written}
use Rattle.frames.specs.Frame.{layout_of}
use Rattle.frames.specs.Reply.{answer_line}
use Rattle.frames.specs.Lines.{onto, lines, answer_lines, answers}
use Rattle.frames.specs.Machine.{longest, out_bytes, roomy, State, held_line, fed, held_on, carry_on, kept, step, steps, fresh, last_line}
use Rattle.frames.specs.Program.{Run, drained, program, joined}
use Rattle.records.specs.Written.{length_written, written_take}
use Rattle.frames.specs.Bounds.{progress, last_bound}
use Rattle.frames.specs.Lengths.{answer_bound, long_line_lem}
use Rattle.frames.specs.Cutting.{Holds, whole, long}

-- ---- an unfinished line

longest_some : 0 < longest
unfolding longest
longest_some = omega arith

held_answer : (h : ℕ) (C l : List ℕ) → Holds h C l → held_line h C ≡ answer_line l
unfolding held_line layout_of
held_answer h C l (whole e f g) = rw (le-ltb longest h f, g)
held_answer h C l (long e f g) = rw (lt-ltb longest h (omega arith), g) (sym (long_line_lem l f))

-- the first of a part is the first of the whole
first_of_lem : (h : ℕ) (C l : List ℕ) → 0 < length l → take h C ≡ l → get_or C 0 0 ≡ get_or l 0 0
first_of_lem zero C l n g = absurd (omega (arith, ap length g))
first_of_lem (suc h) [] l n g = absurd (omega (arith, ap length g))
first_of_lem (suc h) (c ∷ C) l n g = rw (← g) refl

-- and stays so with one byte more
first_on : (l : List ℕ) (b : ℕ) → 0 < length l → get_or (l ++ (b ∷ [])) 0 0 ≡ get_or l 0 0
first_on [] b n = absurd (omega arith)
first_on (c ∷ l) b n = refl

holds_on : (h : ℕ) (C l : List ℕ) (b : ℕ) → length C ≡ longest → Holds h C l → Holds (held_on h) (carry_on C h b) (l ++ (b ∷ []))
unfolding held_on carry_on
holds_on h C l b n (whole e f g) = go (ltb h longest) refl
  where
    go : (c : Bool) → ltb h longest ≡ c → Holds (pick c (h + 1) (longest + 1)) (pick c (set C h b) C) (l ++ (b ∷ []))
    go true q =
        let less = ltb-true h longest q in
        whole (simp length-append (omega arith)) (omega arith) (rw add-one (take-suc-set C h b (omega arith) ∙ rw g refl))
    go false q =
        let more = ltb-false h longest q in
        let some_held : 0 < length l = omega (arith, longest_some) in
        long refl (simp length-append (omega arith)) (first_of_lem h C l some_held g ∙ sym (first_on l b some_held))
holds_on h C l b n (long e f g) =
    rw (le-ltb h longest (omega arith)) (long refl (simp length-append (omega arith)) (g ∙ sym (first_on l b (omega (arith, longest_some)))))

-- ---- lines that begin with what is held

before : List ℕ → List (List ℕ) → List (List ℕ)
before [] xs = xs
before (c ∷ l) xs = onto c (before l xs)

before_fed : (l : List ℕ) (xs : List (List ℕ)) → before l ([] ∷ xs) ≡ l ∷ xs
unfolding onto before
before_fed [] xs = refl
before_fed (c ∷ l) xs = ap (onto c) (before_fed l xs)

before_on : (l : List ℕ) (b : ℕ) (xs : List (List ℕ)) → before l (onto b xs) ≡ before (l ++ (b ∷ [])) xs
unfolding before
before_on [] b xs = refl
before_on (c ∷ l) b xs = ap (onto c) (before_on l b xs)

before_end : (c : ℕ) (l : List ℕ) → before (c ∷ l) [] ≡ (c ∷ l) ∷ []
unfolding onto before
before_end c [] = refl
before_end c (d ∷ l) = ap (onto c) (before_end d l)

-- what is still to be written
pending : List ℕ → List ℕ → List ℕ
pending l xs = answer_lines (before l (lines xs))

pending_fed : (l xs : List ℕ) (b : ℕ) → eqb b 10 ≡ true → pending l (b ∷ xs) ≡ answer_line l ++ pending [] xs
unfolding pending lines answer_lines before
pending_fed l xs b e = rw e (ap answer_lines (before_fed l (lines xs)))

pending_on : (l xs : List ℕ) (b : ℕ) → eqb b 10 ≡ false → pending l (b ∷ xs) ≡ pending (l ++ (b ∷ [])) xs
unfolding pending lines
pending_on l xs b e = rw e (ap answer_lines (before_on l b (lines xs)))

-- at the end it is what `finish` writes
pending_end : (h : ℕ) (C l : List ℕ) → Holds h C l → pending l [] ≡ last_line h C
unfolding pending lines answer_lines last_line before longest
pending_end h C [] (whole e f g) = rw (eq-eqb h 0 e) refl
pending_end h C [] (long e f g) = absurd (omega arith)
pending_end h C (c ∷ l) o = rw (before_end c l, append-nil, ne_eqb h 0 (some_held o)) (sym (held_answer h C (c ∷ l) o))
  where
    some_held : Holds h C (c ∷ l) → h ≡ 0 → ⊥
    some_held (whole e f g) z = omega arith
    some_held (long e f g) z = omega arith

-- ---- one call

-- what a call leaves of a state that holds the line l: n bytes of bs are consumed, and what is written and what is still to be written are the same together,
-- whatever follows
record Ran (bs : List ℕ) (s t : State) (l : List ℕ) : Type 0 where
  line : List ℕ
  n : ℕ
  consumed : t.consumed ≡ s.consumed + n
  within : n ≤ length bs
  holds : Holds t.held t.carry line
  carry_long : length t.carry ≡ longest
  out_long : length t.out ≡ out_bytes
  filled_in : t.filled ≤ out_bytes
  says : (more : List ℕ) → take t.filled t.out ++ pending line (drop n bs ++ more) ≡ take s.filled s.out ++ pending l (bs ++ more)

record Fair (s : State) (l : List ℕ) : Type 0 where
  holds : Holds s.held s.carry l
  carry_long : length s.carry ≡ longest
  out_long : length s.out ≡ out_bytes
  filled_in : s.filled ≤ out_bytes

-- a line's answer has room, and stands behind what was filled
answer_room : (s : State) (l : List ℕ) → s.filled ≤ roomy → s.filled + length (answer_line l) ≤ out_bytes
unfolding roomy out_bytes
answer_room s l h = omega (arith, answer_bound l)

last_room : (O : List ℕ) (h : ℕ) (C : List ℕ) → length O ≡ out_bytes → 0 + length (last_line h C) ≤ length O
unfolding out_bytes
last_room O h C w = omega (arith, last_bound h C)

-- no byte
ran_none : (bs : List ℕ) (s : State) (l : List ℕ) → Fair s l → Ran bs s s l
ran_none bs s l f = record {
  line = l;
  n = 0;
  consumed = omega arith;
  within = omega arith;
  holds = f.holds;
  carry_long = f.carry_long;
  out_long = f.out_long;
  filled_in = f.filled_in;
  says = λ more. refl;
}

-- a line feed
fair_fed : (s : State) (l : List ℕ) → s.filled ≤ roomy → Fair s l → Fair (fed s) []
fair_fed s l h f =
    let e = held_answer s.held s.carry l f.holds in
    let room = answer_room s l h in
    record {
      holds = whole refl (omega arith) refl;
      carry_long = f.carry_long;
      out_long = rw e (length_written s.out s.filled (answer_line l) (omega (arith, f.out_long)) ∙ f.out_long);
      filled_in = rw e room;
    }

fed_says : (s : State) (l : List ℕ) (b : ℕ) (xs : List ℕ) → eqb b 10 ≡ true → s.filled ≤ roomy → Fair s l
    → take (fed s).filled (fed s).out ++ pending [] xs ≡ take s.filled s.out ++ pending l (b ∷ xs)
fed_says s l b xs e h f =
    let q = held_answer s.held s.carry l f.holds in
    let room = answer_room s l h in
    rw q
    (ap (λ z. z ++ pending [] xs) (written_take s.out s.filled (answer_line l) (omega (arith, f.out_long)))
    ∙ append_assoc (take s.filled s.out) (answer_line l) (pending [] xs)
    ∙ ap (λ z. take s.filled s.out ++ z) (sym (pending_fed l xs b e)))

-- another byte
fair_kept : (s : State) (l : List ℕ) (b : ℕ) → Fair s l → Fair (kept b s) (l ++ (b ∷ []))
unfolding carry_on
fair_kept s l b f = record {
  holds = holds_on s.held s.carry l b f.carry_long f.holds;
  carry_long = go (ltb s.held longest);
  out_long = f.out_long;
  filled_in = f.filled_in;
}
  where
    go : (c : Bool) → length (pick c (set s.carry s.held b) s.carry) ≡ longest
    go true = length-set s.carry s.held b ∙ f.carry_long
    go false = f.carry_long

-- a byte, and then the rest
ran_more : (b : ℕ) (bs : List ℕ) (s u t : State) (l k : List ℕ) → u.consumed ≡ s.consumed + 1
    → ((xs : List ℕ) → take u.filled u.out ++ pending k xs ≡ take s.filled s.out ++ pending l (b ∷ xs))
    → Ran bs u t k → Ran (b ∷ bs) s t l
ran_more b bs s u t l k c y r = record {
  line = r.line;
  n = suc r.n;
  consumed = omega (arith, r.consumed);
  within = omega (arith, r.within);
  holds = r.holds;
  carry_long = r.carry_long;
  out_long = r.out_long;
  filled_in = r.filled_in;
  says = λ more. r.says more ∙ y (bs ++ more);
}

ran : (bs : List ℕ) (s : State) (l : List ℕ) → Fair s l → Ran bs s (steps bs s) l
unfolding steps step
ran [] s l f = ran_none [] s l f
ran (b ∷ bs) s l f = go (λ u k. ran bs u k) (ltb roomy s.filled) refl
  where
    one : ((u : State) (k : List ℕ) → Fair u k → Ran bs u (steps bs u) k) → s.filled ≤ roomy → (c : Bool) → eqb b 10 ≡ c
        → Ran (b ∷ bs) s (steps bs (pick c (fed s) (kept b s))) l
    one r h true e = ran_more b bs s (fed s) _ l [] refl (λ xs. fed_says s l b xs e h f) (r (fed s) [] (fair_fed s l h f))
    one r h false e =
        ran_more b bs s (kept b s) _ l (l ++ (b ∷ [])) refl
        (λ xs. ap (λ z. take s.filled s.out ++ z) (sym (pending_on l xs b e))) (r (kept b s) (l ++ (b ∷ [])) (fair_kept s l b f))

    go : ((u : State) (k : List ℕ) → Fair u k → Ran bs u (steps bs u) k) → (c : Bool) → ltb roomy s.filled ≡ c → Ran (b ∷ bs) s (pick c s (steps bs (step b s))) l
    go r true e = ran_none (b ∷ bs) s l f
    go r false e = one r (ltb-false roomy s.filled e) (eqb b 10) refl

-- ---- a part of the input, and all of it

record Drained (xs : List ℕ) (r : Run) (l : List ℕ) : Type 0 where
  line : List ℕ
  holds : Holds r.held r.carry line
  carry_long : length r.carry ≡ longest
  out_long : length r.out ≡ out_bytes
  says : (more : List ℕ) → r.said ++ pending line more ≡ pending l (xs ++ more)

drained_none : (h : ℕ) (C O l : List ℕ) → Holds h C l → length C ≡ longest → length O ≡ out_bytes → Drained [] (record { said = []; held = h; carry = C; out = O }) l
drained_none h C O l o c w = record { line = l; holds = o; carry_long = c; out_long = w; says = λ more. refl }

all_drained : (n : ℕ) (xs : List ℕ) (h : ℕ) (C O l : List ℕ) → length xs ≤ n → Holds h C l → length C ≡ longest → length O ≡ out_bytes → Drained xs (drained n xs h C O) l
unfolding drained
all_drained zero [] h C O l e o c w = drained_none h C O l o c w
all_drained zero (b ∷ bs) h C O l e o c w = absurd (omega arith)
all_drained (suc n) [] h C O l e o c w = drained_none h C O l o c w
all_drained (suc n) (b ∷ bs) h C O l e o c w =
    let s = steps (b ∷ bs) (fresh h C O) in
    let r = ran (b ∷ bs) (fresh h C O) l (record { holds = o; carry_long = c; out_long = w; filled_in = omega arith }) in
    let d = all_drained n (drop s.consumed (b ∷ bs)) s.held s.carry s.out r.line (simp length-drop (omega (arith, progress b bs h C O))) r.holds r.carry_long r.out_long in
    record {
      line = d.line;
      holds = d.holds;
      carry_long = d.carry_long;
      out_long = d.out_long;
      says =
          λ more.
          let z : s.consumed ≡ r.n = omega (arith, r.consumed) in
          append_assoc (take s.filled s.out) _ (pending d.line more)
          ∙ ap (λ y. take s.filled s.out ++ y) (d.says more)
          ∙ ap (λ k. take s.filled s.out ++ pending r.line (drop k (b ∷ bs) ++ more)) z
          ∙ r.says more;
    }

from_held : (xs : List (List ℕ)) (h : ℕ) (C O l : List ℕ) → Holds h C l → length C ≡ longest → length O ≡ out_bytes → program xs h C O ≡ pending l (joined xs)
unfolding program joined
from_held [] h C O l o c w =
    ap (λ k. take k (written O 0 (last_line h C))) (sym (zero-add (length (last_line h C))))
    ∙ written_take O 0 (last_line h C) (last_room O h C w)
    ∙ sym (pending_end h C l o)
from_held (x ∷ xs) h C O l o c w =
    let d = all_drained (length x) x h C O l (omega arith) o c w in
    let r = drained (length x) x h C O in
    ap (λ z. r.said ++ z) (from_held xs r.held r.carry r.out d.line d.holds d.carry_long d.out_long) ∙ d.says (joined xs)

-- whatever the stores hold at the beginning
pub cut_anywhere : (xs : List (List ℕ)) (C O : List ℕ) → length C ≡ longest → length O ≡ out_bytes → program xs 0 C O ≡ answers (joined xs)
unfolding answers pending before
cut_anywhere xs C O c w = from_held xs 0 C O [] (whole refl (omega arith) refl) c w
