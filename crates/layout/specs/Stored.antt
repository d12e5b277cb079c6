-- A reading's stores, encoded, are the definition's.
-- Assumes nothing.
use Rattle.std.specs.Prelude.{◌≡◌, refl, List, [], ◌∷◌, ◌++◌, ℕ, zero, suc, ◌+◌, ◌-◌, ◌*◌, ◌≤◌, ◌<◌, length, take, drop, get_or, replicate, Option}
use Rattle.std.proofs.Common.{sym, ◌∙◌, ap, ap₂, append_assoc, append-nil, add-zero, mul-add, arith, le-leb, length-append, take-append-drop}
use Rattle.std.proofs.lemmas.List.{length-replicate}
use Rattle.std.proofs.Math.ListN.{get_or-append}
use Rattle.records.specs.declared.diagnostics.Diagnostic.{Diagnostic}
use Rattle.records.specs.Diagnostics.{diagnostic_record}
use Rattle.records.specs.Stores.{written, added}
use Rattle.records.specs.Written.{written_fits, length_written, written_take, written_past}
use Rattle.operand.specs.Operands.{Operand}
use Rattle.operand.specs.Records.{size_m, nodes_m, diagnostic_records}
use Rattle.operand.specs.declared.layouts.Layout.{Layout}
use Rattle.operand.specs.Layouts.{node_size, diagnostic_size, most_tokens, node_store, nodes_within}
use Rattle.operand.specs.Layout.{records_laid, node_from, node_bytes, nodes_laid, diagnostic_laid, diagnostics_laid}
use Rattle.operand.specs.Lengths.{length_nodes, length_node_bytes, length_diagnostic, length_diagnostics, length_laid}
use Rattle.operand.specs.Entry.{nodes_after}
use Rattle.layout.specs.Nodes.{nodes_encoded}
use Rattle.layout.specs.Diagnostics.{diagnostic_from, diagnostics_encoded}

-- ---- nodes

-- what stands behind a record changes nothing of it
node_from_lem : (w : Layout) (M R : List ℕ) (p : ℕ) → p + 10 ≤ length M → node_from w (M ++ R) p ≡ node_from w M p
unfolding node_from
node_from_lem w M R p h =
    let same : (i : ℕ) → i < p + 10 → get_or (M ++ R) i 0 ≡ get_or M i 0 = λ i l. get_or-append M R 0 i (omega arith) in
    simp (same p (omega arith), same (p + 1) (omega arith), same (p + 2) (omega arith), same (p + 3) (omega arith), same (p + 4) (omega arith), same (p + 5) (omega arith), same (p + 6) (omega arith), same (p + 7) (omega arith), same (p + 8) (omega arith), same (p + 9) (omega arith))

nodes_first : (w : Layout) (M R : List ℕ) (n : ℕ) → 10 * n ≤ length M → node_bytes w (M ++ R) n ≡ node_bytes w M n
unfolding records_laid
nodes_first w M R zero h = refl
nodes_first w M R (suc n) h = ap₂ (λ x y. x ++ y) (nodes_first w M R n (omega arith)) (node_from_lem w M R (10 * n) (omega arith))

-- an operand's records, whatever stands behind them
pub nodes_stored : (w : Layout) (v : Option Operand) (R N : List ℕ) → size_m v ≤ most_tokens w → node_store w ≤ length N → nodes_encoded w (nodes_m v ++ R) (size_m v) N ≡ nodes_after w v N
unfolding nodes_encoded nodes_after
nodes_stored w v R N few long =
    let n : ℕ = size_m v in
    let S : ℕ = node_store w in
    let Z : List ℕ = replicate (S - node_size w * n) 0 in
    let B : List ℕ = nodes_laid w v in
    let l : 10 * n ≤ length (nodes_m v ++ R) = simp length-append (omega (arith, length_nodes v)) in
    let e : node_bytes w (nodes_m v ++ R) n ≡ B = nodes_first w (nodes_m v) R n (omega (arith, length_nodes v)) in
    let z : 0 + length (B ++ Z) ≡ S = simp (length-append, length-replicate) (omega (arith, length_node_bytes w (nodes_m v) n, nodes_within w n few)) in
    rw (le-leb n (most_tokens w) few, le-leb (10 * n) (length (nodes_m v ++ R)) l)
    (ap (λ b. written N 0 (b ++ Z)) e
    ∙ written_fits N 0 (B ++ Z) (omega arith)
    ∙ ap (λ k. (B ++ Z) ++ drop k N) z
    ∙ append_assoc B Z (drop S N))

-- ---- diagnostics

-- one record after the other
added_is : (ds : List Diagnostic) (D : List ℕ) (d : ℕ) → 10 * (d + length ds) ≤ length D
    → added D d ds ≡ take (10 * d) D ++ (diagnostic_records ds ++ drop (10 * (d + length ds)) D)
unfolding added diagnostic_records
added_is [] D d h = rw add-zero (sym (take-append-drop (10 * d) D))
added_is (x ∷ ds) D d h =
    let b = diagnostic_record x in
    let D₁ = written D (10 * d) b in
    let l = length_diagnostic x in
    let e₁ : 10 * (d + 1) ≡ 10 * d + length b = omega (arith, l) in
    let e₂ : 10 * (d + 1 + length ds) ≡ 10 * (d + length (x ∷ ds)) = omega arith in
    let k : List ℕ = drop (10 * (d + length (x ∷ ds))) D in
    added_is ds D₁ (d + 1) (omega (arith, length_written D (10 * d) b (omega (arith, l))))
    ∙ ap₂ (λ p q. p ++ (diagnostic_records ds ++ q))
    (ap (λ n. take n D₁) e₁ ∙ written_take D (10 * d) b (omega (arith, l)))
    (ap (λ n. drop n D₁) e₂ ∙ written_past D (10 * d) b (10 * (d + length (x ∷ ds))) (omega (arith, l)) (omega (arith, l)))
    ∙ append_assoc (take (10 * d) D) b (diagnostic_records ds ++ k)
    ∙ ap (λ q. take (10 * d) D ++ q) (sym (append_assoc b (diagnostic_records ds) k))

-- a number behind others
get_d_behind : (M X : List ℕ) (p i : ℕ) → p ≡ length M → get_or (M ++ X) (p + i) 0 ≡ get_or X i 0
get_d_behind [] X p i e = let z : p + i ≡ i = omega arith in rw z refl
get_d_behind (m ∷ M) X p i e =
    let q : ℕ = length M in
    let z : p + i ≡ suc (q + i) = omega arith in
    rw z (get_d_behind M X q i refl)

-- the record of ten numbers that stand behind others
diagnostic_from_lem : (w : Layout) (M : List ℕ) (d : Diagnostic) (R : List ℕ) (p : ℕ) → p ≡ length M → diagnostic_from w (M ++ (diagnostic_record d ++ R)) p ≡ diagnostic_laid w d
unfolding diagnostic_from diagnostic_laid diagnostic_record
diagnostic_from_lem w M d R p e =
    let X : List ℕ = diagnostic_record d ++ R in
    let zero-behind : get_or (M ++ X) p 0 ≡ get_or X 0 0 = ap (λ q. get_or (M ++ X) q 0) (sym (add-zero p)) ∙ get_d_behind M X p 0 e in
    let at : (i : ℕ) → get_or (M ++ X) (p + i) 0 ≡ get_or X i 0 = λ i. get_d_behind M X p i e in
    rw (zero-behind, at 1, at 2, at 3, at 4, at 5, at 6, at 7, at 8, at 9) (simp append_assoc)

-- the records of the first n numbers, and those of the diagnostics behind them
laid_behind : (w : Layout) (ds : List Diagnostic) (M R : List ℕ) (n : ℕ) → length M ≡ 10 * n
    → records_laid (diagnostic_from w) (M ++ (diagnostic_records ds ++ R)) (n + length ds) ≡ records_laid (diagnostic_from w) (M ++ (diagnostic_records ds ++ R)) n ++ diagnostics_laid w ds
unfolding diagnostic_records diagnostics_laid records_laid
laid_behind w [] M R n e = rw add-zero (sym (append-nil _))
laid_behind w (d ∷ ds) M R n e =
    let x = diagnostic_record d in
    let X : List ℕ = M ++ ((x ++ diagnostic_records ds) ++ R) in
    let Y : List ℕ = (M ++ x) ++ (diagnostic_records ds ++ R) in
    let same : X ≡ Y = ap (λ l. M ++ l) (append_assoc x (diagnostic_records ds) R) ∙ sym (append_assoc M x (diagnostic_records ds ++ R)) in
    let k : n + length (d ∷ ds) ≡ suc n + length ds = omega arith in
    ap₂ (λ l j. records_laid (diagnostic_from w) l j) same k
    ∙ laid_behind w ds (M ++ x) R (suc n) (simp length-append (omega (arith, length_diagnostic d)))
    ∙ ap (λ l. records_laid (diagnostic_from w) l (suc n) ++ diagnostics_laid w ds) (sym same)
    ∙ ap (λ l. (records_laid (diagnostic_from w) X n ++ l) ++ diagnostics_laid w ds)
    (ap (λ l. diagnostic_from w (M ++ l) (10 * n)) (append_assoc x (diagnostic_records ds) R) ∙ diagnostic_from_lem w M d (diagnostic_records ds ++ R) (10 * n) (sym e))
    ∙ append_assoc (records_laid (diagnostic_from w) X n) (diagnostic_laid w d) (diagnostics_laid w ds)

-- at the store's front, and laid out behind the used ones
pub diagnostics_stored : (w : Layout) (ds : List Diagnostic) (E D : List ℕ) (used : ℕ) → 10 * length ds ≤ length E → diagnostic_size w * (used + length ds) ≤ length D
    → diagnostics_encoded w (added E 0 ds) (length ds) D used
    ≡ take (diagnostic_size w * used) D ++ (diagnostics_laid w ds ++ drop (diagnostic_size w * (used + length ds)) D)
unfolding diagnostics_encoded records_laid
diagnostics_stored w ds E D used room long =
    let R : List ℕ = drop (10 * (0 + length ds)) E in
    let x : added E 0 ds ≡ diagnostic_records ds ++ R = added_is ds E 0 (omega arith) in
    let l : 10 * length ds ≤ length (diagnostic_records ds ++ R) = simp length-append (omega (arith, length_diagnostics ds)) in
    let u : ℕ = diagnostic_size w * used in
    let all : diagnostic_size w * (used + length ds) ≡ u + diagnostic_size w * length ds = mul-add (diagnostic_size w) used (length ds) in
    let k : u + length (diagnostics_laid w ds) ≡ diagnostic_size w * (used + length ds) = omega (arith, length_laid w ds, all) in
    let z : length ds ≡ 0 + length ds = omega arith in
    let laid : records_laid (diagnostic_from w) (diagnostic_records ds ++ R) (length ds) ≡ diagnostics_laid w ds =
    ap (records_laid (diagnostic_from w) (diagnostic_records ds ++ R)) z ∙ laid_behind w ds [] R 0 refl in
    rw (x, le-leb (10 * length ds) (length (diagnostic_records ds ++ R)) l)
    (ap (written D u) laid
    ∙ written_fits D u (diagnostics_laid w ds) (omega (arith, k))
    ∙ append_assoc (take u D) (diagnostics_laid w ds) _
    ∙ ap (λ n. take u D ++ (diagnostics_laid w ds ++ drop n D)) k)
