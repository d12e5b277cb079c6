-- Records written one behind the other.
-- Assumes nothing.
use mathlib.Core.Path.{◌≡◌, refl, sym, ◌∙◌, ap, ap₂}
use mathlib.Core.List.{List, ◌++◌, append_assoc, append-nil}
use Prim.Native.Nat.{ℕ, suc, ◌+◌, ◌-◌, ◌*◌, ◌/◌, ◌≤◌, ◌<◌}
use native.Mathlib.Nat.{mul-suc, mul-add, mul-le-mul_left}
use native.Mathlib.Omega.{arith}
use native.Mathlib.Numerals.{add-one}
use borrow.Author.Tests.{le-leb, lt-leb}
use lib.ListN.{length, take, drop, drop_of_length-le, replicate, length-append, length-take, length-drop, length-replicate, replicate-append-replicate}
use lib.Seq.{drop_at}
use Rattle.records.specs.Nodes.{low_first}
use Rattle.records.specs.Stores.{written, cleared}
use Rattle.records.specs.Written.{written_fits, written_nothing, written_on, written_not, cleared_fits}
use Rattle.operand.specs.declared.layouts.Layout.{Layout}
use Rattle.operand.specs.Layouts.{number, node_size, diagnostic_size, most_tokens, node_store, nodes_within, records_within, records_past}
use Rattle.operand.specs.Layout.{records_laid, node_from, node_bytes}
use Rattle.operand.specs.Lengths.{length_records, length_node_bytes}
use Rattle.names.specs.Laws.{both_false}
use Rattle.layout.specs.Nodes.{head_from, last_from, nodes_encoded}
use Rattle.layout.specs.Diagnostics.{diagnostic_from, diagnostics_encoded}

-- ---- records one behind the other

-- one lies within what n of them take
pub place_within : (k i n : ℕ) → i < n → k * i + k ≤ k * n
place_within k i n h = omega (arith, mul-le-mul_left {m = suc i} {n = n} k h, mul-suc k i)

module _ (f : List ℕ → ℕ → List ℕ) (k : ℕ) (M : List ℕ) (long : (p : ℕ) → length (f M p) ≡ k) (N : List ℕ) (from : ℕ) where
  pub records_none : N ≡ written N from (records_laid f M 0)
  unfolding records_laid
  records_none = sym (written_nothing N from)

  pub records_on : (N₁ N₂ : List ℕ) (i at : ℕ) → at ≡ from + k * i → at + k ≤ length N → N₁ ≡ written N from (records_laid f M i) → N₂ ≡ written N₁ at (f M (10 * i))
      → N₂ ≡ written N from (records_laid f M (i + 1))
  unfolding records_laid
  records_on N₁ N₂ i at place h e g =
      let l = length_records f k M long i in
      written_on N N₁ N₂ from at (records_laid f M i) (f M (10 * i)) e (omega (arith, l)) g (omega (arith, l, long (10 * i)))
      ∙ ap (λ n. written N from (records_laid f M n)) (sym (add-one i))

-- ---- a node

pub node_parts : (w : Layout) (M : List ℕ) (p : ℕ)
    → head_from w M p ++ last_from w M p ≡ node_from w M p
unfolding node_from number low_first
node_parts Layout.Narrow M p = refl
node_parts Layout.Wide M p = refl

-- ---- all nodes

pub cleared_long : (N₁ N₂ : List ℕ) (f i : ℕ) → f ≤ i → i ≤ length N₁ → N₂ ≡ cleared N₁ f i → length N₂ ≡ length N₁
cleared_long N₁ N₂ f i l h e = ap length (e ∙ cleared_fits N₁ f i l h) ∙ simp (length-append, length-take, length-drop, length-replicate) (omega arith)

zeros_written : (N : List ℕ) (f i : ℕ) → f ≤ i → i ≤ length N → cleared N f i ≡ written N f (replicate (i - f) 0)
zeros_written N f i l h =
    let z : List ℕ = replicate (i - f) 0 in
    let end : i ≡ f + length z = omega (arith, length-replicate {A = ℕ} (i - f) 0) in
    cleared_fits N f i l h ∙ ap (λ j. (take f N ++ z) ++ drop j N) end ∙ sym (written_fits N f z (omega arith))

-- what stands from f up to b, cleared in two parts
pub cleared_on : (N N₁ N₂ : List ℕ) (f a b : ℕ) → f ≤ a → a ≤ b → b ≤ length N → N₁ ≡ cleared N f a → N₂ ≡ cleared N₁ a b → N₂ ≡ cleared N f b
cleared_on N N₁ N₂ f a b low l h e g =
    let x : List ℕ = replicate (a - f) 0 in
    let y : List ℕ = replicate (b - a) 0 in
    let first : N₁ ≡ written N f x = e ∙ zeros_written N f a low (omega arith) in
    let long : length N₁ ≡ length N = cleared_long N N₁ f a low (omega arith) e in
    let from : a ≡ f + length x = omega (arith, length-replicate {A = ℕ} (a - f) 0) in
    let all : a - f + (b - a) ≡ b - f = omega arith in
    written_on N N₁ N₂ f a x y first from (g ∙ zeros_written N₁ a b l (omega arith)) (omega (arith, length-replicate {A = ℕ} (a - f) 0, length-replicate {A = ℕ} (b - a) 0))
    ∙ ap (written N f) (replicate-append-replicate (a - f) (b - a) 0 ∙ ap (λ k. replicate k 0) all)
    ∙ sym (zeros_written N f b (omega arith) h)

-- all of it
pub cleared_all : (N N' : List ℕ) → N' ≡ cleared N 0 (length N) → N' ≡ replicate (length N) 0
cleared_all N N' e =
    let n : length N - 0 ≡ length N = omega arith in
    e ∙ cleared_fits N 0 (length N) (omega arith) (omega arith)
    ∙ ap₂ (λ k l. replicate k 0 ++ l) n (drop_of_length-le N (omega arith))
    ∙ append-nil (replicate (length N) 0)

module _ (w : Layout) (M N : List ℕ) where
  -- over zeros
  pub nodes_all : (N₁ N₂ : List ℕ) (n i s : ℕ) → i ≡ n → n ≤ most_tokens w → 10 * n ≤ length M → s ≡ node_store w → s ≤ length N → N₁ ≡ cleared N 0 s
      → N₂ ≡ written N₁ 0 (node_bytes w M i) → N₂ ≡ nodes_encoded w M n N
  unfolding nodes_encoded
  nodes_all N₁ N₂ n i s same few room whole h e f =
      let B : List ℕ = node_bytes w M n in
      let m : ℕ = node_size w * n in
      let S : ℕ = node_store w in
      let K : List ℕ = replicate m 0 in
      let Z : List ℕ = replicate (S - m) 0 in
      let l : length B ≡ m = length_node_bytes w M n in
      let within : m ≤ S = nodes_within w n few in
      let k : 0 + length B ≡ m = omega arith in
      let parts : S - 0 ≡ m + (S - m) = omega arith in
      let z : 0 + length (B ++ Z) ≡ S = simp (length-append, length-replicate) (omega arith) in
      let c : N₁ ≡ K ++ (Z ++ drop S N) =
      e ∙ ap (cleared N 0) whole ∙ cleared_fits N 0 S (omega arith) (omega arith)
      ∙ ap (λ x. x ++ drop S N) (ap (λ j. replicate j 0) parts ∙ sym (replicate-append-replicate m (S - m) 0))
      ∙ append_assoc K Z (drop S N) in
      let long : length N₁ ≡ length N = cleared_long N N₁ 0 s (omega arith) h e in
      f ∙ ap (λ j. written N₁ 0 (node_bytes w M j)) same
      ∙ written_fits N₁ 0 B (omega arith)
      ∙ ap (λ x. B ++ x) (ap (λ j. drop j N₁) k ∙ ap (drop m) c ∙ drop_at K (Z ++ drop S N) m (length-replicate m 0))
      ∙ sym (append_assoc B Z (drop S N))
      ∙ ap (λ j. (B ++ Z) ++ drop j N) (sym z)
      ∙ sym (written_fits N 0 (B ++ Z) (omega (arith, z)))
      ∙ sym (rw (le-leb n (most_tokens w) few, le-leb (10 * n) (length M) room))

  pub nodes_many : (n : ℕ) → most_tokens w < n → N ≡ nodes_encoded w M n N
  unfolding nodes_encoded
  nodes_many n h = rw (lt-leb n (most_tokens w) h)

  pub nodes_missing : (n : ℕ) → length M < 10 * n → N ≡ nodes_encoded w M n N
  unfolding nodes_encoded
  nodes_missing n h = rw (lt-leb (10 * n) (length M) h, both_false)

  pub nodes_short : (n : ℕ) → n ≤ most_tokens w → 10 * n ≤ length M → length N < node_store w → N ≡ nodes_encoded w M n N
  unfolding nodes_encoded
  nodes_short n h g s =
      let z : length (node_bytes w M n ++ replicate (node_store w - node_size w * n) 0) ≡ node_store w =
      simp (length-append, length-replicate) (omega (arith, length_node_bytes w M n, nodes_within w n h)) in
      rw (le-leb n (most_tokens w) h, le-leb (10 * n) (length M) g) (sym (written_not N 0 _ (omega arith)))

-- ---- diagnostics

pub length_diagnostic_from : (w : Layout) (M : List ℕ) (p : ℕ) → length (diagnostic_from w M p) ≡ diagnostic_size w
unfolding diagnostic_from number low_first
length_diagnostic_from Layout.Narrow M p = refl
length_diagnostic_from Layout.Wide M p = refl

module _ (w : Layout) (M : List ℕ) (n : ℕ) (D : List ℕ) (used : ℕ) where
  pub diagnostics_none : n ≡ 0 → D ≡ diagnostics_encoded w M n D used
  unfolding diagnostics_encoded
  diagnostics_none e =
      rw (e, le-leb (10 * 0) (length M) (omega arith))
      (records_none (diagnostic_from w) (diagnostic_size w) M (length_diagnostic_from w M) D (diagnostic_size w * used))

  pub diagnostics_missing : length M < 10 * n → D ≡ diagnostics_encoded w M n D used
  unfolding diagnostics_encoded
  diagnostics_missing h = rw (lt-leb (10 * n) (length M) h)

  -- the used records and the added ones
  pub records_together : (r : ℕ) → r ≡ length D / diagnostic_size w → used + n ≤ r → diagnostic_size w * used + diagnostic_size w * n ≤ length D
  records_together r e h = omega (arith, records_within w (used + n) (length D) (omega arith), mul-add (diagnostic_size w) used n)

  module _ (h : 10 * n ≤ length M) where
    pub diagnostics_short : (r : ℕ) → r ≡ length D / diagnostic_size w → r < used + n → D ≡ diagnostics_encoded w M n D used
    unfolding diagnostics_encoded
    diagnostics_short r e g =
        let l = length_records (diagnostic_from w) (diagnostic_size w) M (length_diagnostic_from w M) n in
        rw (le-leb (10 * n) (length M) h)
        (sym (written_not D (diagnostic_size w * used) _ (omega (arith, l, records_past w (used + n) (length D) (omega arith), mul-add (diagnostic_size w) used n))))

    pub diagnostics_all : (D' : List ℕ) (i : ℕ) → i ≡ n → D' ≡ written D (diagnostic_size w * used) (records_laid (diagnostic_from w) M i) → D' ≡ diagnostics_encoded w M n D used
    unfolding diagnostics_encoded
    diagnostics_all D' i same e =
        e ∙ ap (λ j. written D (diagnostic_size w * used) (records_laid (diagnostic_from w) M j)) same ∙ sym (rw (le-leb (10 * n) (length M) h))
