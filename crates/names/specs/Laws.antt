-- Laws of the choices, and of texts compared.
-- Assumes nothing.
use Rattle.std.specs.Prelude.{◌≡◌, refl, Bool, true, false, ◌&&◌, ◌||◌, List, [], ◌∷◌, ℕ, suc, eqb, length, Some, None}
use Rattle.std.specs.Bool.{then_some}
use Rattle.std.proofs.Common.{sym, ap, eqb-true}
pub use Rattle.std.proofs.lemmas.Bool.{true≢false as true_false}
use Rattle.names.specs.Choice.{pick, both, either}
use Rattle.names.specs.Letters.{same}

pub pick_same : {A : Type 0} (b : Bool) (a : A) → pick b a a ≡ a
pick_same true a = refl
pick_same false a = refl

-- the library's choice of a value or none
pub then_some_pick : {A : Type 0} (b : Bool) (x : A) → then_some b x ≡ pick b (Some x) None
then_some_pick true x = refl
then_some_pick false x = refl

-- ---- both

pub both_true : (b : Bool) → both b true ≡ b
both_true true = refl
both_true false = refl

pub both_false : (b : Bool) → both b false ≡ false
both_false true = refl
both_false false = refl

pub both_assoc : (a b c : Bool) → both (both a b) c ≡ both a (both b c)
both_assoc true b c = refl
both_assoc false b c = refl

-- the code's and
pub and_both : (a b : Bool) → (a && b) ≡ both a b
and_both true b = refl
and_both false b = refl

pub both_first : (a b : Bool) → both a b ≡ true → a ≡ true
both_first true b h = refl
both_first false b h = absurd (true_false (sym h))

pub both_second : (a b : Bool) → both a b ≡ true → b ≡ true
both_second true b h = h
both_second false b h = absurd (true_false (sym h))

-- ---- either

pub either_false : (b : Bool) → either b false ≡ b
either_false true = refl
either_false false = refl

pub either_true : (b : Bool) → either b true ≡ true
either_true true = refl
either_true false = refl

-- the code's or
pub or_either : (a b : Bool) → (a || b) ≡ either a b
or_either true b = refl
or_either false b = refl

pub either_assoc : (a b c : Bool) → either (either a b) c ≡ either a (either b c)
either_assoc true b c = refl
either_assoc false b c = refl

pub either_first : (a b : Bool) → either a b ≡ false → a ≡ false
either_first true b h = h
either_first false b h = refl

pub either_second : (a b : Bool) → either a b ≡ false → b ≡ false
either_second true b h = absurd (true_false h)
either_second false b h = h

-- ---- texts

pub same_true : (x y : List ℕ) → same x y ≡ true → x ≡ y
unfolding same
same_true [] [] h = refl
same_true [] (d ∷ ds) h = absurd (true_false (sym h))
same_true (c ∷ cs) [] h = absurd (true_false (sym h))
same_true (c ∷ cs) (d ∷ ds) h =
    let e = eqb-true c d (both_first (eqb c d) (same cs ds) h) in
    let es = same_true cs ds (both_second (eqb c d) (same cs ds) h) in
    rw (e, es)

-- texts of other lengths differ
pub differ : (s t : List ℕ) → (length s ≡ length t → ⊥) → same s t ≡ false
unfolding same
differ [] [] h = absurd (h refl)
differ [] (d ∷ ds) h = refl
differ (c ∷ cs) [] h = refl
differ (c ∷ cs) (d ∷ ds) h = rw (differ cs ds (λ e. h (ap suc e))) (both_false (eqb c d))
