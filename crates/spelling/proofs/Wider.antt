-- A spelling stays one where more names may be symbols.
-- Assumes nothing.
use Rattle.std.specs.Prelude.{◌≡◌, Bool, true, not, List, ℕ, Option}
use Rattle.names.specs.Places.{Place}
use Rattle.names.specs.Registers.{reserved}
use Rattle.expressions.specs.Trees.{Expr}
use Rattle.expressions.specs.declared.reading.Setting.{Setting}
use Rattle.operand.specs.Operands.{Displacement, Operand}
use Rattle.operand.specs.declared.forms.Registers.{Registers}
use Rattle.spelling.specs.Signs.{unreserved, ordinary}
use Rattle.spelling.specs.Expressions.{Spells, a_number, a_literal, a_name, a_local, an_address, a_unary, a_group, own_group, tighter, joined}
use Rattle.spelling.specs.Spelling.{Before, Displaced, Opening, Inside, Behind, Spelling, Spelled}
use Rattle.spelling.proofs.Names.{both_first}
use Rattle.operand.specs.declared.forms.IndexRegister.{IndexRegister}

module _ {a b : ℕ → List ℕ → Bool} (more : (i : ℕ) (x : List ℕ) → a i x ≡ true → b i x ≡ true) {at : ℕ → Place} {own : ℕ} where
  wider : {m room i j : ℕ} {e : Expr} → Spells at a own m room i j e → Spells at b own m room i j e
  wider (a_number t w) = a_number t w
  wider (a_literal t) = a_literal t
  wider (a_name {i = i} t q) = a_name t (more i t.text q)
  wider (a_local t) = a_local t
  wider (an_address t) = an_address t
  wider (a_unary t u h) = a_unary t u (wider h)
  wider (a_group low t h c) = a_group low t (wider h) c
  wider (own_group t h c) = own_group t (wider h) c
  wider (tighter h) = tighter (wider h)
  wider (joined h t o g) = joined (wider h) t o (wider g)

  module _ {s : Setting} where
    wider_before : {j : ℕ} {e : Expr} → Before s at a own j e → Before s at b own j e
    wider_before (Before.bare t q h) = Before.bare t q (wider h)
    wider_before (Before.group t h c) = Before.group t (wider h) c

    wider_displaced : {j : ℕ} {e : Expr} → Displaced s at a own j e → Displaced s at b own j e
    wider_displaced (Displaced.before h t) = Displaced.before (wider_before h) t
    wider_displaced (Displaced.inside t h c) = Displaced.inside t (wider h) c

    wider_opening : {j : ℕ} {d : Displacement} → Opening s at a own j d → Opening s at b own j d
    wider_opening (Opening.alone t) = Opening.alone t
    wider_opening (Opening.displacing h) = Opening.displacing (wider_displaced h)

    wider_inside : {i j : ℕ} {d : Displacement} {r : Registers} → Inside s at a own i j d r → Inside s at b own i j d r
    wider_inside Inside.empty = Inside.empty
    wider_inside (Inside.displacement h z) = Inside.displacement (wider h) z
    wider_inside (Inside.both h z c r) = Inside.both (wider h) z c r
    wider_inside (Inside.bases r) = Inside.bases r

    wider_behind : {i j n : ℕ} {x y : Option IndexRegister} {d : Displacement} → Behind s at a own x i j y n d → Behind s at b own x i j y n d
    wider_behind Behind.empty = Behind.empty
    wider_behind (Behind.displacement c h z) = Behind.displacement c (wider h) z
    wider_behind (Behind.index c x) = Behind.index c x
    wider_behind (Behind.both c x k h z) = Behind.both c x k (wider h) z

    wider_spelling : {j : ℕ} {y : Operand} → Spelling s at a own j y → Spelling s at b own j y
    wider_spelling (Spelling.immediate t h) = Spelling.immediate t (wider h)
    wider_spelling (Spelling.immediate_long t h l) = Spelling.immediate_long t (wider h) l
    wider_spelling (Spelling.data_register p q) = Spelling.data_register p q
    wider_spelling (Spelling.address_register p) = Spelling.address_register p
    wider_spelling (Spelling.special_register t q) = Spelling.special_register t q
    wider_spelling (Spelling.indirect t p c) = Spelling.indirect t p c
    wider_spelling (Spelling.postincrement t p c q) = Spelling.postincrement t p c q
    wider_spelling (Spelling.predecrement m t p c) = Spelling.predecrement m t p c
    wider_spelling (Spelling.displacement h p c) = Spelling.displacement (wider_displaced h) p c
    wider_spelling (Spelling.index h p k x q c) = Spelling.index (wider_opening h) p k x q c
    wider_spelling (Spelling.counter_displacement h p c) = Spelling.counter_displacement (wider_displaced h) p c
    wider_spelling (Spelling.counter_index h p k x q c) = Spelling.counter_index (wider_opening h) p k x q c
    wider_spelling (Spelling.suppressed_index h p k x q c) = Spelling.suppressed_index (wider_opening h) p k x q c
    wider_spelling (Spelling.counter_suppressed_index h p k x q c) = Spelling.counter_suppressed_index (wider_opening h) p k x q c
    wider_spelling (Spelling.full t f c) = Spelling.full t f c
    wider_spelling (Spelling.displaced_full t h k f c) = Spelling.displaced_full t (wider h) k f c
    wider_spelling (Spelling.sized_full t h z k r c) = Spelling.sized_full t (wider h) z k r c
    wider_spelling (Spelling.memory_indirect t k h z u c) = Spelling.memory_indirect t k (wider_inside h) z (wider_behind u) c
    wider_spelling (Spelling.absolute h z) = Spelling.absolute (wider h) z
    wider_spelling (Spelling.list h long) = Spelling.list h long

-- a name that is ordinary is not reserved
pub ordinary_unreserved : (mark i : ℕ) (x : List ℕ) → ordinary mark i x ≡ true → unreserved i x ≡ true
unfolding ordinary unreserved
ordinary_unreserved mark i x q = both_first (not (reserved x)) _ q

-- so the spellings that are read without doubt are among those that are found
pub ordinary_spelled : {limit mark : ℕ} {at : ℕ → Place} {i j : ℕ} {y : Operand} → Spelled limit mark at (ordinary mark) i j y → Spelled limit mark at unreserved i j y
ordinary_spelled {mark = mark} h = record { first = h.first; text = h.text; there = h.there; spelling = wider_spelling (ordinary_unreserved mark) h.spelling }
