-- Trees that the definition reads: levels, sides, depth, groups and names.
-- Assumes nothing.
use Rattle.std.specs.Prelude.{◌≡◌, refl, Bool, true, false, List, [], ◌∷◌, ◌++◌, ℕ, ◌+◌, eqb, get_or}
use Prim.Native.String.{String}
use Rattle.names.specs.Choice.{both}
use Rattle.names.specs.Kinds
use Rattle.names.specs.Places.{place}
use Rattle.names.specs.Letters.{bytes, same}
use Rattle.expressions.specs.Trees.{Expr, number, character_literal, symbol, current_address, unary, binary, span_e}
use Rattle.expressions.specs.Reader.{run}
use Rattle.expressions.specs.Expressions.{Term, read, reported, absent, parse_expression}
use Rattle.names.specs.Tokens as Names-as-Tokens
use Rattle.names.specs.Places as Names-as-Places
use Rattle.names.specs.Letters as Names-as-Letters
use Rattle.names.specs.Registers as Names-as-Registers
use Rattle.names.specs.Sizes as Names-as-Sizes
use Rattle.names.specs.Numbers as Names-as-Numbers
use Rattle.expressions.specs.Trees as Expressions-as-Trees
use Rattle.expressions.specs.Reader as Expressions-as-Reader
use Rattle.expressions.specs.Expressions as Expressions-as-Expressions

-- a tree of one-digit numbers
unfoldable pub shown : Expr → List ℕ
shown (number b v s) = (48 + v) ∷ []
shown (character_literal q o s) = 39 ∷ []
shown (symbol o s) = 97 ∷ []
shown (current_address s) = 42 ∷ []
shown (unary o e s) = 40 ∷ get_or (bytes "-~") o 0 ∷ (shown e ++ (41 ∷ []))
shown (binary o l r s) = 40 ∷ (shown l ++ (get_or (bytes "+-*/\\&|^<>") o 0 ∷ (shown r ++ (41 ∷ []))))

unfoldable pub own_is : ℕ → ℕ → Expr → Bool
own_is s n (number b v t) = false
own_is s n (character_literal q o t) = both (eqb o.start s) (eqb o.end n)
own_is s n (symbol o t) = both (eqb o.start s) (eqb o.end n)
own_is s n (current_address t) = false
own_is s n (unary o e t) = false
own_is s n (binary o l r t) = false

-- how many terms may be open, a text, its tokens, and the tree in which each operation stands in parentheses; no tree where the text is reported
pub record Example : Type 0 where
  pub limit : ℕ
  pub text : String
  pub tokens : List ℕ
  pub tree : String

unfoldable pub tree_is : String → Term → Bool
tree_is t (read e) = same (shown e) (bytes t)
tree_is t reported = same [] (bytes t)
tree_is t absent = false

unfoldable pub read_as : Example → Bool
read_as x = tree_is x.tree (run (parse_expression x.limit) (place (bytes x.text) x.tokens) 0 0).value

unfoldable pub read_all : List Example → Bool
read_all [] = true
read_all (x ∷ xs) = both (read_as x) (read_all xs)

-- tokens of one byte each, by their kinds, from an offset on
unfoldable pub of_kinds : ℕ → List ℕ → List ℕ
of_kinds at [] = []
of_kinds at (k ∷ ks) = k ∷ 0 ∷ at ∷ (at + 1) ∷ of_kinds (at + 1) ks

abbrev pub nested : ℕ → String → List ℕ → String → Example
nested n t ks tree = record { limit = n; text = t; tokens = of_kinds 0 ks; tree = tree }

abbrev pub example : String → List ℕ → String → Example
example = nested 64

unfoldable pub examples : List Example
examples =
    -- each level against the next
    example "1+2*3" (Kinds.number ∷ Kinds.plus ∷ Kinds.number ∷ Kinds.star ∷ Kinds.number ∷ []) "(1+(2*3))"
    ∷ example "2*3&1" (Kinds.number ∷ Kinds.star ∷ Kinds.number ∷ Kinds.ampersand ∷ Kinds.number ∷ []) "(2*(3&1))"
    ∷ example "-1+~2" (Kinds.minus ∷ Kinds.number ∷ Kinds.plus ∷ Kinds.tilde ∷ Kinds.number ∷ []) "((-1)+(~2))"
    -- left to right
    ∷ example "1-2-3" (Kinds.number ∷ Kinds.minus ∷ Kinds.number ∷ Kinds.minus ∷ Kinds.number ∷ []) "((1-2)-3)"
    ∷ example "1-(2-3)" (Kinds.number ∷ Kinds.minus ∷ Kinds.left_paren ∷ Kinds.number ∷ Kinds.minus ∷ Kinds.number ∷ Kinds.right_paren ∷ []) "(1-(2-3))"
    -- a failed right side keeps the left, and outer levels read on
    ∷ example "1+2*/3" (Kinds.number ∷ Kinds.plus ∷ Kinds.number ∷ Kinds.star ∷ Kinds.slash ∷ Kinds.number ∷ []) "((1+2)/3)"
    -- the depth is tested before the token is looked at: where one term may be open, there is none for a number behind a sign or a parenthesis
    ∷ nested 1 "1" (Kinds.number ∷ []) "1"
    ∷ nested 1 "-1" (Kinds.minus ∷ Kinds.number ∷ []) ""
    ∷ nested 2 "-1" (Kinds.minus ∷ Kinds.number ∷ []) "(-1)"
    ∷ nested 1 "(1)" (Kinds.left_paren ∷ Kinds.number ∷ Kinds.right_paren ∷ []) ""
    ∷ nested 2 "(1)" (Kinds.left_paren ∷ Kinds.number ∷ Kinds.right_paren ∷ []) "1"
    ∷ []

pub read_so : read_all examples ≡ true
unfolding Names-as-Tokens.token_at Names-as-Tokens.detail_defined Names-as-Places.text_of Names-as-Places.placed Names-as-Places.place Names-as-Letters.lower Names-as-Letters.lowered Names-as-Letters.same Names-as-Letters.spelled Names-as-Registers.pair Names-as-Registers.register Names-as-Registers.register_of Names-as-Registers.program_counter Names-as-Registers.named Names-as-Registers.special_of Names-as-Registers.suppressing Names-as-Registers.suppressed Names-as-Registers.suppressed_of Names-as-Registers.one_of Names-as-Registers.reserved Names-as-Sizes.run_of Names-as-Sizes.letter_size Names-as-Sizes.size_of Names-as-Numbers.radix_of Names-as-Numbers.width Names-as-Numbers.figure Names-as-Numbers.scan Names-as-Numbers.digits_of Names-as-Numbers.in_base Names-as-Numbers.base_of Names-as-Numbers.number_of Expressions-as-Trees.span_e Expressions-as-Trees.with_span Expressions-as-Trees.size Expressions-as-Reader.met Expressions-as-Reader.run Expressions-as-Reader.reach Expressions-as-Expressions.known Expressions-as-Expressions.suffix_run Expressions-as-Expressions.take_size_suffix Expressions-as-Expressions.precedence Expressions-as-Expressions.binary_operator Expressions-as-Expressions.operator Expressions-as-Expressions.operated Expressions-as-Expressions.parse_expression_from Expressions-as-Expressions.climbed Expressions-as-Expressions.parse_expression_of Expressions-as-Expressions.is_unary Expressions-as-Expressions.unary_operator Expressions-as-Expressions.negated Expressions-as-Expressions.plussed Expressions-as-Expressions.valued Expressions-as-Expressions.named Expressions-as-Expressions.grouped Expressions-as-Expressions.number_term Expressions-as-Expressions.leaf_term Expressions-as-Expressions.parse_prefix_term Expressions-as-Expressions.too_deep Expressions-as-Expressions.parse_prefix Expressions-as-Expressions.fuel Expressions-as-Expressions.parse_expression Expressions-as-Expressions.expression_from shown own_is tree_is read_as read_all of_kinds examples
read_so = refl

-- a group widens a name's node, and not the name's own span
pub group_widens : Term → Bool
unfolding span_e own_is
group_widens (read e) = both (both (eqb (span_e e).start 0) (eqb (span_e e).end 3)) (own_is 1 2 e)
group_widens reported = false
group_widens absent = false

pub name_kept : group_widens (run (parse_expression 64) (place (bytes "(n)") (of_kinds 0 (Kinds.left_paren ∷ Kinds.identifier ∷ Kinds.right_paren ∷ []))) 0 0).value ≡ true
unfolding group_widens Names-as-Tokens.token_at Names-as-Tokens.detail_defined Names-as-Places.text_of Names-as-Places.placed Names-as-Places.place Names-as-Letters.lower Names-as-Letters.lowered Names-as-Letters.same Names-as-Letters.spelled Names-as-Registers.pair Names-as-Registers.register Names-as-Registers.register_of Names-as-Registers.program_counter Names-as-Registers.named Names-as-Registers.special_of Names-as-Registers.suppressing Names-as-Registers.suppressed Names-as-Registers.suppressed_of Names-as-Registers.one_of Names-as-Registers.reserved Names-as-Sizes.run_of Names-as-Sizes.letter_size Names-as-Sizes.size_of Names-as-Numbers.radix_of Names-as-Numbers.width Names-as-Numbers.figure Names-as-Numbers.scan Names-as-Numbers.digits_of Names-as-Numbers.in_base Names-as-Numbers.base_of Names-as-Numbers.number_of Expressions-as-Trees.span_e Expressions-as-Trees.with_span Expressions-as-Trees.size Expressions-as-Reader.met Expressions-as-Reader.run Expressions-as-Reader.reach Expressions-as-Expressions.known Expressions-as-Expressions.suffix_run Expressions-as-Expressions.take_size_suffix Expressions-as-Expressions.precedence Expressions-as-Expressions.binary_operator Expressions-as-Expressions.operator Expressions-as-Expressions.operated Expressions-as-Expressions.parse_expression_from Expressions-as-Expressions.climbed Expressions-as-Expressions.parse_expression_of Expressions-as-Expressions.is_unary Expressions-as-Expressions.unary_operator Expressions-as-Expressions.negated Expressions-as-Expressions.plussed Expressions-as-Expressions.valued Expressions-as-Expressions.named Expressions-as-Expressions.grouped Expressions-as-Expressions.number_term Expressions-as-Expressions.leaf_term Expressions-as-Expressions.parse_prefix_term Expressions-as-Expressions.too_deep Expressions-as-Expressions.parse_prefix Expressions-as-Expressions.fuel Expressions-as-Expressions.parse_expression Expressions-as-Expressions.expression_from shown own_is tree_is read_as read_all of_kinds examples
name_kept = refl
