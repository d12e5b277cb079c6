-- Numbers: their bases and their digits.
-- Assumes nothing.
use Rattle.std.specs.Prelude.{Result, Ok, Err, List, [], ◌∷◌, ℕ, ◌+◌, ◌-◌, ◌*◌, ◌^◌, leb, ltb, eqb, drop}
use Rattle.names.specs.Choice.{pick, both}
use Rattle.names.specs.Letters.{lower}
use Rattle.names.specs.declared.numbers.NumberBase.{NumberBase}
use Rattle.names.specs.declared.numbers.NumberBase.TheVariants.{Decimal, Hexadecimal, Binary, Octal}
use Rattle.names.specs.declared.numbers.NumberError.{NumberError}
use Rattle.names.specs.declared.numbers.NumberError.TheVariants.{TooLarge, Invalid}

unfoldable pub radix_of : NumberBase → ℕ
radix_of Decimal = 10
radix_of Hexadecimal = 16
radix_of Binary = 2
radix_of Octal = 8

-- how many bytes its prefix has: nothing, `$`, `%`, `@`
unfoldable pub width : NumberBase → ℕ
width Decimal = 0
width Hexadecimal = 1
width Binary = 1
width Octal = 1

-- a digit's value in any base: 0 (48) to 9 (57), then the letters from a (97) on; 36 for any other byte
unfoldable pub figure : ℕ → ℕ
figure c =
    pick (both (leb 48 c) (leb c 57)) (c - 48)
    (pick (both (leb 97 (lower c)) (leb (lower c) 122)) (lower c - 87) 36)

-- the digits read on from a value. It is too large where all are digits and it does not fit in 63 bits
unfoldable pub scan : ℕ → ℕ → List ℕ → Result ℕ NumberError
scan radix value [] = pick (ltb value (2 ^ 63)) (Ok value) (Err TooLarge)
scan radix value (c ∷ cs) = pick (ltb (figure c) radix) (scan radix (value * radix + figure c) cs) (Err Invalid)

-- `parse_digits`, with what `Parser::number` makes of a failure. Its value is 0 where it has none
unfoldable pub digits_of : NumberBase → List ℕ → Result ℕ NumberError
digits_of base [] = Err Invalid
digits_of base (c ∷ cs) = scan (radix_of base) 0 (c ∷ cs)

unfoldable pub in_base : NumberBase → List ℕ → Result ℕ NumberError
in_base base text = digits_of base (drop (width base) text)

-- the base of a detail below 4, in the order of `NumberBase`
unfoldable pub base_of : ℕ → NumberBase
base_of detail =
    pick (eqb detail 0) Decimal (pick (eqb detail 1) Hexadecimal (pick (eqb detail 2) Binary Octal))

-- there are four bases
unfoldable pub base_from : ℕ → Result NumberBase NumberError
base_from detail = pick (ltb detail 4) (Ok (base_of detail)) (Err Invalid)

-- a number token, by its detail
unfoldable pub number_of : ℕ → List ℕ → Result ℕ NumberError
number_of detail text = pick (ltb detail 4) (in_base (base_of detail) text) (Err Invalid)
