-- Document 01's number for each case of the enums that tell what a name, a suffix or a number is, and what their functions promise: the
-- case, and that its number is the text's own. A name's number is its place in a table.
-- Assumes nothing.
use Rattle.std.specs.Prelude.{◌≡◌, Option, Some, None, Result, Ok, Err, List, [], ◌∷◌, Bool, true, ℕ, ◌+◌, ◌*◌, ◌^◌, leb, ltb, drop}
use Prim.Native.String.{String}
use Rattle.names.specs.Choice.{pick, both}
use Rattle.names.specs.Letters.{bytes, lowered, same}
use Rattle.names.specs.Registers.{register_of, special_names, special_of, suppressed_of}
use Rattle.names.specs.Sizes.{size_of}
use Rattle.names.specs.Numbers.{radix_of, width, figure, base_of, number_of}
use Rattle.names.specs.declared.registers.SpecialRegister.{SpecialRegister}
use Rattle.names.specs.declared.registers.SpecialRegister.TheVariants.{Sr, Ccr, Usp, Sfc, Dfc, Vbr, Cacr, Caar, Msp, Isp}
use Rattle.names.specs.declared.registers.Suppressed.{Suppressed}
use Rattle.names.specs.declared.registers.Suppressed.TheVariants.{Register, ProgramCounter}
use Rattle.names.specs.declared.sizes.SizeSuffix.{SizeSuffix}
use Rattle.names.specs.declared.sizes.SizeSuffix.TheVariants.{Byte, Word, Long, Short}
use Rattle.names.specs.declared.numbers.NumberError.{NumberError}

-- ---- the number of each case

-- "Absent node or register: FF"
abbrev pub absent_register : ℕ
absent_register = 255

-- "Registers: mask index 0 to 15"
abbrev pub register_number : Option ℕ → ℕ
register_number (Some r) = r
register_number None = absent_register

-- "special register 1 to 10", and "else 0"
abbrev pub special_number : Option SpecialRegister → ℕ
special_number (Some Sr) = 1
special_number (Some Ccr) = 2
special_number (Some Usp) = 3
special_number (Some Sfc) = 4
special_number (Some Dfc) = 5
special_number (Some Vbr) = 6
special_number (Some Cacr) = 7
special_number (Some Caar) = 8
special_number (Some Msp) = 9
special_number (Some Isp) = 10
special_number None = 0

-- "Sizes: 0 none, 1 to 4 as `SizeSuffix`"
abbrev pub size_number : Option SizeSuffix → ℕ
size_number (Some Byte) = 1
size_number (Some Word) = 2
size_number (Some Long) = 3
size_number (Some Short) = 4
size_number None = 0

-- in the base's place: "suppressed base 18 to 1F hexadecimal; PC 20 .., suppressed 21". A data register is no base
abbrev pub base_number : Option Suppressed → ℕ
base_number (Some (Register r)) = pick (leb 8 r) (16 + r) absent_register
base_number (Some ProgramCounter) = 33
base_number None = absent_register

-- in the index register's place, beside a 1 for suppressed: the mask index. The program counter is no index
abbrev pub index_number : Option Suppressed → ℕ
index_number (Some (Register r)) = r
index_number (Some ProgramCounter) = absent_register
index_number None = absent_register

-- "Values are `token::parse_digits`, else 0"
abbrev pub value_number : Result ℕ NumberError → ℕ
value_number (Ok v) = v
value_number (Err e) = 0

-- ---- the number of a name

-- that of the first word that these letters are, the words counted from n; `other` where they are none of them
unfoldable pub place_in : ℕ → ℕ → List String → List ℕ → ℕ
place_in other n [] letters = other
place_in other n (w ∷ ws) letters = pick (same letters (bytes w)) n (place_in other (n + 1) ws letters)

-- the registers by their numbers, "bit 0 for D0 up to bit 15 for A7"
abbrev pub register_names : List String
register_names =
    "d0" ∷ "d1" ∷ "d2" ∷ "d3" ∷ "d4" ∷ "d5" ∷ "d6" ∷ "d7" ∷ "a0" ∷ "a1" ∷ "a2" ∷ "a3" ∷ "a4" ∷ "a5" ∷ "a6" ∷ "a7" ∷ []

-- "`sp` is A7"
unfoldable pub named_register : List ℕ → ℕ
named_register name = let l = lowered name in pick (same l (bytes "sp")) 15 (place_in absent_register 0 register_names l)

unfoldable pub named_special : List ℕ → ℕ
named_special name = place_in 0 1 special_names (lowered name)

unfoldable pub named_size : List ℕ → ℕ
named_size run = place_in 0 1 ("b" ∷ "w" ∷ "l" ∷ "s" ∷ []) (lowered run)

-- "`z` and a register, or `zpc`", from 18 hexadecimal on
unfoldable pub named_base : List ℕ → ℕ
named_base name =
    let l = lowered name in
    pick (same l (bytes "zpc")) 33
    (pick (same l (bytes "zsp")) 31
    (place_in absent_register 24 ("za0" ∷ "za1" ∷ "za2" ∷ "za3" ∷ "za4" ∷ "za5" ∷ "za6" ∷ "za7" ∷ []) l))

unfoldable pub named_index : List ℕ → ℕ
named_index name =
    let l = lowered name in
    pick (same l (bytes "zsp")) 15
    (place_in absent_register 0
    ("zd0" ∷ "zd1" ∷ "zd2" ∷ "zd3" ∷ "zd4" ∷ "zd5" ∷ "zd6" ∷ "zd7" ∷ "za0" ∷ "za1" ∷ "za2" ∷ "za3" ∷ "za4" ∷ "za5" ∷ "za6" ∷ "za7" ∷ []) l)

-- ---- the value of a number

unfoldable pub all_digits : ℕ → List ℕ → Bool
all_digits radix [] = true
all_digits radix (c ∷ cs) = both (ltb (figure c) radix) (all_digits radix cs)

-- the digits behind a value
unfoldable pub digits_worth : ℕ → ℕ → List ℕ → ℕ
digits_worth radix value [] = value
digits_worth radix value (c ∷ cs) = digits_worth radix (value * radix + figure c) cs

-- what they are worth where all are digits and it fits in 63 bits, else 0
unfoldable pub digits_value : ℕ → List ℕ → ℕ
digits_value radix digits = let v = digits_worth radix 0 digits in pick (both (all_digits radix digits) (ltb v (2 ^ 63))) v 0

-- behind the prefix of a base that is defined
unfoldable pub written_value : ℕ → List ℕ → ℕ
written_value detail text = pick (ltb detail 4) (digits_value (radix_of (base_of detail)) (drop (width (base_of detail)) text)) 0

-- ---- what the functions promise

pub record RegisterTold (name : List ℕ) (r : Option ℕ) : Type 0 where
  pub register : r ≡ register_of name
  pub number : register_number r ≡ named_register name

pub record SpecialTold (name : List ℕ) (r : Option SpecialRegister) : Type 0 where
  pub special : r ≡ special_of name
  pub number : special_number r ≡ named_special name

pub record SizeTold (run : List ℕ) (r : Option SizeSuffix) : Type 0 where
  pub size : r ≡ size_of run
  pub number : size_number r ≡ named_size run

pub record SuppressedTold (name : List ℕ) (r : Option Suppressed) : Type 0 where
  pub suppressed : r ≡ suppressed_of name
  pub base : base_number r ≡ named_base name
  pub index : index_number r ≡ named_index name

pub record NumberTold (detail : ℕ) (text : List ℕ) (r : Result ℕ NumberError) : Type 0 where
  pub number : r ≡ number_of detail text
  pub value : value_number r ≡ written_value detail text
