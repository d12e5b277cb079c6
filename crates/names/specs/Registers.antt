-- What a name spells: a register, the program counter, a special or a suppressed register, a reserved name.
-- Assumes nothing.
use Rattle.std.specs.Prelude.{Bool, false, Option, Some, None, List, [], ◌∷◌, ℕ, ◌+◌, ◌-◌, leb, eqb}
use Prim.Native.String.{String}
use Rattle.names.specs.Choice.{pick, both, either}
use Rattle.names.specs.Letters.{bytes, lowered, same, spelled}
use Rattle.names.specs.declared.registers.SpecialRegister.{SpecialRegister}
use Rattle.names.specs.declared.registers.SpecialRegister.TheVariants.{Sr, Ccr, Usp, Sfc, Dfc, Vbr, Cacr, Caar, Msp, Isp}
use Rattle.names.specs.declared.registers.Suppressed.{Suppressed}
use Rattle.names.specs.declared.registers.Suppressed.TheVariants.{Register, ProgramCounter}

-- two small letters: `sp`, or d (100) or a (97) and a digit from 0 (48) to 7 (55). A register's number is its mask index, 0 to 15
unfoldable pub pair : ℕ → ℕ → Option ℕ
pair bank digit =
    pick (eqb bank 115) (pick (eqb digit 112) (Some 15) None)
    (pick (both (leb 48 digit) (leb digit 55))
    (pick (eqb bank 100) (Some (digit - 48)) (pick (eqb bank 97) (Some (digit - 48 + 8)) None))
    None)

-- the first register of the bank that a small letter stands for
abbrev pub first_of_bank : ℕ → Option ℕ
first_of_bank c = pick (eqb c 100) (Some 0) (pick (eqb c 97) (Some 8) None)

-- `Register::parse` of a name in small letters
unfoldable pub register : List ℕ → Option ℕ
register [] = None
register (c ∷ []) = None
register (c ∷ d ∷ []) = pair c d
register (c ∷ d ∷ e ∷ es) = None

unfoldable pub register_of : List ℕ → Option ℕ
register_of name = register (lowered name)

unfoldable pub program_counter : List ℕ → Bool
program_counter name = spelled (bytes "pc") name

-- what is paired with the first word that these letters are
unfoldable pub named : {A : Type 0} → List (String × A) → List ℕ → Option A
named [] letters = None
named (x ∷ xs) letters = pick (same letters (bytes x.0)) (Some x.1) (named xs letters)

-- the special registers by their names
abbrev pub special_registers : List (String × SpecialRegister)
special_registers =
    ("sr", Sr) ∷ ("ccr", Ccr) ∷ ("usp", Usp) ∷ ("sfc", Sfc) ∷ ("dfc", Dfc) ∷ ("vbr", Vbr) ∷ ("cacr", Cacr) ∷ ("caar", Caar) ∷ ("msp", Msp) ∷ ("isp", Isp) ∷ []

abbrev pub special_names : List String
special_names = "sr" ∷ "ccr" ∷ "usp" ∷ "sfc" ∷ "dfc" ∷ "vbr" ∷ "cacr" ∷ "caar" ∷ "msp" ∷ "isp" ∷ []

-- `SpecialRegister::parse`
unfoldable pub special_of : List ℕ → Option SpecialRegister
special_of name = named special_registers (lowered name)

unfoldable pub suppressing : Option ℕ → Option Suppressed
suppressing (Some r) = Some (Register r)
suppressing None = None

-- `suppressed_register` of a name in small letters: z (122), and `pc` or a register
unfoldable pub suppressed : List ℕ → Option Suppressed
suppressed [] = None
suppressed (c ∷ cs) = pick (eqb c 122) (pick (same cs (bytes "pc")) (Some ProgramCounter) (suppressing (register cs))) None

unfoldable pub suppressed_of : List ℕ → Option Suppressed
suppressed_of name = suppressed (lowered name)

-- the letters are one of the words
unfoldable pub one_of : List String → List ℕ → Bool
one_of [] letters = false
one_of (w ∷ ws) letters = either (same letters (bytes w)) (one_of ws letters)

-- `RESERVED_NAMES`
abbrev pub reserved_names : List String
reserved_names =
    "d0" ∷ "d1" ∷ "d2" ∷ "d3" ∷ "d4" ∷ "d5" ∷ "d6" ∷ "d7" ∷ "a0" ∷ "a1" ∷ "a2" ∷ "a3" ∷ "a4" ∷ "a5" ∷ "a6" ∷ "a7"
    ∷ "sp" ∷ "pc" ∷ "sr" ∷ "ccr" ∷ "usp" ∷ "sfc" ∷ "dfc" ∷ "vbr" ∷ "cacr" ∷ "caar" ∷ "msp" ∷ "isp" ∷ []

unfoldable pub reserved : List ℕ → Bool
reserved name = one_of reserved_names (lowered name)
