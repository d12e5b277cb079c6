-- A frame: line length, line, token count, tokens, start, mark, in the layout that its line opens with.
-- Assumes nothing.
use Rattle.std.specs.Prelude.{◌≡◌, refl, Bool, List, [], ◌∷◌, ℕ, ◌+◌, ◌*◌, eqb, length, take, drop, get_or, replicate}
use Rattle.names.specs.Choice.{pick}
use Rattle.operand.specs.declared.layouts.Layout.{Layout}
use Rattle.operand.specs.Layouts.{width, number_at, token_size, node_store}
use Rattle.operand.specs.Entry.{Input}

-- the bytes of the diagnostic records that must be free: 511 of ten, 2,047 of sixteen. Shut, as `node_store` is
unfoldable pub diagnostic_bytes : Layout → ℕ
diagnostic_bytes Layout.Narrow = 5110
diagnostic_bytes Layout.Wide = 32752

-- the bytes of the longest frame: 255 + 4 * 255 + 4, and 65,535 + 6 * 65,535 + 8
unfoldable pub longest_frame : Layout → ℕ
longest_frame Layout.Narrow = 1279
longest_frame Layout.Wide = 458753

-- the nesting limit that the program gives, the Rust's `MAX_NESTING_DEPTH`. Shut too
unfoldable pub max_nesting_depth : ℕ
max_nesting_depth = 64

pub max_nesting_depth_lem : max_nesting_depth ≡ 64
unfolding max_nesting_depth
max_nesting_depth_lem = refl

-- ---- the layout of a line

-- `w`
abbrev pub wide_letter : ℕ
wide_letter = 119

-- the first character alone decides
unfoldable pub layout_of : List ℕ → Layout
layout_of x = pick (eqb (get_or x 0 0) wide_letter) Layout.Wide Layout.Narrow

-- how a line of a layout opens
unfoldable pub opening : Layout → List ℕ
opening Layout.Narrow = []
opening Layout.Wide = wide_letter ∷ []

-- the characters behind that
unfoldable pub behind_opening : Layout → List ℕ → List ℕ
behind_opening Layout.Narrow x = x
behind_opening Layout.Wide x = drop 1 x

-- ---- the bytes that it spells

abbrev pub line_length : Layout → List ℕ → ℕ
line_length w B = number_at w B 0

abbrev pub token_count : Layout → List ℕ → ℕ
token_count w B = number_at w B (line_length w B + width w)

-- the length that the counts give. A count that is not there is 0 here, and gives more bytes than there are
abbrev pub frame_length : Layout → List ℕ → ℕ
frame_length w B = line_length w B + token_size w * token_count w B + 4 * width w

unfoldable pub is_frame : Layout → List ℕ → Bool
is_frame w B = eqb (length B) (frame_length w B)

-- the parts of a frame as the call takes them, with the program's limit, these stores and no diagnostic used
abbrev pub lent : Layout → List ℕ → List ℕ → List ℕ → Input
lent w B N D =
    let n = line_length w B in
    let c = token_size w * token_count w B in
    record {
      layout = w;
      line = take n (drop (width w) B);
      tokens = take c (drop (n + 2 * width w) B);
      start = number_at w B (n + c + 2 * width w);
      mark = number_at w B (n + c + 3 * width w);
      limit = max_nesting_depth;
      nodes = N;
      diagnostics = D;
      used = 0;
    }

-- what the call is lent and given: the parts of the frame, the program's limit, and the stores that its layout asks for, with no diagnostic used
unfoldable pub input_of : Layout → List ℕ → Input
input_of w B = lent w B (replicate (node_store w) 0) (replicate (diagnostic_bytes w) 0)
