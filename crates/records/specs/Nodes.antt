-- The ten numbers of a node record, and how numbers are taken apart.
-- Assumes nothing.
use Rattle.std.specs.Prelude.{List, [], ◌∷◌, ℕ, zero, suc, ◌/◌, ◌%◌}
use Rattle.records.specs.declared.nodes.Node.{Node}
use Rattle.records.specs.declared.spans.Span.{Span}

-- n bytes of a number, the low byte first
unfoldable pub low_first : ℕ → ℕ → List ℕ
low_first zero v = []
low_first (suc n) v = v % 256 ∷ low_first n (v / 256)

-- n words of 16 bits of a number, the low word first
unfoldable pub words : ℕ → ℕ → List ℕ
words zero v = []
words (suc n) v = v % 65536 ∷ words n (v / 65536)

-- no node, no register
abbrev pub absent : ℕ
absent = 65535

-- a record: kind, detail, two children or registers, the span, and four words more
abbrev pub node_record : ℕ → ℕ → ℕ → ℕ → Span → List ℕ → List ℕ
node_record kind detail left right s rest = kind ∷ detail ∷ left ∷ right ∷ s.start ∷ s.end ∷ rest

abbrev pub node_numbers : Node → List ℕ
node_numbers x = node_record x.kind x.detail x.left x.right x.span (words 4 x.value)

abbrev pub zeros : List ℕ
zeros = 0 ∷ 0 ∷ 0 ∷ 0 ∷ []

-- a symbol's or a literal's own span
abbrev pub own : Span → List ℕ
own s = s.start ∷ s.end ∷ 0 ∷ 0 ∷ []
