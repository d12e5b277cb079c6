-- The bytes of docs/FORMAT.md: how the numbers of a reading are laid out.
-- Assumes nothing.
use Rattle.std.specs.Prelude.{List, [], ◌∷◌, ◌++◌, ℕ, zero, suc, ◌+◌, ◌*◌, ◌%◌, eqb, length, get_or, Option, Some, None}
use Rattle.names.specs.Choice.{pick}
use Rattle.records.specs.Spans.{no_span}
use Rattle.records.specs.Nodes.{absent, zeros, low_first}
use Rattle.records.specs.declared.spans.Span.{Span}
use Rattle.records.specs.declared.diagnostics.Diagnostic.{Diagnostic}
use Rattle.expressions.specs.Reader.{Reading}
use Rattle.operand.specs.Operands.{Operand}
use Rattle.operand.specs.Records.{flag, size_o, size_m, nodes_m}
use Rattle.operand.specs.Layouts.{number}
use Rattle.operand.specs.declared.layouts.Layout.{Layout}
use Rattle.operand.specs.Forms.{record_of}
use Rattle.operand.specs.declared.forms.BaseRegister.{BaseRegister}
use Rattle.operand.specs.declared.forms.OperandRecord.{OperandRecord}
use Rattle.operand.specs.declared.forms.IndexRegister.{IndexRegister}
use Rattle.operand.specs.declared.forms.Sized.{Sized}

-- a byte's number, and an absent register: its low byte
abbrev pub low : ℕ → ℕ
low v = v % 256

-- the first n records of ten numbers each, where f lays out the one that begins at a place
unfoldable pub records_laid : (List ℕ → ℕ → List ℕ) → List ℕ → ℕ → List ℕ
records_laid f M zero = []
records_laid f M (suc n) = records_laid f M n ++ f M (10 * n)

-- ---- nodes

-- four numbers of two bytes
abbrev pub four_words : ℕ → ℕ → ℕ → ℕ → List ℕ
four_words a b c d = low_first 2 a ++ (low_first 2 b ++ (low_first 2 c ++ low_first 2 d))

-- a node's last eight bytes: the value of a number (kind 1), low byte first; else an own span or two registers' spans, and zeros
unfoldable pub last_eight : Layout → ℕ → ℕ → ℕ → ℕ → ℕ → List ℕ
last_eight Layout.Narrow kind a b c d = pick (eqb kind 1) (four_words a b c d) (low a ∷ low b ∷ low c ∷ low d ∷ zeros)
last_eight Layout.Wide kind a b c d = four_words a b c d

-- the record whose ten numbers begin at p: kind, detail, left, right, span, and the last eight
unfoldable pub node_from : Layout → List ℕ → ℕ → List ℕ
node_from w N p =
    low (get_or N p 0) ∷ low (get_or N (p + 1) 0)
    ∷ (number w (get_or N (p + 2) 0) ++ (number w (get_or N (p + 3) 0) ++ (number w (get_or N (p + 4) 0) ++ (number w (get_or N (p + 5) 0)
    ++ last_eight w (get_or N p 0) (get_or N (p + 6) 0) (get_or N (p + 7) 0) (get_or N (p + 8) 0) (get_or N (p + 9) 0)))))

-- the first n records
abbrev pub node_bytes : Layout → List ℕ → ℕ → List ℕ
node_bytes w N n = records_laid (node_from w) N n

-- an operand's, or none
abbrev pub nodes_laid : Layout → Option Operand → List ℕ
nodes_laid w v = node_bytes w (nodes_m v) (size_m v)

-- ---- diagnostics

-- a span, or two registers
abbrev pub span_laid : Layout → Span → List ℕ
span_laid w s = number w s.start ++ number w s.end

-- kind, shape, problem, span, text, related, and whether there is a related one
unfoldable pub diagnostic_laid : Layout → Diagnostic → List ℕ
diagnostic_laid w d =
    low d.kind ∷ low d.shape ∷ low d.problem ∷ (span_laid w d.span ++ (span_laid w d.text ++ (span_laid w d.related ++ (low d.has_related ∷ []))))

unfoldable pub diagnostics_laid : Layout → List Diagnostic → List ℕ
diagnostics_laid w [] = []
diagnostics_laid w (d ∷ ds) = diagnostic_laid w d ++ diagnostics_laid w ds

-- ---- the operand

-- a byte and a span
abbrev pub spanned : Layout → ℕ → Span → List ℕ
spanned w n s = n ∷ span_laid w s

-- the node and the size of a displacement
unfoldable pub sized_part : Layout → Option Sized → List ℕ
sized_part w (Some d) = number w d.node ++ (d.size ∷ [])
sized_part w None = number w absent ++ (0 ∷ [])

-- a base has its span only where it is a register that stands there; a suppressed address register has the number 0 to 7
unfoldable pub base_part : Layout → BaseRegister → List ℕ
base_part w (BaseRegister.Address r) = spanned w r.index r.span
base_part w BaseRegister.ProgramCounter = spanned w 32 no_span
base_part w (BaseRegister.SuppressedAddress n) = spanned w (24 + n % 8) no_span
base_part w BaseRegister.SuppressedProgramCounter = spanned w 33 no_span
base_part w BaseRegister.Omitted = spanned w (low absent) no_span

-- register and its span; size, scale, suppressed, and the whole span
unfoldable pub index_part : Layout → Option IndexRegister → List ℕ
index_part w (Some x) = spanned w x.register.index x.register.span ++ (x.size ∷ x.scale ∷ spanned w (flag x.suppressed) x.span)
index_part w None = spanned w (low absent) no_span ++ (0 ∷ 0 ∷ spanned w 0 no_span)

-- form and span; displacement; base; index; indirection; outer displacement; special register, or 1 for long
unfoldable pub bytes_of : Layout → OperandRecord → List ℕ
bytes_of w r =
    spanned w r.form r.span
    ++ (sized_part w r.displacement ++ (base_part w r.base ++ (index_part w r.index ++ (r.indirection ∷ sized_part w r.outer ++ (r.special ∷ [])))))

abbrev pub operand_record : Layout → Operand → List ℕ
operand_record w x = bytes_of w (record_of x)

-- ---- the program's answer

-- its first byte, by the case: "00 operand or 01 none .. or 02 and the refusal"
abbrev pub operand_number : ℕ
operand_number = 0

abbrev pub no_operand_number : ℕ
no_operand_number = 1

abbrev pub refused_number : ℕ
refused_number = 2

-- an answer's beginning: the case's number, the cursor, the nodes used, the diagnostics (two bytes in both layouts)
unfoldable pub head_laid : Layout → ℕ → ℕ → ℕ → ℕ → List ℕ
head_laid w k cursor n d = k ∷ (number w cursor ++ (number w n ++ low_first 2 d))

-- and the records
unfoldable pub answer_line : Layout → Reading (Option Operand) → Option Operand → List ℕ
answer_line w r (Some x) =
    head_laid w operand_number r.cursor (size_o x) (length r.raised) ++ (operand_record w x ++ (nodes_laid w (Some x) ++ diagnostics_laid w r.raised))
answer_line w r None = head_laid w no_operand_number r.cursor 0 (length r.raised) ++ diagnostics_laid w r.raised
