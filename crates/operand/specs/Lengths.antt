-- How long the records are: a node and a diagnostic have ten numbers, and as many bytes as their layout says.
-- Assumes nothing.
use Rattle.std.specs.Prelude.{◌≡◌, refl, Bool, true, false, List, [], ◌∷◌, ℕ, zero, suc, ◌+◌, ◌*◌, ◌%◌, eqb, length, get_or, Option, Some, None}
use Rattle.std.proofs.Common.{sym, ◌∙◌, ap₂, add_comm, mul-zero, mul-suc, arith, length-append}
use Rattle.names.specs.Choice.{pick}
use Rattle.records.specs.Spans.{no_span}
use Rattle.records.specs.Nodes.{absent, zeros, low_first}
use Rattle.records.specs.declared.spans.Span.{Span}
use Rattle.records.specs.declared.diagnostics.Diagnostic.{Diagnostic}
use Rattle.records.specs.Diagnostics.{diagnostic_record}
use Rattle.expressions.specs.Records as Expressions
use Rattle.operand.specs.Operands.{Displacement, displaced, undisplaced, RegisterListItem, single, range, Operand}
use Rattle.operand.specs.Operands as O
use Rattle.operand.specs.Records.{item_record, item_records, size_d, nodes_d, size_o, nodes_o, size_m, nodes_m, diagnostic_records}
use Rattle.operand.specs.declared.layouts.Layout.{Layout}
use Rattle.operand.specs.Layouts.{width, number, node_size, diagnostic_size, operand_size}
use Rattle.operand.specs.Layout.{low, records_laid, four_words, last_eight, node_from, node_bytes, diagnostic_laid, diagnostics_laid, spanned, sized_part, base_part, index_part, bytes_of}
use Rattle.operand.specs.declared.forms.BaseRegister.{BaseRegister}
use Rattle.operand.specs.declared.forms.OperandRecord.{OperandRecord}
use Rattle.operand.specs.declared.forms.IndexRegister.{IndexRegister}
use Rattle.operand.specs.declared.forms.Sized.{Sized}

length_displacement : (b : ℕ) (d : Displacement) → length (nodes_d b d) ≡ 10 * size_d d
unfolding nodes_d size_d
length_displacement b (displaced e n) = Expressions.length_nodes b e
length_displacement b undisplaced = refl

length_item : (x : RegisterListItem) → length (item_record x) ≡ 10
unfolding item_record
length_item (single r) = refl
length_item (range r q s) = refl

length_items : (xs : List RegisterListItem) → length (item_records xs) ≡ 10 * length xs
unfolding item_records
length_items [] = refl
length_items (x ∷ xs) = simp length-append (omega (arith, length_item x, length_items xs))

length_operand : (x : Operand) → length (nodes_o x) ≡ 10 * size_o x
unfolding nodes_o size_o
length_operand (O.immediate e l s) = Expressions.length_nodes 0 e
length_operand (O.data_register_direct r s) = refl
length_operand (O.address_register_direct r s) = refl
length_operand (O.special_register n s) = refl
length_operand (O.indirect r s) = refl
length_operand (O.postincrement r s) = refl
length_operand (O.predecrement r s) = refl
length_operand (O.displacement e r s) = Expressions.length_nodes 0 e
length_operand (O.index d r x s) = length_displacement 0 d
length_operand (O.pc_displacement e s) = Expressions.length_nodes 0 e
length_operand (O.pc_index d x s) = length_displacement 0 d
length_operand (O.full_index d b x n e s) = simp length-append (omega (arith, length_displacement 0 d, length_displacement (size_d d) e))
length_operand (O.absolute e n s) = Expressions.length_nodes 0 e
length_operand (O.register_list items s) = length_items items

pub length_nodes : (v : Option Operand) → length (nodes_m v) ≡ 10 * size_m v
unfolding nodes_m size_m
length_nodes (Some x) = length_operand x
length_nodes None = refl

pub length_diagnostic : (d : Diagnostic) → length (diagnostic_record d) ≡ 10
unfolding diagnostic_record
length_diagnostic d = refl

pub length_diagnostics : (ds : List Diagnostic) → length (diagnostic_records ds) ≡ 10 * length ds
unfolding diagnostic_records
length_diagnostics [] = refl
length_diagnostics (d ∷ ds) = simp length-append (omega (arith, length_diagnostic d, length_diagnostics ds))

-- ---- bytes

pub length_number : (w : Layout) (v : ℕ) → length (number w v) ≡ width w
unfolding number low_first
length_number Layout.Narrow v = refl
length_number Layout.Wide v = refl

pub length_last : (w : Layout) (kind a b c d : ℕ) → length (last_eight w kind a b c d) ≡ 8
unfolding last_eight low_first
length_last Layout.Narrow kind a b c d = go (eqb kind 1)
  where
    go : (t : Bool) → length (pick t (four_words a b c d) (low a ∷ low b ∷ low c ∷ low d ∷ zeros)) ≡ 8
    go true = refl
    go false = refl
length_last Layout.Wide kind a b c d = refl

pub length_node : (w : Layout) (N : List ℕ) (p : ℕ) → length (node_from w N p) ≡ node_size w
unfolding node_from
length_node w N p =
    let last = length_last w (get_or N p 0) (get_or N (p + 6) 0) (get_or N (p + 7) 0) (get_or N (p + 8) 0) (get_or N (p + 9) 0) in
    simp (length-append, length_number) (go w last)
  where
    go : (w : Layout) {n : ℕ} → n ≡ 8 → suc (suc (width w + (width w + (width w + (width w + n))))) ≡ node_size w
    go Layout.Narrow e = omega arith
    go Layout.Wide e = omega arith

pub length_records : (f : List ℕ → ℕ → List ℕ) (k : ℕ) (M : List ℕ) → ((p : ℕ) → length (f M p) ≡ k) → (n : ℕ) → length (records_laid f M n) ≡ k * n
unfolding records_laid
length_records f k M long zero = sym (mul-zero k)
length_records f k M long (suc n) =
    length-append (records_laid f M n) _ ∙ ap₂ (λ x y. x + y) (length_records f k M long n) (long (10 * n)) ∙ sym (mul-suc k n)

pub length_node_bytes : (w : Layout) (N : List ℕ) (n : ℕ) → length (node_bytes w N n) ≡ node_size w * n
length_node_bytes w N n = length_records (node_from w) (node_size w) N (length_node w N) n

pub length_diagnostic_laid : (w : Layout) (d : Diagnostic) → length (diagnostic_laid w d) ≡ diagnostic_size w
unfolding diagnostic_laid number low_first
length_diagnostic_laid Layout.Narrow d = refl
length_diagnostic_laid Layout.Wide d = refl

pub length_laid : (w : Layout) (ds : List Diagnostic) → length (diagnostics_laid w ds) ≡ diagnostic_size w * length ds
unfolding diagnostics_laid
length_laid w [] = sym (mul-zero (diagnostic_size w))
length_laid w (d ∷ ds) =
    length-append (diagnostic_laid w d) _ ∙ ap₂ (λ x y. y + x) (length_laid w ds) (length_diagnostic_laid w d) ∙ add_comm (diagnostic_size w) _ ∙ sym (mul-suc (diagnostic_size w) (length ds))

-- ---- the operand

length_sized : (w : Layout) (d : Option Sized) → length (sized_part w d) ≡ width w + 1
unfolding sized_part number low_first
length_sized Layout.Narrow (Some d) = refl
length_sized Layout.Narrow None = refl
length_sized Layout.Wide (Some d) = refl
length_sized Layout.Wide None = refl

length_spanned : (w : Layout) (n : ℕ) (s : Span) → length (spanned w n s) ≡ 2 * width w + 1
unfolding number low_first
length_spanned Layout.Narrow n s = refl
length_spanned Layout.Wide n s = refl

length_base : (w : Layout) (b : BaseRegister) → length (base_part w b) ≡ 2 * width w + 1
unfolding base_part
length_base w (BaseRegister.Address r) = length_spanned w r.index r.span
length_base w BaseRegister.ProgramCounter = length_spanned w 32 no_span
length_base w (BaseRegister.SuppressedAddress n) = length_spanned w (24 + n % 8) no_span
length_base w BaseRegister.SuppressedProgramCounter = length_spanned w 33 no_span
length_base w BaseRegister.Omitted = length_spanned w (low absent) no_span

length_index : (w : Layout) (x : Option IndexRegister) → length (index_part w x) ≡ 4 * width w + 4
unfolding index_part number low_first
length_index Layout.Narrow (Some x) = refl
length_index Layout.Narrow None = refl
length_index Layout.Wide (Some x) = refl
length_index Layout.Wide None = refl

pub length_bytes : (w : Layout) (x : OperandRecord) → length (bytes_of w x) ≡ operand_size w
unfolding bytes_of
length_bytes w x =
    simp (length-append, length_number) (go w (length_sized w x.displacement) (length_base w x.base) (length_index w x.index) (length_sized w x.outer))
  where
    go : (w : Layout) {b c d e : ℕ} → b ≡ width w + 1 → c ≡ 2 * width w + 1 → d ≡ 4 * width w + 4 → e ≡ width w + 1
        → suc (width w + width w) + (b + (c + (d + (suc e + 1)))) ≡ operand_size w
    go Layout.Narrow g h i j = omega arith
    go Layout.Wide g h i j = omega arith
