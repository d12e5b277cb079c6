-- parse_register_list.
-- Assumes nothing.
use Rattle.std.specs.Prelude.{List, [], ◌∷◌, ◌++◌, ℕ, zero, suc, ltb, Option, Some, None}
use Rattle.names.specs.Kinds
use Rattle.records.specs.Problems
use Rattle.records.specs.Spans.{span, empty, span_of}
use Rattle.records.specs.Diagnostics.{register_expected_in_register_list, register_range_out_of_order}
use Rattle.expressions.specs.declared.reading.Setting.{Setting}
use Rattle.expressions.specs.Reader.{is, any, Reader, answer, here, raise, bump, peek, choose}
use Rattle.expressions.specs.Expressions.{fuel}
use Rattle.operand.specs.Operands.{RegisterListItem, single, range, Operand}
use Rattle.operand.specs.declared.forms.Register.{Register}
use Rattle.operand.specs.Operands as O
use Rattle.operand.specs.Operand.Tries.{◌>>=?◌}
use Rattle.operand.specs.Operand.Lookahead.{a_register, register_from}

-- ---- parse_register_list

-- a register was expected behind the sign: at what stands there instead, or at the end
unfoldable pub register_expected : {A : Type 0} → ℕ → Reader (Option A)
register_expected sign =
    peek 0 any (λ k x. raise (register_expected_in_register_list sign (span_of k)) (answer None)) λ u.
    here λ i l. raise (register_expected_in_register_list sign (empty l)) (answer None)

-- a range that runs backwards is kept
unfoldable pub ranged : Register → Register → Reader (Option RegisterListItem)
ranged r q =
    let z = span r.span.start q.span.end in
    choose (ltb q.index r.index) (raise (register_range_out_of_order r.index q.index z) (answer (Some (range r q z)))) (answer (Some (range r q z)))

-- `register_list_item = register [ "-" register ]`, behind its first register r
unfoldable pub list_item : Register → Reader (Option RegisterListItem)
list_item r =
    bump (is Kinds.minus) (λ minus x. bump a_register (λ k x. ranged r (register_from k x)) λ u. register_expected Problems.after_minus) λ u.
    answer (Some (single r))

-- the list ends where the last token ended
unfoldable pub listed : Setting → List RegisterListItem → Reader (Option Operand)
listed s items = here λ i l. answer (Some (O.register_list items (span s.start l)))

-- `{ "/" register_list_item }` behind an item, with the items before it in their order
unfoldable pub next_item : (List RegisterListItem → Register → Reader (Option Operand)) → Setting → List RegisterListItem → RegisterListItem → Reader (Option Operand)
next_item again s items item =
    bump (is Kinds.slash) (λ slash x. bump a_register (λ k x. again (items ++ (item ∷ [])) (register_from k x)) λ u. register_expected Problems.after_slash) λ u.
    listed s (items ++ (item ∷ []))

-- one turn for each item
unfoldable pub list_loop : ℕ → Setting → List RegisterListItem → Register → Reader (Option Operand)
list_loop zero s items r = listed s (items ++ (single r ∷ []))
list_loop (suc fuel) s items r = list_item r >>=? next_item (list_loop fuel s) s items

-- `register_list = register_list_item { "/" register_list_item }`, behind its first register r
unfoldable pub parse_register_list : Setting → Register → Reader (Option Operand)
parse_register_list s r = list_loop fuel s [] r
