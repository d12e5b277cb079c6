-- `operand_code::parentheses::sized_base` meets its contract.
-- Assumes nothing.
use mathlib.Core.Path.{refl, sym, ◌∙◌, ap}
use Prim.Native.Nat.{◌+◌}
use Rattle.std.specs.Prelude.{Some}
use Rattle.names.specs.Kinds
use Rattle.operand.specs.Operands.{displaced}
use Rattle.operand.specs.Operand.{sized_base, over}
use Rattle.expressions.specs.Paths.{hit, seen_kind, unseen_kind}
use Rattle.operand_code.proofs.Rooms.{suffix_room, over_room, room_over}
use Rattle.operand_code.proofs.indexes.Returns.{suffix_taken}
use Rattle.operand_code.proofs.Holdings.{tree_is_lem, kept_sized}
use Rattle.operand_code.proofs.operands.Returns.{behind_size, behind_passed}
use Rattle.operand_code.proofs.parentheses.sized_base.Goals as goal

pub returns-in_default-clause-told : goal.returns-in_default-clause-told
unfolding sized_base over
returns-in_default-clause-told c =
    record { told = λ e n v. unseen_kind Kinds.comma (ap (λ z. z + 1) c.from-at.ensures) (sym c.token_of_kind.ensures ∙ c.in_default.is) (c.unexpected.ensures.told.told _ (displaced e 0)) }

pub parse_full_index-requires : goal.parse_full_index-requires
parse_full_index-requires c =
    let size = suffix_taken _ {c = c.args.out.now.counters} c.requires.1.stands c.requires.1.kind (over_room c.requires.0 c.step_over.ensures) c.suffix_run-x.ensures.told in
    room_over (suffix_room _ c.requires.0 size) c.step_over-2.ensures (behind_passed _ Kinds.comma c.requires.1 size c.from-at.ensures (sym c.token_of_kind.ensures ∙ c.in-Some.is))

pub returns-clause-told : goal.returns-clause-told
unfolding sized_base over
returns-clause-told c =
    let size = suffix_taken _ {c = c.args.out.now.counters} c.requires.1.stands c.requires.1.kind (over_room c.requires.0 c.step_over.ensures) c.suffix_run-x.ensures.told in
    let ahead = sym c.token_of_kind.ensures ∙ c.in-Some.is in
    let comma = behind_passed _ Kinds.comma c.requires.1 size c.from-at.ensures ahead in
    let stepped = over_room (suffix_room _ c.requires.0 size) c.step_over-2.ensures in
    record {
      told = λ e n v. seen_kind Kinds.comma (ap (λ z. z + 1) c.from-at.ensures) ahead
          (behind_size c.args.value size e v
          (hit comma refl stepped
          (kept_sized e _ (c.step_over-2.ensures.nodes ∙ size.held) (c.parse_full_index.ensures.told.told (displaced e _) (tree_is_lem e (size.held ∙ n) (ap Some c.last_tree.ensures))))));
    }
