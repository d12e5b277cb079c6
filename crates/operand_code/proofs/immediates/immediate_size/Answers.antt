-- `operand_code::immediates::immediate_size` meets its contract.
-- Assumes nothing.
use mathlib.Core.Path.{◌≡◌}
use native.Mathlib.Omega.{arith}
use Rattle.operand.specs.Records.{flag}
use Rattle.operand_code.proofs.Rooms.{suffix_room}
use Rattle.operand_code.proofs.operands.Returns.{behind_either, immediate_bare, immediate_long, immediate_unknown, immediate_wrong}
use Rattle.operand_code.proofs.immediates.immediate_size.Goals as goal

pub malformed-requires : goal.malformed-requires
malformed-requires c =
    omega (arith, suffix_room _ c.requires c.size_behind-x.ensures.told.told)

pub returns-in-3-clause-told : goal.returns-in-3-clause-told
unfolding flag
returns-in-3-clause-told c =
    let x = c.size_behind-x.ensures.told in
    record { told = λ e n v. behind_either c.args.value x e v (λ a b. absurd (omega (arith, a, c.in-3.is))) (immediate_long e n x.told.held _ c.args.hash _ c.in-3.is c.immediate.ensures) }

pub returns-in-0-clause-told : goal.returns-in-0-clause-told
unfolding flag
returns-in-0-clause-told c =
    let x = c.size_behind-x.ensures.told in
    record { told = λ e n v. behind_either c.args.value x e v (λ a b. immediate_bare e n x.told.held _ c.args.hash c.immediate-in-0.ensures b) (immediate_unknown e n x.told.held _ c.args.hash _ c.in-0.is c.immediate-in-0.ensures) }

pub returns-in_default-clause-told : goal.returns-in_default-clause-told
returns-in_default-clause-told c =
    let x = c.size_behind-x.ensures.told in
    let known : c.size_behind-x.result.size ≡ 0 → ⊥ = search in
    record { told = λ e n v. behind_either c.args.value x e v (λ a b. absurd (known a)) (immediate_wrong e n x.told.held _ c.args.hash _ (search) (search) c.malformed.ensures.told) }
