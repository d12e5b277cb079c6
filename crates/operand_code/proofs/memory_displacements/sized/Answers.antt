-- `operand_code::memory_displacements::sized` meets its contract.
-- Assumes nothing.
use mathlib.Core.Path.{refl}
use Rattle.operand.specs.Operand.{sized}
use Rattle.expressions.specs.Paths.{bound}
use Rattle.operand_code.proofs.Next.{by_size}
use Rattle.operand_code.proofs.memory.Inners.{sized_told}
use Rattle.operand_code.proofs.memory_displacements.sized.Goals as goal

pub returns-clause-told : goal.returns-clause-told
unfolding sized
returns-clause-told c =
    let x = c.size_behind-x.ensures.told in
    record { told = λ N N' n e st. rw c.last_tree.ensures (by_size x (λ m a b. bound x.told m (sized_told e _ st x.told.held a)) (λ m. bound x.told m (sized_told e _ st x.told.held refl))) }
