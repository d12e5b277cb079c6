-- `layout::store::clear` meets its contract.
-- Assumes nothing.
use Rattle.std.proofs.Common.{refl, arith}
use Rattle.records.specs.Written.{cleared_none, put_cleared}
use Rattle.layout.proofs.store.Encoding.{cleared_on, cleared_all}
use Rattle.layout.proofs.store.clear.Goals as goal

pub loop-store-init : goal.loop-store-init
loop-store-init c =
    (omega arith, cleared_none _ _ (omega arith))

pub loop-store-preserved : goal.loop-store-preserved
loop-store-preserved c =
    (omega arith, cleared_on c.args.store.now _ _ 0 c.loop-store.at _ (omega arith) (omega arith) (omega arith) c.loop-store.invariant.1 (put_cleared _ _ _ _ _ (omega arith) (omega arith) refl (c.fill.ensures.after (λ y e. e))))

pub returns : goal.returns
returns c =
    cleared_all _ _ (cleared_on c.args.store.now _ _ 0 c.loop-store.at _ (omega arith) (omega arith) (omega arith) c.loop-store.invariant.1 (put_cleared _ _ _ _ _ (omega arith) (omega (arith, c.loop-store.auto.store)) (omega (arith, c.loop-store.auto.store)) (c.fill-2.ensures.after (λ y e. e))))
