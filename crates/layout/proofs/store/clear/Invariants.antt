-- `layout::store::clear` meets its contract. The loop's invariant: what stands before `at` is 0, and the rest is as it was.
-- Assumes nothing.
use mathlib.Core.Path.{◌≡◌}
use Prim.Native.Nat.{◌≤◌, ◌-◌}
use lib.ListN.{length}
use Rattle.records.specs.Stores.{cleared}
use Rattle.layout.proofs.store.clear.Given as goal

abbrev pub invariant-loop-store : goal.invariant-loop-store
invariant-loop-store l = (l.at ≤ length l.initial.store) × (l.store ≡ cleared l.initial.store 0 l.at)

abbrev pub decreases-loop-store : goal.decreases-loop-store
decreases-loop-store l = length l.store - l.at
