-- `operand::layouts::Layout::node_store` meets its contract.
-- Assumes nothing.
use mathlib.Core.Path.{sym, ◌∙◌, ap₂}
use Prim.Native.Nat.{◌*◌, ◌≤◌}
use native.Mathlib.Omega.{arith}
use Rattle.operand.specs.declared.layouts.Layout.{Layout}
use Rattle.operand.specs.Layouts.{node_size, most_tokens, node_store_lem}
use Rattle.operand.proofs.layouts.Layout.node_store.Goals as goal

small : (w : Layout) → node_size w * most_tokens w ≤ 18414
unfolding most_tokens
small Layout.Narrow = omega arith
small Layout.Wide = omega arith

pub overflow_mul-result : goal.overflow_mul-result
overflow_mul-result c =
    omega (arith, ap₂ (λ m n. m * n) c.node_size.ensures c.most_tokens.ensures, small c.args.self)

pub returns : goal.returns
returns c =
    ap₂ (λ m n. m * n) c.node_size.ensures c.most_tokens.ensures ∙ sym (node_store_lem c.args.self)
