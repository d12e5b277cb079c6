-- `layout::nodes::encode_nodes` meets its contract. The loop's invariant: the first i records are written over the zeros.
-- Assumes nothing.
use mathlib.Core.Path.{◌≡◌, ap}
use Prim.Native.Nat.{◌+◌, ◌*◌, ◌≤◌, ◌<◌}
use native.Mathlib.Omega.{arith}
use mathlib.Core.List.{[]}
use lib.ListN.{get_or}
use Rattle.records.specs.Written.{put_cleared}
use Rattle.operand.specs.Layouts.{node_size, nodes_within}
use Rattle.operand.specs.Layout.{node_from}
use Rattle.operand.specs.Lengths.{length_node}
use Rattle.layout.proofs.store.Chunks.{node_from_chunk}
use Rattle.layout.proofs.store.Encoding.{records_on, place_within, cleared_long, nodes_all}
use Rattle.layout.proofs.nodes.encode_nodes.Goals as goal

pub encode_node-requires : goal.encode_node-requires
encode_node-requires c =
    let zeros = put_cleared c.args.nodes.now 0 c.node_store-store.result c.node_store-store.result _ (omega arith) (omega arith) (omega arith) c.clear.ensures in
    let k = node_size c.args.layout in
    let on : c.loop-i.i < c.args.n = omega (arith, c.in-Some.ensures.lookup.0.3) in
    let within : c.node_size-size.result * c.loop-i.i + k ≤ k * c.args.n = rw c.node_size-size.ensures (place_within k c.loop-i.i c.args.n on) in
    omega (arith, cleared_long _ _ _ _ (omega arith) (omega arith) zeros, c.node_store-store.ensures, nodes_within c.args.layout c.args.n (omega (arith, c.most_tokens.ensures)))

pub loop-i-preserved : goal.loop-i-preserved
loop-i-preserved c =
    let zeros = put_cleared c.args.nodes.now 0 c.node_store-store.result c.node_store-store.result _ (omega arith) (omega arith) (omega arith) c.clear.ensures in
    let w = c.args.layout in
    let M = c.args.numbers.now in
    let k = node_size w in
    let on : c.loop-i.i < c.args.n = omega (arith, c.in-Some.ensures.lookup.0.3) in
    let at : c.node_size-size.result * c.loop-i.i ≡ 0 + k * c.loop-i.i = omega (arith, ap (λ s. s * c.loop-i.i) c.node_size-size.ensures) in
    let long = cleared_long _ _ _ _ (omega arith) (omega arith) zeros in
    records_on (node_from w) k M (length_node w M) _ 0 _ _ c.loop-i.i _ at (omega (arith, c.node_store-store.ensures, place_within k c.loop-i.i c.args.n on, nodes_within w c.args.n (omega (arith, c.most_tokens.ensures)))) c.loop-i.invariant (node_from_chunk M _ c.args.n c.loop-i.i _ _ c.as_chunks.ensures.front c.as_chunks.ensures.front_len (ap (λ l. get_or l c.loop-i.i []) c.in-Some.ensures.lookup.0.2) on c.in-Some.ensures.lookup.0.1 w _ _ _ c.encode_node.ensures)

pub returns : goal.returns
returns c =
    let zeros = put_cleared c.args.nodes.now 0 c.node_store-store.result c.node_store-store.result _ (omega arith) (omega arith) (omega arith) c.clear.ensures in
    nodes_all c.args.layout c.args.numbers.now c.args.nodes.now _ _ c.args.n c.loop-i.i c.node_store-store.result (omega (arith, c.in-Some.ensures.lookup.0.3)) (omega (arith, c.most_tokens.ensures)) (omega (arith, c.in-Some.ensures.lookup.0.1, c.as_chunks.ensures.front_len)) (omega (arith, c.node_store-store.ensures)) (omega arith) zeros c.loop-i.invariant
