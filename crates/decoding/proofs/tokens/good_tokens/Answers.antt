-- `decoding::tokens::good_tokens` meets its contract. The loop's invariant: the tokens looked at and those left together are good just where all are.
-- Assumes nothing.
use mathlib.Core.Path.{◌∙◌}
use mathlib.Core.List.{[]}
use native.Mathlib.Omega.{arith}
use Rattle.names.specs.Tokens.{count}
use Rattle.records.specs.Chunks.{number, first}
use Rattle.decoding.proofs.tokens.Decoding.{one_good, all_good}
use Rattle.decoding.proofs.tokens.good_tokens.Goals as goal

pub loop-kind-preserved : goal.loop-kind-preserved
loop-kind-preserved c =
    let T = c.args.numbers.now in
    let i = c.loop-kind.kind-index in
    let on = number 4 (count T) T c.as_chunks.result.0.now c.as_chunks.ensures.front i [] (omega (arith, c.as_chunks.ensures.front_len)) in
    one_good c.args.line.now T i (omega (arith, c.as_chunks.ensures.front_len)) _ _ _ _ (first 4 (count T) T c.as_chunks.result.0.now c.as_chunks.ensures.front i [] (omega (arith, c.as_chunks.ensures.front_len)) (omega arith)) (on 1 (omega arith)) (on 2 (omega arith)) (on 3 (omega arith)) c.loop-kind.good _ c.loop-kind.last c.good_token-good.ensures ∙ c.loop-kind.invariant

pub returns : goal.returns
returns c =
    all_good c.args.line.now c.args.numbers.now c.loop-kind.kind-index _ c.loop-kind.last (omega (arith, c.as_chunks.ensures.front_len)) c.loop-kind.invariant
