-- `decoding::tokens::put_wide` meets its contract.
-- Assumes nothing.
use mathlib.Core.Path.{refl, sym}
use mathlib.Core.List.{[]}
use Prim.Native.Nat.{◌/◌}
use native.Mathlib.Omega.{arith}
use lib.ListN.{length}
use Rattle.operand.specs.declared.layouts.Layout.{Layout}
use Rattle.operand.specs.Layouts.{token_numbers, joined_tokens, numbers_count}
use Rattle.records.specs.Chunks.{number, first}
use Rattle.records.specs.Written.{written_nothing}
use Rattle.decoding.proofs.tokens.Decoding.{one_decoded, all_decoded, joined_at}
use Rattle.decoding.proofs.tokens.put_wide.Goals as goal

pub loop-i-init : goal.loop-i-init
loop-i-init c =
    sym (written_nothing c.args.numbers.now 0)

pub loop-i-preserved : goal.loop-i-preserved
unfolding token_numbers
loop-i-preserved c =
    let B = c.args.tokens.now in
    let i = c.loop-i.i in
    let on = number 6 (length B / 6) B c.as_chunks.result.0.now c.as_chunks.ensures.front i [] (omega (arith, c.as_chunks.ensures.front_len)) in
    let e = joined_at B i (omega (arith, c.as_chunks.ensures.front_len)) in
    one_decoded (joined_tokens B) c.args.numbers.now i (omega (arith, c.as_chunks.ensures.front_len, numbers_count Layout.Wide B)) _ _ _ _ (omega (arith, c.from.ensures, first 6 (length B / 6) B c.as_chunks.result.0.now c.as_chunks.ensures.front i [] (omega (arith, c.as_chunks.ensures.front_len)) (omega arith), e.0)) (omega (arith, c.from-in-loop-i.ensures, on 1 (omega arith), e.1)) (omega (arith, c.from_le_bytes-start.ensures, on 2 (omega arith), on 3 (omega arith), e.2)) (omega (arith, c.from_le_bytes-end.ensures, on 4 (omega arith), on 5 (omega arith), e.3)) _ _ (omega (arith, c.requires, numbers_count Layout.Wide B)) c.loop-i.invariant c.put_token.ensures

pub returns : goal.returns
unfolding token_numbers
returns c =
    all_decoded (joined_tokens c.args.tokens.now) c.args.numbers.now Layout.Wide c.args.tokens.now refl _ c.loop-i.i (omega (arith, c.as_chunks.ensures.front_len, numbers_count Layout.Wide c.args.tokens.now)) c.loop-i.invariant
