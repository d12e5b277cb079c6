-- `frames::hex::decode` meets its contract. The loop's invariant: the bytes of the first i pairs are in the store, and the rest spells bytes just where the whole does.
-- Assumes nothing.
use native.Mathlib.Omega.{arith}
use Rattle.std.proofs.Common.{true-eqb, false-eqb}
use Rattle.frames.specs.Inner.{DecodedAs}
use Rattle.frames.proofs.hex.Decoding.{spells_odd, high_bad, low_bad, good_on, bytes_on, pair, decoded}
use Rattle.frames.proofs.hex.decode.Goals as goal

pub returns-then-not-is_empty : goal.returns-then-not-is_empty
unfolding DecodedAs
returns-then-not-is_empty c =
    spells_odd _ (λ e. false-eqb _ _ c.if-not-is_empty.ensures (omega (arith, c.as_chunks.ensures.back_len)))

pub returns-in_err-value : goal.returns-in_err-value
unfolding DecodedAs
returns-in_err-value c =
    rw c.from_residual.ensures (high_bad c.args.line.now c.loop-i.i _ _ (pair c.args.line.now _ c.loop-i.i _ c.as_chunks.ensures.front c.as_chunks.ensures.front_len (omega arith)) c.loop-i.invariant.0 c.in_err-value.ensures)

pub returns-in_err-store : goal.returns-in_err-store
unfolding DecodedAs
returns-in_err-store c =
    rw c.from_residual-in_err-store.ensures (low_bad c.args.line.now c.loop-i.i _ _ (pair c.args.line.now _ c.loop-i.i _ c.as_chunks.ensures.front c.as_chunks.ensures.front_len (omega arith)) c.loop-i.invariant.0 _ c.in_ok-value.ensures c.in_err-store.ensures)

pub loop-i-preserved : goal.loop-i-preserved
loop-i-preserved c = (
  good_on c.args.line.now c.loop-i.i _ _ (pair c.args.line.now _ c.loop-i.i _ c.as_chunks.ensures.front c.as_chunks.ensures.front_len (omega arith)) c.loop-i.invariant.0 _ c.in_ok-value.ensures _ c.in_ok-store.ensures,
  bytes_on c.args.line.now c.loop-i.i _ _ (pair c.args.line.now _ c.loop-i.i _ c.as_chunks.ensures.front c.as_chunks.ensures.front_len (omega arith)) c.loop-i.invariant.0 _ c.in_ok-value.ensures _ c.in_ok-store.ensures _ (omega (arith, c.requires, c.as_chunks.ensures.front_len)) c.loop-i.invariant.1,
)

pub returns : goal.returns
unfolding DecodedAs
returns c =
    decoded _ _ _ c.loop-i.i (omega (arith, true-eqb _ _ c.if-not-is_empty.ensures, c.as_chunks.ensures.back_len, c.as_chunks.ensures.front_len)) (omega arith) c.loop-i.invariant.0 c.loop-i.invariant.1
