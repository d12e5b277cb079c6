-- `frames::reply::answer_wide` meets its contract.
-- Assumes nothing.
use native.Mathlib.Omega.{arith}
use Rattle.frames.proofs.batches.Turns.{wide_stores}
use Rattle.frames.proofs.reply.answer_wide.Goals as goal

pub answer_digits-requires : goal.answer_digits-requires
answer_digits-requires g c =
    let s = wide_stores in record { stores = record { fits = omega (arith, c.requires.0); nodes_long = omega (arith, s.0); diagnostics_long = omega (arith, s.1) }; room = c.requires.2 }
