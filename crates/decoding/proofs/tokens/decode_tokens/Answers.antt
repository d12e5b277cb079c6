-- `decoding::tokens::decode_tokens` meets its contract.
-- Assumes nothing.
use native.Mathlib.Omega.{arith}
use Rattle.decoding.proofs.tokens.Decoding.{unfit, all_told}
use Rattle.decoding.proofs.tokens.decode_tokens.Goals as goal

pub returns-then-numbers-n : goal.returns-then-numbers-n
returns-then-numbers-n c =
    unfit c.token_count-n.ensures (omega arith)

pub returns-then-good_tokens : goal.returns-then-good_tokens
returns-then-good_tokens c =
    all_told c.token_count-n.ensures (omega arith) c.put_tokens.ensures c.good_tokens.ensures c.if-good_tokens.true

pub returns-else-good_tokens : goal.returns-else-good_tokens
returns-else-good_tokens c =
    all_told c.token_count-n.ensures (omega arith) c.put_tokens.ensures c.good_tokens.ensures c.if-good_tokens.false
