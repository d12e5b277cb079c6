-- `operand_code::reading::operand_at` meets its contract.
-- Assumes nothing.
use mathlib.Core.Path.{refl, sym, ◌∙◌, ap}
use native.Mathlib.Omega.{arith}
use Rattle.std.specs.Prelude.{◌≡◌}
use Rattle.names.specs.Tokens.{token_at, token_told}
use Rattle.operand_code.specs.Reading.{OperandAsks, first, read}
use Rattle.operand_code.proofs.reading.Cleared.{lent_back, nothing_from, ended_kept}
use Rattle.operand_code.proofs.reading.Marked.{as_given}
use Rattle.operand_code.proofs.reading.operand_at.Goals as goal

pub read-requires : goal.read-requires
read-requires c =
    let at : c.first-counters.result.at ≡ c.args.start = ap (λ z. z.at) c.first-counters.ensures in
    record {
      asks = omega (arith, c.if-count-gt-MOST_TOKENS.false, c.if-count-start.false, c.if-nodes-count.false, c.if-limit-eq0.false, at);
      stands = ap (token_at c.args.tokens.now) at ∙ sym (token_told _ _ _ c.token_at.ensures) ∙ c.in-Some.is;
      opens = refl;
      fresh = c.first-counters.ensures ∙ ap first (sym at);
    }

pub returns-in_default : goal.returns-in_default
returns-in_default c =
    let asks : OperandAsks c.args.tokens.now c.args.nodes.now c.args.start c.args.limit = omega (arith, c.if-count-gt-MOST_TOKENS.false, c.if-count-start.false, c.if-nodes-count.false, c.if-limit-eq0.false) in
    read _ refl asks (ended_kept _ _ _ _ _ (sym (token_told _ _ _ c.token_at.ensures) ∙ c.in_default.is) (nothing_from c.first-counters.ensures c.nothing.ensures))

pub returns : goal.returns
returns c =
    let asks : OperandAsks c.args.tokens.now c.args.nodes.now c.args.start c.args.limit = omega (arith, c.if-count-gt-MOST_TOKENS.false, c.if-count-start.false, c.if-nodes-count.false, c.if-limit-eq0.false) in
    read _ refl asks (as_given _ _ asks.few _ c.args.mark c.mark_within.ensures (ap (λ z. z.at) c.first-counters.ensures) (lent_back c.read.ensures.lent search) c.read.ensures.told)
