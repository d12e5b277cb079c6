-- `expressions::source::Source::token_at` meets its contract.
-- Assumes nothing.
use Rattle.names.specs.Tokens.{token_told}
use Rattle.expressions.proofs.source.Source.token_at.Goals as goal

pub returns : goal.returns
returns c =
    token_told _ _ _ c.token_at.ensures
