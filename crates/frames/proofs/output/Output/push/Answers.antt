-- `frames::output::Output::push` meets its contract.
-- Assumes nothing.
use Rattle.frames.proofs.output.Filling.{put_one}
use Rattle.frames.proofs.output.Output.push.Goals as goal

pub returns-clause-wrote : goal.returns-clause-wrote
returns-clause-wrote c =
    put_one _ _ c.args.b c.requires
