-- `entry::call::answered` meets its contract.
-- Assumes nothing.
use mathlib.Core.Path.{ap, ◌∙◌}
use Rattle.layout.specs.Nodes.{nodes_encoded}
use Rattle.layout.specs.Diagnostics.{diagnostics_encoded}
use Rattle.entry.specs.Call.{answer_of}
use Rattle.entry.proofs.call.answered.Goals as goal

pub returns : goal.returns
unfolding answer_of
returns c =
    record {
      answer = cc;
      nodes = c.encode_nodes.ensures ∙ ap (λ n. nodes_encoded c.args.layout c.args.records.now n c.args.nodes.now) c.from-n.ensures;
      diagnostics = c.encode_diagnostics.ensures ∙ ap (λ n. diagnostics_encoded c.args.layout c.args.reports.now n c.args.diagnostics.now c.args.used) c.from-added.ensures;
    }
