-- `expressions::source::Source::next_of_kind` meets its contract.
-- Assumes nothing.
use Rattle.std.proofs.Common.{Some, sym, ◌∙◌, ◌≡◌, subst, arith}
use Rattle.std.proofs.lemmas.Option.{none-some}
use Rattle.names.specs.Places.{live}
use Rattle.names.specs.Tokens.{token_at}
use Rattle.records.specs.Counters.{Over}
use Rattle.expressions.specs.Reader.{of_kind}
use Rattle.expressions.specs.Paths.{kind_token}
use Rattle.expressions.proofs.source.Source.next_of_kind.Goals as goal

pub returns : goal.returns
returns c =
    let e = subst (λ z. of_kind c.args.kind (token_at c.args.self.now.tokens.now z) ≡ Some c.in_ok-token.token) c.from.ensures (sym c.token_of_kind.ensures ∙ c.in_ok-token.was) in
    let l = live _ _ _ (kind_token c.args.kind _ e).0 in
    let o = c.step_over.ensures in
    record {
      token = sym e;
      from = omega (arith, o.at, c.ranges);
      within = omega (arith, o.at, l);
      nodes = o.nodes;
      diagnostics = o.diagnostics;
      steps = λ t q. let s : c.in_ok-token.token ≡ t = cc in subst (λ z. Over c.args.c.now z c.step_over.new.self) s o;
      stays = λ q. absurd (none-some _ (sym q));
    }
