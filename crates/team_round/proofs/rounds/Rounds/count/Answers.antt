use Rattle.std.proofs.Common.{length, ap, ◌∙◌}
use Rattle.team_round.specs.TeamStates.{TeamState}
use Rattle.team_round.specs.contracts.rounds.Rounds.{the_view}
use Rattle.team_round.proofs.Members.{read_there}
use Rattle.team_round.proofs.rounds.Rounds.count.Goals as goal

pub returns : goal.returns
returns c x at = c.count.ensures ∙ ap (λ (y : TeamState). length y.rounds) (read_there c.args.t.0 c.args.self.now (the_view c.self.inside) c.index.result.now x c.self.view_is c.requires c.index.ensures at)
