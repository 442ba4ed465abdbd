use Rattle.std.proofs.Common.{◌<◌, ◌≤◌, length, ◌∙◌}
use Rattle.team_round.specs.TeamStates.{TeamState}
use Rattle.team_round.specs.contracts.rounds.Rounds.{the_view}
use Rattle.team_round.proofs.Members.{holds_there, told_of}
use Rattle.team_round.proofs.rounds.Rounds.joined.Goals as goal

pub joined-requires : goal.joined-requires
joined-requires c = holds_there c.args.t.0 c.args.self.now (the_view c.self.inside) c.index.result.now (λ (x : TeamState). (0 < c.args.image.0) × (c.args.image.0 ≤ length x.joined)) c.self.view_is c.requires.team c.index.ensures c.requires.image

pub returns : goal.returns
returns c n hs all =
    let told = told_of n c.args.t.0 c.args.self.now (the_view c.self.inside) c.index.result.now hs c.self.view_is c.requires.team c.index.ensures all in
    let image = holds_there c.args.t.0 c.args.self.now (the_view c.self.inside) c.index.result.now (λ (x : TeamState). (0 < c.args.image.0) × (c.args.image.0 ≤ length x.joined)) c.self.view_is c.requires.team c.index.ensures c.requires.image in
    c.joined.ensures ∙ told.team_told.counts c.args.image.0 image.0 image.1
