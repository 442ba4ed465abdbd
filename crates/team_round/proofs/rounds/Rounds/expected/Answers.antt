use Rattle.team_round.specs.TeamStates.{TeamState, CanExpect}
use Rattle.team_round.specs.contracts.rounds.Rounds.{the_view}
use Rattle.team_round.proofs.Members.{holds_there, told_of}
use Rattle.team_round.proofs.rounds.Rounds.expected.Goals as goal

pub expected-requires : goal.expected-requires
expected-requires c = holds_there c.args.t.0 c.args.self.now (the_view c.self.inside) c.index.result.now (λ (x : TeamState). CanExpect x c.args.image.0) c.self.view_is c.requires.team c.index.ensures c.requires.state

pub returns : goal.returns
returns c n hs all = c.expected.ensures c.args.t.0 c.args.self.now.ended hs (told_of n c.args.t.0 c.args.self.now (the_view c.self.inside) c.index.result.now hs c.self.view_is c.requires.team c.index.ensures all)
