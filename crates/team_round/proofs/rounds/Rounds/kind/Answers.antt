use Rattle.team_round.specs.contracts.rounds.Rounds.{the_view}
use Rattle.team_round.proofs.Members.{told_of}
use Rattle.team_round.proofs.rounds.Rounds.kind.Goals as goal

pub returns : goal.returns
returns c n hs all = c.kind.ensures c.args.t.0 hs (told_of n c.args.t.0 c.args.self.now (the_view c.self.inside) c.index.result.now hs c.self.view_is c.requires.team c.index.ensures all).team_told
