use Rattle.std.proofs.Common.{rules, ◌≡◌, ◌-◌, ◌∙◌, ap, to_z, of_z, w32}
use Rattle.std.specs.Option.{is_some}
use Rattle.object_rules.specs.Happenings.{numbers_of}
use Rattle.object_rules.specs.TeamRounds.{at_close}
use Rattle.team_round.specs.TeamStates.{TeamState, closed_at}
use Rattle.team_round.specs.contracts.rounds.Rounds.{the_view}
use Rattle.team_round.proofs.NewTeams.{status_there, result_there, has_status, closed_there}
use Rattle.team_round.proofs.rounds.Rounds.result.Goals as goal

pub unreachable-requires : goal.unreachable-requires
unreachable-requires c = has_status c.status.result c.args.bad
    (ap is_some c.status.ensures.state ∙ closed_there c.args.t.0 c.args.self.now (the_view c.self.inside) c.index.result.now (λ (x : TeamState). is_some (closed_at x.rounds (c.args.round - 1))) c.self.view_is c.requires.team c.index.ensures c.requires.closed)
    c.in-None.ensures

pub returns : goal.returns
returns c n hs f x all at close =
    let e : to_z w32 (of_z w32 c.in-Some.status) ≡ c.in-Some.status = search rules in
    e ∙ result_there (numbers_of x.members) (at_close (numbers_of x.members) c.args.t.0 c.args.round hs) f c.status.result c.args.bad c.in-Some.status c.in-Some.ensures
    (status_there n c.args.t.0 c.args.round c.args.self.now (the_view c.self.inside) x c.index.result.now hs c.status.result c.self.view_is c.requires.team.0 at c.index.ensures c.status.ensures.told all) close
