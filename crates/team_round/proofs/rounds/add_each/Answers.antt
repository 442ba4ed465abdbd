use Rattle.team_round.proofs.NewTeams.{with_none, with_more}
use Rattle.team_round.proofs.rounds.add_each.Goals as goal

pub loop-one-init : goal.loop-one-init
loop-one-init c = with_none _

pub loop-one-preserved : goal.loop-one-preserved
loop-one-preserved c =
    with_more _ c.loop-one.rounds c.add_team.new.self c.loop-one.yielded c.in-Some.one c.loop-one.invariant c.add_team.ensures.images c.add_team.ensures.teams c.add_team.ensures.room c.add_team.ensures.spare c.add_team.ensures.ended
