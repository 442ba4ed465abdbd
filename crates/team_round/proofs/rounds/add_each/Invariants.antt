use Rattle.team_round.specs.TeamStates.{IsWith}
use Rattle.team_round.proofs.rounds.add_each.Given as goal

abbrev pub invariant-loop-one : goal.invariant-loop-one
invariant-loop-one l = IsWith l.initial.rounds l.yielded l.rounds
