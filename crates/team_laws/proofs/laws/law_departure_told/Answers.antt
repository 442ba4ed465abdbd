use Rattle.std.proofs.Common.{inl, inr, refl}
use Rattle.object_rules.specs.Happenings.{control}
use Rattle.object_rules.specs.BoardTeams.{teams_after, members_at, closing}
use Rattle.team_laws.proofs.ToldTeams.{left_status, left_teams, left_named}
use Rattle.team_laws.proofs.laws.law_departure_told.Goals as goal

pub returns-clause-status : goal.returns-clause-status
returns-clause-status c n h i team round status teams e = left_status n h team.0 round (closing control team.0 round (members_at (teams_after n h) team.0) h) status teams e

pub returns-clause-teams : goal.returns-clause-teams
returns-clause-teams c n h i team round status teams e = elim (left_teams n h team.0 round (closing control team.0 round (members_at (teams_after n h) team.0) h) refl status teams e) [
  | inl nil ↦ inl nil
  | inr f ↦ inr (f.form, f.good, f.right)
]

pub returns-clause-named : goal.returns-clause-named
returns-clause-named c n h i team round status teams e = left_named n h team.0 round (closing control team.0 round (members_at (teams_after n h) team.0) h) status teams e
