use Rattle.std.proofs.Common.{refl}
use Rattle.team_tables.proofs.StepLaws.{notes}
use Rattle.team_tables.proofs.laws.law_steps_change_the_table.Goals as goal

pub returns : goal.returns
returns c = record {
  child_team = λ t d v vs. refl;
  near_team = λ t d v vs. refl;
  make_current = λ t d v vs. refl;
  leave_team = λ t d. refl;
  note_teams = notes;
  leave = λ t d status teams. refl;
}
