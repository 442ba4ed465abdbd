-- A team as a reply names it, among the teams of the run.
use Rattle.std.specs.Prelude.{◌≡◌, ℕ, suc, List, Some, slice_get}
use Rattle.caf_events.specs.declared.reply.FormedTeam.{FormedTeam}
use Rattle.object_rules.specs.Happenings.{numbers_of}
use Rattle.object_rules.specs.BoardTeams.{Team}

-- the reply names one of these teams: by its own number, which counts them from 1, with its team number and its members
pub record IsNamed (ts : List Team) (x : FormedTeam) : Type 0 where
  pub place : ℕ
  pub own_number : x.team.0 ≡ suc place
  pub team : Team
  pub there : slice_get ts place ≡ Some team
  pub team_number : x.number ≡ team.number
  pub members : numbers_of x.members ≡ team.members
