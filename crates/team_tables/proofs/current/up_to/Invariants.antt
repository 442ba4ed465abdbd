use Rattle.std.proofs.Common.{◌≡◌, length}
use Rattle.std.specs.Prelude.{reverse}
use Rattle.image_acts.specs.Teams.{from_team}
use Rattle.team_tables.proofs.current.up_to.Given as goal

-- the teams that are left, the older ones
abbrev pub invariant-loop-newest : goal.invariant-loop-newest
invariant-loop-newest l = from_team l.team (reverse l.left) ≡ from_team l.team (reverse l.teams)

abbrev pub decreases-loop-newest : goal.decreases-loop-newest
decreases-loop-newest l = length l.left
