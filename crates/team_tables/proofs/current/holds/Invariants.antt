use Rattle.std.proofs.Common.{◌≡◌, length}
use Rattle.std.specs.Prelude.{reverse}
use Rattle.image_acts.specs.Teams.{is_in}
use Rattle.team_tables.proofs.current.holds.Given as goal

-- the teams that are left, the older ones
abbrev pub invariant-loop-newest : goal.invariant-loop-newest
invariant-loop-newest l = is_in l.team (reverse l.left) ≡ is_in l.team (reverse l.teams)

abbrev pub decreases-loop-newest : goal.decreases-loop-newest
decreases-loop-newest l = length l.left
