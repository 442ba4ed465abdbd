use Rattle.std.proofs.Common.{◌≡◌, ◌+◌, ◌++◌, take, drop, length}
use Rattle.image_acts.specs.Replies.{fitting}
use Rattle.team_tables.proofs.formed.fitting_count.Given as goal

-- the teams that are left, behind so many that fit
abbrev pub invariant-loop-team : goal.invariant-loop-team
invariant-loop-team l = record {
  gone : l.count + length l.left ≡ length l.teams;
  left : l.left ≡ drop l.count l.teams;
  same : take l.count l.teams ++ fitting l.spare l.left ≡ fitting l.room l.teams;
}

abbrev pub decreases-loop-team : goal.decreases-loop-team
decreases-loop-team l = length l.left
