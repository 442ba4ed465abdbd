use Rattle.std.proofs.Common.{◌≡◌, drop}
use Rattle.image_acts.specs.Teams.{differs_from}
use Rattle.team_steps.proofs.indices.differs.Given as goal

abbrev pub invariant-loop-i : goal.invariant-loop-i
invariant-loop-i l = differs_from l.v l.others ≡ differs_from l.v (drop l.i l.others)
