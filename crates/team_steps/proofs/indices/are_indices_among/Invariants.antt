use Rattle.std.proofs.Common.{◌≡◌, drop}
use Rattle.caf_base.specs.Arithmetic.{natural}
use Rattle.image_acts.specs.Teams.{are_indices_of}
use Rattle.team_steps.proofs.indices.are_indices_among.Given as goal

abbrev pub invariant-loop-i : goal.invariant-loop-i
invariant-loop-i l = are_indices_of (natural l.n) l.vs ≡ are_indices_of (natural l.n) (drop l.i l.vs)
