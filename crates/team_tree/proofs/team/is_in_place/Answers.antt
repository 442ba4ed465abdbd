use Rattle.std.proofs.Common.{arith, ◌-◌}
use Rattle.team_tree.proofs.Images.{named_at}
use Rattle.team_tree.proofs.team.is_in_place.Goals as goal
use Rattle.team_tree.proofs.team.is_in_place.Goals.{then-image-gt0, else-image-gt0}

pub returns-then-image-members : goal.returns-then-image-members
returns-then-image-members c = named_at c.args.image.0 c.args.members.now (c.args.image.0 - 1) _ (elim c.if-image-gt0.branch [
  | then-image-gt0 w ↦ grind arith
  | else-image-gt0 w ↦ grind arith
])
