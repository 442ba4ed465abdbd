use Rattle.std.proofs.Common.{◌∙◌, length, ap, arith}
use Rattle.team_tables.proofs.KeptLaws.{images_long}
use Rattle.team_tables.proofs.teams.all_images.Goals as goal

pub push_reserved-requires : goal.push_reserved-requires
push_reserved-requires c =
    let e = ap length c.loop-i.invariant.items ∙ images_long 1 c.loop-i.i in
    let r = c.loop-i.invariant.room in
    omega arith
