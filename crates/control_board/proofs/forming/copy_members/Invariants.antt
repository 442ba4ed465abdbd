use Rattle.std.proofs.Common.{◌≡◌, map, take}
use Rattle.std.specs.Global.{Vec}
use Rattle.caf_base.specs.declared.place.ImageNo.{ImageNo}
use Rattle.control_board.specs.Boards.{images_of_teams, all_made}
use Rattle.control_board.proofs.forming.copy_members.Given as goal

abbrev pub invariant-loop-formation : goal.invariant-loop-formation
invariant-loop-formation l = map (λ (v : Vec ImageNo). v.items) l.copies.items ≡ images_of_teams (all_made (take l.formation-index l.formations.items))
