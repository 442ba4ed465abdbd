use Rattle.std.proofs.Common.{◌≡◌, ◌++◌, ◌∷◌, [], ◌-◌, ◌<◌, ◌≤◌, List, length, arith, subst, ap}
use Rattle.std.specs.Prelude.{slice_set}
use Rattle.control_board.specs.Values.{BroughtState}
use Rattle.control_board.specs.Boards.{values_in, values_of}
use Rattle.control_board.proofs.Bringing.{values_set}
use Rattle.control_board.proofs.brought.Table.keep.Goals as goal

pub returns : goal.returns
returns c =
    let n : length c.self.inside.rows.items ≡ length c.args.self.now = ap length c.self.view_is in
    let low : 0 < c.args.image.0 = c.requires.image.0 in
    let top : c.args.image.0 ≤ length c.args.self.now = c.requires.image.1 in
    let high : c.args.image.0 - 1 < length c.self.inside.rows.items = omega arith in
    subst (λ (bs : List BroughtState). values_in (slice_set c.self.inside.rows.items (c.args.image.0 - 1) c.push.new.self) ≡ slice_set (values_in bs) (c.args.image.0 - 1) (values_of bs c.args.image.0 ++ c.args.values ∷ [])) c.self.view_is
    (values_set c.self.inside.rows.items (c.args.image.0 - 1) c.index_mut.result.now c.push.new.self c.args.values high c.index_mut.ensures.value c.push.ensures)
