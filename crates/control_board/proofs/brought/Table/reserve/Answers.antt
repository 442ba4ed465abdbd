use Rattle.std.proofs.Common.{◌≡◌, ◌-◌, ◌<◌, ◌≤◌, length, arith, ap, ◌∙◌}
use Rattle.control_board.specs.Boards.{values_in}
use Rattle.control_board.proofs.Bringing.{values_same, room_set, on_ok}
use Rattle.control_board.proofs.brought.Table.reserve.Goals as goal

pub returns-clause-values : goal.returns-clause-values
returns-clause-values c =
    let n : length c.self.inside.rows.items ≡ length c.args.self.now = ap length c.self.view_is in
    let low : 0 < c.args.image.0 = c.requires.0 in
    let top : c.args.image.0 ≤ length c.args.self.now = c.requires.1 in
    let high : c.args.image.0 - 1 < length c.self.inside.rows.items = omega arith in
    values_same c.self.inside.rows.items (c.args.image.0 - 1) c.index_mut.result.now c.reserve.new.self high c.index_mut.ensures.value c.reserve.ensures.values ∙ ap values_in c.self.view_is

pub returns-clause-room : goal.returns-clause-room
returns-clause-room c =
    let n : length c.self.inside.rows.items ≡ length c.args.self.now = ap length c.self.view_is in
    let low : 0 < c.args.image.0 = c.requires.0 in
    let top : c.args.image.0 ≤ length c.args.self.now = c.requires.1 in
    let high : c.args.image.0 - 1 < length c.self.inside.rows.items = omega arith in
    on_ok c.reserve.result (λ room. room_set c.self.inside.rows.items (c.args.image.0 - 1) c.reserve.new.self high room) c.reserve.ensures.room
