use Rattle.std.proofs.Common.{◌≡◌, ◌-◌, ◌<◌, ◌≤◌, List, length, arith, subst, sym}
use Rattle.std.specs.Prelude.{Some, slice_get}
use Rattle.control_board.specs.Values.{BroughtState}
use Rattle.control_board.proofs.Bringing.{table_kept, table_as, on_ok}
use Rattle.control_board.proofs.brought.make_room_for.Goals as goal

pub returns-clause-values : goal.returns-clause-values
returns-clause-values c =
    let low : 0 < c.args.team.0 = c.requires.team.0 in
    let top : c.args.team.0 ≤ length c.args.tables.now.items = c.requires.team.1 in
    let high : c.args.team.0 - 1 < length c.args.tables.now.items = omega arith in
    table_as c.args.tables.now.items (c.args.team.0 - 1) c.index_mut.result.now c.reserve.new.self high c.index_mut.ensures.value c.reserve.ensures.values

pub returns-clause-room : goal.returns-clause-room
returns-clause-room c =
    let low : 0 < c.args.team.0 = c.requires.team.0 in
    let top : c.args.team.0 ≤ length c.args.tables.now.items = c.requires.team.1 in
    let high : c.args.team.0 - 1 < length c.args.tables.now.items = omega arith in
    let r = table_kept c.args.tables.now.items (c.args.team.0 - 1) c.index_mut.result.now c.reserve.new.self high c.index_mut.ensures.value in
    on_ok c.reserve.result (λ room. subst (λ (bs : List BroughtState). (x : BroughtState) → slice_get bs (c.args.image.0 - 1) ≡ Some x → 0 < x.room) (sym r.1) room) c.reserve.ensures.room
