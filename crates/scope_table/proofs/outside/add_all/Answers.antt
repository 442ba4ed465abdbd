use Rattle.std.proofs.Common.{refl, map, [], ◌∷◌, get_or}
use Rattle.scope_table.proofs.Orders.{turn_list, drop_at}
use Rattle.scope_table.specs.Outside.{row}
use Rattle.scope_table.specs.declared.known.Known.TheVariants.{Subroutine}
use Rattle.scope_table.proofs.outside.add_all.Goals as goal

pub loop-line-preserved : goal.loop-line-preserved
loop-line-preserved c = λ n.
    turn_list (map row) c.args.table.now c.loop-line.line-index (get_or c.args.table.now c.loop-line.line-index (record { ref_ptr = (0, 0); now = [] }, Subroutine 0))
    (row (get_or c.args.table.now c.loop-line.line-index (record { ref_ptr = (0, 0); now = [] }, Subroutine 0)) ∷ [])
    c.loop-line.names c.add_line.new.names _ n refl (drop_at c.args.table.now c.loop-line.line-index _ c.loop-line-test.true)
    c.in_ok-add_line.ensures (c.loop-line.invariant n)
