use Rattle.image_stores.proofs.RowLaws.{room_for_row, begin_fit, begin_held}
use Rattle.image_stores.proofs.rows.Rows.begin.Goals as goal

pub write_base-requires : goal.write_base-requires
write_base-requires c = room_for_row c.self.inside.cells.items c.self.inside.bases.items c.self.inside.top c.self.inside.depth c.args.self.now (search (c.self.view_is)) c.requires

pub invariant_of-self : goal.invariant_of-self
invariant_of-self c = begin_fit c.self.inside.cells.items c.self.inside.bases.items _ c.self.inside.depth c.self.inside.base c.self.inside.top c.self.invariant (room_for_row c.self.inside.cells.items c.self.inside.bases.items c.self.inside.top c.self.inside.depth c.args.self.now (search (c.self.view_is)) c.requires) c.write_base.ensures

pub returns : goal.returns
returns c = begin_held c.self.inside.cells.items c.self.inside.bases.items c.write_base.new.cells.items c.self.inside.top c.self.inside.depth c.args.self.now (search (c.self.view_is)) (room_for_row c.self.inside.cells.items c.self.inside.bases.items c.self.inside.top c.self.inside.depth c.args.self.now (search (c.self.view_is)) c.requires) c.write_base.ensures
