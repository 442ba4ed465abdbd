use Rattle.image_stores.proofs.RowLaws.{room_for_cell, has_rows, add_fit, add_held}
use Rattle.std.proofs.Common.{slice_set, ◌∙◌, ap, w64}
use Rattle.std.proofs.lemmas.Int.{to_z-of_z}
use Rattle.image_stores.proofs.rows.Rows.add.Goals as goal

pub write-requires : goal.write-requires
write-requires c = room_for_cell c.self.inside.cells.items c.self.inside.bases.items c.self.inside.base c.self.inside.top c.self.inside.depth c.args.self.now (search (c.self.view_is)) c.self.invariant c.requires.room

pub invariant_of-self : goal.invariant_of-self
invariant_of-self c =
    add_fit c.self.inside.cells.items c.write.new.cells.items c.self.inside.bases.items c.self.inside.depth c.self.inside.base c.self.inside.top c.args.v c.self.invariant
    (has_rows c.self.inside.cells.items c.self.inside.bases.items c.self.inside.top c.self.inside.depth c.args.self.now (search (c.self.view_is)) c.requires.some)
    (room_for_cell c.self.inside.cells.items c.self.inside.bases.items c.self.inside.base c.self.inside.top c.self.inside.depth c.args.self.now (search (c.self.view_is)) c.self.invariant c.requires.room)
    (c.write.ensures ∙ ap (λ v. slice_set c.self.inside.cells.items c.self.inside.top v) (to_z-of_z w64 c.args.v c.ranges.v))

pub returns : goal.returns
returns c =
    add_held c.self.inside.cells.items c.write.new.cells.items c.self.inside.bases.items c.self.inside.base c.self.inside.top c.self.inside.depth c.args.v c.args.self.now (search (c.self.view_is)) c.self.invariant
    (has_rows c.self.inside.cells.items c.self.inside.bases.items c.self.inside.top c.self.inside.depth c.args.self.now (search (c.self.view_is)) c.requires.some)
    (room_for_cell c.self.inside.cells.items c.self.inside.bases.items c.self.inside.base c.self.inside.top c.self.inside.depth c.args.self.now (search (c.self.view_is)) c.self.invariant c.requires.room)
    (c.write.ensures ∙ ap (λ v. slice_set c.self.inside.cells.items c.self.inside.top v) (to_z-of_z w64 c.args.v c.ranges.v))
