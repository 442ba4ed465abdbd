use Rattle.std.proofs.Common.{◌∙◌, sym, ap}
use Rattle.image_acts.specs.Frames.{pairs_in}
use Rattle.coarray_tables.specs.Owns.{Owned, noted_in}
use Rattle.coarray_tables.proofs.Keeping.{noted_is}
use Rattle.coarray_tables.proofs.coarrays.Coarrays.note.Goals as goal

pub returns-clause-made : goal.returns-clause-made
returns-clause-made c = λ t.
    ap (λ (a : Owned). noted_in a c.args.coarray (pairs_in c.args.bounds.now) c.args.cobounds.now c.args.team) (sym c.self.view_is)
    ∙ noted_is c.self.inside.shapes.items c.put.new.shapes.items c.self.inside.cells c.in-Some.cells c.args.coarray c.args.team c.args.bounds.now c.args.cobounds.now _ _
    c.from_slice.ensures c.from_slice-2.ensures c.in-Some.ensures c.put.ensures
