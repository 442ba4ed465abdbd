use Rattle.std.proofs.Common.{◌≡◌, ◌∙◌, ◌-◌, ℤ, List, Some, sym, ap}
use Rattle.std.specs.Prelude.{Option, slice_get}
use Rattle.coarray_types.specs.Places.{size_of}
use Rattle.image_acts.specs.Frames.{joined, pairs_in}
use Rattle.coarray_tables.specs.Owns.{Owned, freed}
use Rattle.coarray_tables.specs.declared.shape.Shape.{Shape}
use Rattle.coarray_tables.proofs.Keeping.{freed_is}
use Rattle.coarray_tables.proofs.coarrays.Coarrays.note_freed.Goals as goal

pub returns-clause-freed : goal.returns-clause-freed
returns-clause-freed c = λ t.
    let h : joined (slice_get c.self.inside.shapes.items c.args.coarray) ≡ Some c.in-Some.shape.now = ap (λ (ss : List (Option Shape)). joined (slice_get ss c.args.coarray)) (sym c.deref.ensures.value) ∙ sym c.in-Some.ensures in
    ap (λ (a : Owned). freed a c.args.coarray) (sym c.self.view_is)
    ∙ freed_is c.self.inside.shapes.items c.put.new.shapes.items c.self.inside.cells c.cells_without-cells.result c.args.coarray c.in-Some.shape.now h
    (c.cells_without-cells.ensures ∙ ap (λ (vs : List ℤ). c.self.inside.cells - size_of (pairs_in vs)) c.as_slice.ensures) c.put.ensures
