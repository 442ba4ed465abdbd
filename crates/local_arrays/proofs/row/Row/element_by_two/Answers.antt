use Rattle.std.proofs.Common.{rules, ◌≡◌, ◌∙◌, ◌∷◌, [], ap, sym, subst, pos, List, ℤ, w64, to_z, of_z, slice_index_or}
use Rattle.image_acts.specs.Places.{single}
use Rattle.local_arrays.specs.Arrays.{array_at, IsElement}
use Rattle.local_arrays.specs.Rows.{Rowed, IsCell, locals_of}
use Rattle.local_arrays.proofs.OffsetLaws.{kept}
use Rattle.local_arrays.proofs.ReachLaws.{cell_within, cell_element}
use Rattle.local_arrays.proofs.row.Row.element_by_two.Goals as goal

pub read-requires : goal.read-requires
read-requires c =
    let row = kept c.args.row (search rules) in
    let column = kept c.args.column (search rules) in
    let cell : IsCell c.self.inside.cells.items c.self.inside.infos.items c.args.k (single c.args.row ∷ single c.args.column ∷ []) c.in_ok-at.at = rw (c.deref.ensures.value, c.deref-2.ensures.value, row, column) at c.in_ok-at.ensures in
    rw c.deref-3.ensures.value (cell_within c.self.inside.cells.items c.self.inside.infos.items c.args.k (single c.args.row ∷ single c.args.column ∷ []) c.in_ok-at.at c.self.invariant.0 cell)

pub returns : goal.returns
returns c =
    let row = kept c.args.row (search rules) in
    let column = kept c.args.column (search rules) in
    let cell : IsCell c.self.inside.cells.items c.self.inside.infos.items c.args.k (single c.args.row ∷ single c.args.column ∷ []) c.in_ok-at.at = rw (c.deref.ensures.value, c.deref-2.ensures.value, row, column) at c.in_ok-at.ensures in
    let value : to_z w64 (of_z w64 c.read.result) ≡ slice_index_or c.self.inside.cells.items c.in_ok-at.at (pos 0) = kept c.read.result (search rules) ∙ c.read.ensures ∙ ap (λ (xs : List ℤ). slice_index_or xs c.in_ok-at.at (pos 0)) c.deref-3.ensures.value in
    subst (λ (r : Rowed). IsElement (array_at c.args.k r.arrays) (single c.args.row ∷ single c.args.column ∷ []) (to_z w64 (of_z w64 c.read.result))) c.self.view_is
    (subst (λ (z : ℤ). IsElement (array_at c.args.k (locals_of c.self.inside.cells.items c.self.inside.infos.items)) (single c.args.row ∷ single c.args.column ∷ []) z) (sym value) (cell_element c.self.inside.cells.items c.self.inside.infos.items c.args.k (single c.args.row ∷ single c.args.column ∷ []) c.in_ok-at.at c.self.invariant.0 cell))
