use Rattle.std.proofs.Common.{rules, ◌∙◌, ◌<◌, ◌∷◌, [], ap, sym, subst, ℕ, ℤ}
use Rattle.std.specs.Prelude.{slice_set}
use Rattle.image_acts.specs.Places.{single}
use Rattle.local_arrays.specs.Rows.{IsCell}
use Rattle.local_arrays.proofs.OffsetLaws.{kept}
use Rattle.local_arrays.proofs.ReachLaws.{cell_within, cell_fit, cell_put}
use Rattle.local_arrays.proofs.row.Row.put_by_two.Goals as goal

pub write-requires : goal.write-requires
write-requires c =
    let row = kept c.args.row (search rules) in
    let column = kept c.args.column (search rules) in
    let cell : IsCell c.self.inside.cells.items c.self.inside.infos.items c.args.k (single c.args.row ∷ single c.args.column ∷ []) c.in-Some.at = rw (c.deref.ensures.value, c.deref-2.ensures.value, row, column) at c.in-Some.ensures in
    cell_within c.self.inside.cells.items c.self.inside.infos.items c.args.k (single c.args.row ∷ single c.args.column ∷ []) c.in-Some.at c.self.invariant.0 cell

pub invariant_of-self : goal.invariant_of-self
invariant_of-self c =
    let row = kept c.args.row (search rules) in
    let column = kept c.args.column (search rules) in
    let cell : IsCell c.self.inside.cells.items c.self.inside.infos.items c.args.k (single c.args.row ∷ single c.args.column ∷ []) c.in-Some.at = rw (c.deref.ensures.value, c.deref-2.ensures.value, row, column) at c.in-Some.ensures in
    let written = c.write.ensures.items ∙ ap (λ (v : ℤ). slice_set c.self.inside.cells.items c.in-Some.at v) (kept c.args.value (search rules)) in
    (cell_fit c.self.inside.cells.items c.write.new.cells.items c.self.inside.infos.items c.args.k (single c.args.row ∷ single c.args.column ∷ []) c.in-Some.at c.args.value c.self.invariant.0 cell written, subst (λ (n : ℕ). n < 4294967296) (sym c.write.ensures.capacity) c.self.invariant.1)

pub returns-in-Some-clause-put : goal.returns-in-Some-clause-put
returns-in-Some-clause-put c = λ t.
    let row = kept c.args.row (search rules) in
    let column = kept c.args.column (search rules) in
    let cell : IsCell c.self.inside.cells.items c.self.inside.infos.items c.args.k (single c.args.row ∷ single c.args.column ∷ []) c.in-Some.at = rw (c.deref.ensures.value, c.deref-2.ensures.value, row, column) at c.in-Some.ensures in
    let written = c.write.ensures.items ∙ ap (λ (v : ℤ). slice_set c.self.inside.cells.items c.in-Some.at v) (kept c.args.value (search rules)) in
    cell_put c.self.inside.cells.items c.write.new.cells.items c.self.inside.infos.items c.args.k (single c.args.row ∷ single c.args.column ∷ []) c.in-Some.at c.args.value c.self.invariant.0 cell written _ _ _ c.args.self.now c.self.view_is c.write.ensures.capacity
