use Rattle.std.proofs.Common.{rules, ◌≡◌, ◌∙◌, arith, map, get_or, pos, sym, subst, ap, FitsSigned, w32}
use Rattle.std.proofs.lemmas.Int.{to_z-of_z}
use Rattle.caf_base.specs.Spans.{offsets_from, rows_of}
use Rattle.coarray_types.specs.Cells.{AreCells}
use Rattle.coarray_types.proofs.Parts.{tail_of}
use Rattle.coarray_types.proofs.CellLemmas.{wide_of-tail, cells_of-tail, rows_of-tail}
use Rattle.coarray_types.proofs.section.+cells_from.Goals as goal

pub cells_from-requires : goal.cells_from-requires
cells_from-requires t c =
    (search rules, (wide_of-tail c.args.dims.now c.requires.wide, cells_of-tail (pos c.args.start) c.args.dims.now (omega arith) c.requires.wide c.requires.cells))

pub rows-requires : goal.rows-requires
rows-requires t c =
    let d = get_or c.args.dims.now 0 (0, pos 0) in
    let fits : FitsSigned w32 d.1 = search rules in
    let firsts : map pos c.as_slice.result.now ≡ offsets_from (pos c.args.start) (tail_of c.args.dims.now) = ap (map pos) c.as_slice.ensures.value ∙ c.in_ok-firsts.ensures in
    subst (λ z. AreCells (rows_of d.0 z (map pos c.as_slice.result.now))) (sym (to_z-of_z w32 d.1 fits))
    (subst AreCells (sym (ap (rows_of d.0 d.1) firsts ∙ rows_of-tail (pos c.args.start) c.args.dims.now (0, pos 0) (omega arith))) c.requires.cells)
