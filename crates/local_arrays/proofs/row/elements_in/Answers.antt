use Rattle.std.proofs.Common.{ap, ◌∙◌, sym, take, drop, List, ℤ}
use Rattle.std.specs.Prelude.{Option, Some}
use Rattle.local_arrays.specs.declared.bounds.Bounds.{Bounds}
use Rattle.local_arrays.specs.Arrays.{elements_of}
use Rattle.local_arrays.specs.Rows.{local_with}
use Rattle.local_arrays.proofs.RowLaws.{found_at}
use Rattle.local_arrays.proofs.row.elements_in.Goals as goal

pub returns-in-None-clause-none : goal.returns-in-None-clause-none
returns-in-None-clause-none c =
    let i = c.info_at-info.result in
    found_at c.args.cells.now c.args.infos.now c.args.k i c.requires.fit c.info_at-info.ensures
    ∙ ap (λ (b : Option Bounds). local_with b (take i.size (drop i.start c.args.cells.now))) c.in-None.is

pub returns-in-Some-clause-some : goal.returns-in-Some-clause-some
returns-in-Some-clause-some c =
    let i = c.info_at-info.result in
    ap elements_of (found_at c.args.cells.now c.args.infos.now c.args.k i c.requires.fit c.info_at-info.ensures)
    ∙ ap (λ (b : Option Bounds). elements_of (local_with b (take i.size (drop i.start c.args.cells.now)))) c.in-Some.is
    ∙ ap (λ (xs : List ℤ). Some xs) (sym c.part.ensures)
