use Rattle.std.proofs.Common.{ap, sym, subst, length, arith}
use Rattle.image_acts.specs.Frames.{array_in}
use Rattle.image_acts.specs.Places.{place_in}
use Rattle.image_code.specs.Table.{scope_of}
use Rattle.image_state.specs.Kept.{Kept}
use Rattle.local_arrays.specs.Arrays.{HasCells}
use Rattle.array_steps.proofs.Elements.{has_values}
use Rattle.array_steps.proofs.values.load_cells.Goals as goal

pub drop_top-requires : goal.drop_top-requires
drop_top-requires c =
    let o = array_in (scope_of c.args.scope) c.args.x c.args.image.now.core in
    let h = subst (λ t. HasCells o (place_in t)) (sym c.as_slice-2.ensures.is) c.requires.there in
    let v = has_values o (place_in c.as_slice-2.result.now) h in
    let n = ap (λ (t : Kept). length t.core.values) (c.load_section.ensures v.0 v.1) in
    omega (arith, n, c.requires.numbers)
