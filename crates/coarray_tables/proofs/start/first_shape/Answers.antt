use Rattle.std.proofs.Common.{rules, ◌≡◌, ◌∙◌, ℕ, ℤ, List, Some, false, ap}
use Rattle.image_acts.specs.Frames.{pairs_numbers}
use Rattle.coarray_tables.specs.Owns.{own_of}
use Rattle.coarray_tables.specs.Start.{cobound_numbers}
use Rattle.coarray_tables.proofs.Beginning.{first_is}
use Rattle.coarray_tables.proofs.start.first_shape.Goals as goal

pub returns : goal.returns
returns c =
    let a : c.args.coarray.now.is_allocatable ≡ false = search rules in
    ap (λ (t : ℕ). Some (own_of (record { bounds = c.bound_numbers.result; cobounds = c.cobound_numbers.result; team = t }))) c.from.ensures
    ∙ first_is c.args.coarray.now c.bound_numbers.result c.cobound_numbers.result a (c.bound_numbers.ensures ∙ ap pairs_numbers c.as_slice.ensures)
    (c.cobound_numbers.ensures ∙ ap (λ (vs : List ℤ). cobound_numbers vs c.as_slice-3.result.now) c.as_slice-2.ensures ∙ ap (cobound_numbers c.args.coarray.now.lower_cobounds) c.as_slice-3.ensures)
    (c.requires a).cobounds
