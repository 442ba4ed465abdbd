use Rattle.std.proofs.Common.{length}
use Rattle.coarray_tables.specs.Owns.{own_at}
use Rattle.coarray_steps.proofs.FormLaws.{place_fits}
use Rattle.coarray_steps.proofs.bounds.co_section.Goals as goal

pub put_numbers-requires-clause-room : goal.put_numbers-requires-clause-room
put_numbers-requires-clause-room c =
    let h = place_fits (own_at c.coarrays.result.now.coarrays c.args.coarray) c.args.form c.in-Some.numbers.now c.in-Ok.place c.numbers_of_form-n.result
    (length c.args.image.now.core.values) c.args.image.now.rooms.numbers c.in-Ok.ensures.found c.numbers_of_form-n.ensures.is c.requires in
    rw c.as_slice.ensures h
