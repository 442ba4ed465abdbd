use Rattle.std.proofs.Common.{◌∙◌, ◌∷◌, ℤ, List, drop, ap, sym}
use Rattle.image_acts.specs.Frames.{pairs_in}
use Rattle.image_acts.specs.Places.{subscripts_in, numbers_in}
use Rattle.array_places.specs.Sections.{rested_from, subscript_in}
use Rattle.array_places.proofs.Rests.{rests_on}
use Rattle.array_places.proofs.Ways.{digit_subscripts}
use Rattle.array_places.proofs.empty.step.Goals as goal

pub returns-clause-goes : goal.returns-clause-goes
returns-clause-goes c = λ ds.
    let ns = c.args.place.now in
    let sub = subscript_in c.args.digit c.args.numbers.now in
    ap (rested_from ns (pairs_in c.args.bounds.now)) (digit_subscripts c.args.digit ds c.args.numbers.now c.if-digit-eq0.false)
    ∙ ap (λ (v : List ℤ). rested_from ns (pairs_in v) (sub ∷ subscripts_in ds (drop (numbers_in c.args.digit) c.args.numbers.now))) c.in-Some.ensures.some
    ∙ rests_on c.in-Some.lower.now c.in-Some.upper.now c.in_ok-subscripts.subscripts ns c.keep.new.place c.keep.ensures (pairs_in c.in-Some.rest.now) sub
    (subscripts_in ds (drop (numbers_in c.args.digit) c.args.numbers.now)) c.in_ok-subscripts.ensures.found
    ∙ ap (λ (v : List ℤ). rested_from c.keep.new.place (pairs_in c.in-Some.rest.now) (subscripts_in ds v)) (sym c.behind.ensures)
