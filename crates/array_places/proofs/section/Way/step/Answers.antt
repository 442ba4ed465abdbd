use Rattle.std.proofs.Common.{◌∙◌, ◌∷◌, ℤ, List, drop, ap, sym}
use Rattle.image_acts.specs.Frames.{pairs_in}
use Rattle.image_acts.specs.Places.{subscripts_in, numbers_in}
use Rattle.array_places.specs.Sections.{numbers_from, subscript_in}
use Rattle.array_places.proofs.Ways.{extent_small, wide_here, fine_behind, goes_on, digit_subscripts, place_some}
use Rattle.array_places.proofs.section.Way.step.Goals as goal

pub dimension-requires-clause-extent : goal.dimension-requires-clause-extent
dimension-requires-clause-extent c =
    extent_small c.in-Some.lower.now c.in-Some.upper.now c.args.self.now.apart c.args.self.now.start c.args.self.now.place c.args.bounds.now c.in-Some.rest.now c.in-Some.ensures.some c.requires.fine

pub take-requires-clause-wide : goal.take-requires-clause-wide
take-requires-clause-wide c =
    wide_here c.in-Some.lower.now c.in-Some.upper.now c.args.self.now.apart c.args.self.now.start c.args.self.now.place c.args.bounds.now c.in-Some.rest.now c.in-Some.ensures.some c.requires.fine

pub take-requires-clause-extent : goal.take-requires-clause-extent
take-requires-clause-extent c =
    extent_small c.in-Some.lower.now c.in-Some.upper.now c.args.self.now.apart c.args.self.now.start c.args.self.now.place c.args.bounds.now c.in-Some.rest.now c.in-Some.ensures.some c.requires.fine

pub returns-clause-goes : goal.returns-clause-goes
returns-clause-goes c = λ ds.
    let a = c.args.self.now.apart in
    let s = c.args.self.now.start in
    let ns = c.args.self.now.place in
    ap (numbers_from a s ns (pairs_in c.args.bounds.now)) (digit_subscripts c.args.digit ds c.args.numbers.now c.if-digit-eq0.false)
    ∙ ap (λ (v : List ℤ). numbers_from a s ns (pairs_in v) (subscript_in c.args.digit c.args.numbers.now ∷ subscripts_in ds (drop (numbers_in c.args.digit) c.args.numbers.now))) c.in-Some.ensures.some
    ∙ goes_on a c.take.new.self.apart s c.take.new.self.start ns c.take.new.self.place c.in-Some.lower.now c.in-Some.upper.now c.in_ok-subscripts.subscripts
    c.take.ensures.apart c.take.ensures.start c.take.ensures.place c.requires.fine.some (pairs_in c.in-Some.rest.now) (subscript_in c.args.digit c.args.numbers.now)
    (subscripts_in ds (drop (numbers_in c.args.digit) c.args.numbers.now)) c.in_ok-subscripts.ensures.found
    ∙ ap (λ (v : List ℤ). numbers_from c.take.new.self.apart c.take.new.self.start c.take.new.self.place (pairs_in c.in-Some.rest.now) (subscripts_in ds v)) (sym c.behind.ensures)

pub returns-clause-fine : goal.returns-clause-fine
returns-clause-fine c =
    fine_behind c.in-Some.lower.now c.in-Some.upper.now c.args.self.now.apart c.args.self.now.start c.args.self.now.place c.args.bounds.now c.in-Some.rest.now c.in-Some.ensures.some c.requires.fine
    c.take.new.self.apart c.take.new.self.start c.take.new.self.place c.take.ensures.apart c.take.ensures.less c.take.ensures.small
    (place_some _ _ _ c.args.self.now.place c.take.new.self.place c.requires.fine.some c.take.ensures.place)
