use Rattle.std.proofs.Common.{◌≡◌, [], ◌∷◌, sym, ◌∙◌, subst, rules}
use Rattle.caf_base.specs.declared.place.Place.TheVariants.{Memory}
use Rattle.trace_reader.specs.Reading.{PlaceHasText}
use Rattle.trace_reader.proofs.Boards.{at_memory, at_board, at_own, no_place}
use Rattle.trace_reader.proofs.ask.place_named.Goals as goal

pub returns-in_default : goal.returns-in_default
returns-in_default c place has is =
    let none : c.args.field.now ≡ [] = search rules in
    absurd (no_place place (sym none ∙ is))

pub returns-then-first-eq109 : goal.returns-then-first-eq109
returns-then-first-eq109 c place has is =
    let e : c.args.field.now ≡ c.in-Some.first.now ∷ c.in-Some.owner.now = search rules in
    let m = at_memory place _ _ (sym e ∙ is) c.if-first-eq109.true in
    let k = c.half_of.ensures m.0.0 (subst PlaceHasText m.2 has) m.1 in
    (λ i. Memory (record { 0 = k i })) ∙ sym m.2

pub returns-then-first-eq98 : goal.returns-then-first-eq98
returns-then-first-eq98 c place has is =
    let e : c.args.field.now ≡ c.in-Some.first.now ∷ c.in-Some.owner.now = search rules in
    at_board place _ _ (sym e ∙ is) c.if-first-eq98.true

pub returns : goal.returns
returns c place has is =
    let e : c.args.field.now ≡ c.in-Some.first.now ∷ c.in-Some.owner.now = search rules in
    at_own place _ _ (sym e ∙ is) c.if-first-eq109.false c.if-first-eq98.false
