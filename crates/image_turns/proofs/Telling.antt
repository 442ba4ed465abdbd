-- Whether an image made a step, told by its events.
use Rattle.std.proofs.Common.{ap, arith, refl, Bool, true, false, List, length}
use Rattle.caf_events.specs.declared.event.Event.{Event}
use Rattle.image_turns.specs.Turns.{HasMade}

-- a further step
pub made_more : (before between after : List Event) (moved : Bool) → HasMade before between moved → HasMade between after true → HasMade before after true
made_more before between after true h g = let first = h.some refl in let second = g.some refl in record { some = λ t. omega arith; none = λ f. absurd (cc) }
made_more before between after false h g = let first = ap length (h.none refl) in let second = g.some refl in record { some = λ t. omega arith; none = λ f. absurd (cc) }
