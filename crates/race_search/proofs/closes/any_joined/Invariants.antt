use Rattle.std.proofs.Common.{◌≡◌, nat_le, drop}
use Rattle.std.specs.List.{list_any}
use Rattle.order_axioms.specs.Closes.{joined_by}
use Rattle.race_search.proofs.closes.any_joined.Given as goal

abbrev pub invariant-loop-image : goal.invariant-loop-image
invariant-loop-image l = list_any (λ j. nat_le l.round (joined_by l.team j l.before)) (drop l.image-index l.images) ≡ list_any (λ j. nat_le l.round (joined_by l.team j l.before)) l.images
