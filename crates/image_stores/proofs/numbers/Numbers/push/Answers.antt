use Rattle.image_stores.proofs.NumberLaws.{push_room, push_view}
use Rattle.std.proofs.Common.{slice_set, ◌∙◌, ap}
use Rattle.std.proofs.lemmas.Int.{to_z-of_z}
use Rattle.std.proofs.Common.{w64}
use Rattle.image_stores.proofs.numbers.Numbers.push.Goals as goal

pub invariant_of-self : goal.invariant_of-self
invariant_of-self c = push_room c.self.inside.cells.items c.write.new.cells.items c.self.inside.used c.args.v _ (search (c.self.view_is)) c.requires (c.write.ensures ∙ ap (λ v. slice_set c.self.inside.cells.items c.self.inside.used v) (to_z-of_z w64 c.args.v c.ranges.v))

pub returns : goal.returns
returns c = push_view c.self.inside.cells.items c.write.new.cells.items c.self.inside.used c.args.v _ (search (c.self.view_is)) c.requires (c.write.ensures ∙ ap (λ v. slice_set c.self.inside.cells.items c.self.inside.used v) (to_z-of_z w64 c.args.v c.ranges.v))
