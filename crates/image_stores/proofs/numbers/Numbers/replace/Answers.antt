use Rattle.std.proofs.Common.{slice_set, ◌∙◌, ap, ◌-◌, w64, ◌<◌, length, arith, ◌≡◌}
use Rattle.std.proofs.lemmas.Int.{to_z-of_z}
use Rattle.image_stores.specs.Numbers.{Pile, below}
use Rattle.image_stores.proofs.NumberLaws.{replace_view, below_length}
use Rattle.image_stores.proofs.numbers.Numbers.replace.Goals as goal

pub returns : goal.returns
returns c =
    let e : c.args.self.now ≡ record { values = below c.self.inside.cells.items c.self.inside.used; size = length c.self.inside.cells.items } = search (c.self.view_is) in
    let r : 1 < length c.args.self.now.values = c.requires in
    let m : length c.args.self.now.values ≡ c.self.inside.used = ap (λ (h : Pile). length h.values) e ∙ below_length c.self.inside.cells.items c.self.inside.used in
    replace_view c.self.inside.cells.items c.write.new.cells.items c.self.inside.used c.args.v _ e (omega arith) c.self.invariant (c.write.ensures ∙ ap (λ v. slice_set c.self.inside.cells.items (c.self.inside.used - 2) v) (to_z-of_z w64 c.args.v c.ranges.v))
