use Rattle.std.proofs.Common.{◌<◌, ◌≤◌, length, sym, subst, arith}
use Rattle.std.proofs.lemmas.List.{get_or-map, length-map}
use Rattle.order_theory.specs.Marks as order
use Rattle.race_watch.specs.Classes.{as_mark, MarksOf}
use Rattle.race_watch.proofs.kept.Kept.clashes.Goals as goal

pub any-requires : goal.any-requires
any-requires c k d h =
    let items = c.self.inside.marks.items in
    let e = subst (MarksOf (length c.args.clock.now)) (sym c.self.view_is) c.requires in
    subst (λ (m : order.Mark). (0 < m.segment.image) × (m.segment.image ≤ length c.args.clock.now)) (get_or-map as_mark items k d (as_mark d) h) (e k (as_mark d) (omega (arith, length-map items as_mark)))
