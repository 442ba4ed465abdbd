use Rattle.std.proofs.Common.{◌∙◌, ap, refl}
use Rattle.image_stores.specs.Piles.{Piled, merged}
use Rattle.image_stores.proofs.PileLaws.{same_piled, merge_view}
use Rattle.image_stores.proofs.piles.Piles.merge.Goals as goal

pub returns : goal.returns
returns g c =
    same_piled _ _ _ _ _ _ (merge_view c.self.inside.bases.items c.take_last-upper.new.self.items c.take_last-lower.new.self.items c.push_reserved.new.self.items c.take_last-upper.result c.take_last-lower.result _ c.self.inside.items.items
    c.take_last-upper.ensures.items c.take_last-lower.ensures.items c.push_reserved.ensures.items refl refl) (c.push_reserved.ensures.capacity ∙ c.take_last-lower.ensures.capacity ∙ c.take_last-upper.ensures.capacity) refl
    ∙ ap (λ (s : Piled _ _). record { piles = merged s.piles; most = s.most; size = s.size }) c.self.view_is
