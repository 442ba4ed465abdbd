use Rattle.std.proofs.Common.{rules, ◌≡◌, ◌∙◌, ◌<◌, ap, arith, length, subst, sym, refl, vec_len}
use Rattle.image_stores.specs.Piles.{Piled, newest, with_last}
use Rattle.image_stores.proofs.PileLaws.{same_piled, some_item, last_view}
use Rattle.image_stores.proofs.piles.Piles.set_last.Goals as goal

pub take_last-last-requires : goal.take_last-last-requires
take_last-last-requires g c =
    let w : vec_len c.self.inside.items ≡ length c.self.inside.items.items = search rules in
    let s = some_item c.self.inside.bases.items c.self.inside.items.items c.args.self.now _ _ c.self.view_is c.requires in
    omega arith

pub returns : goal.returns
returns g c =
    let p : 0 < length (newest c.args.self.now.piles) = c.requires in
    same_piled _ _ _ _ _ _
    (last_view c.self.inside.bases.items c.self.inside.items.items c.take_last-last.new.self.items c.push_reserved.new.self.items c.args.item c.take_last-last.result c.take_last-last.ensures.items c.push_reserved.ensures.items
    (subst (λ (s : Piled _ _). 0 < length (newest s.piles)) (sym c.self.view_is) p))
    refl (c.push_reserved.ensures.capacity ∙ c.take_last-last.ensures.capacity)
    ∙ ap (λ (s : Piled _ _). record { piles = with_last c.args.item s.piles; most = s.most; size = s.size }) c.self.view_is
