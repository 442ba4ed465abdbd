use Rattle.std.proofs.Common.{◌≡◌, ◌∙◌, ◌-◌, ap, length, drop, take, rules}
use Rattle.image_stores.specs.Piles.{Piled}
use Rattle.image_stores.proofs.PileLaws.{same_piled, end_view}
use Rattle.image_stores.proofs.piles.Piles.end.Goals as goal

pub returns : goal.returns
returns g c = (
    let v : c.len.result ≡ length c.self.inside.items.items = c.len.ensures ∙ search rules in
    same_piled _ _ _ _ _ _ (end_view c.self.inside.bases.items c.take_last-base.new.self.items c.take_last-base.result c.self.inside.items.items c.truncate.new.self.items c.take_last-base.ensures.items c.self.invariant
    (c.truncate.ensures.items ∙ ap (λ n. take (n - c.take_last-base.result.count) c.self.inside.items.items) v)) c.take_last-base.ensures.capacity c.truncate.ensures.capacity
    ∙ ap (λ (s : Piled _ _). record { piles = drop 1 s.piles; most = s.most; size = s.size }) c.self.view_is)
