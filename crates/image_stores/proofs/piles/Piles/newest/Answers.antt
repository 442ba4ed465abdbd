use Rattle.std.proofs.Common.{◌≡◌, ◌∙◌, ap, arith, length, reverse, vec_len, rules}
use Rattle.image_stores.specs.Piles.{Piled, newest}
use Rattle.image_stores.proofs.PileLaws.{newest_view}
use Rattle.image_stores.proofs.piles.Piles.newest.Goals as goal

pub returns : goal.returns
returns g c =
    let v : vec_len c.self.inside.bases ≡ length c.self.inside.bases.items = search rules in
    let w : vec_len c.self.inside.items ≡ length c.self.inside.items.items = search rules in
    let n = c.if-n-eq0.false in
    newest_view c.self.inside.bases.items c.index.result.now c.self.inside.items.items c.deref-2.result.now c.len-n.result c.len-end.result (omega arith) (c.len-n.ensures ∙ v) (c.len-end.ensures ∙ w) c.deref-2.ensures.value c.index.ensures c.self.invariant
    ∙ ap (λ (s : Piled _ _). reverse (newest s.piles)) c.self.view_is
