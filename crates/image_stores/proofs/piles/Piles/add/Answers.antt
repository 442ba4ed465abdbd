use Rattle.std.proofs.Common.{◌∙◌, ap, sym, arith, reverse}
use Rattle.std.proofs.lemmas.List.{length-reverse}
use Rattle.image_stores.specs.Piles.{Piled, items_in}
use Rattle.image_stores.proofs.PileLaws.{piles_full}
use Rattle.image_stores.proofs.piles.Piles.add.Goals as goal

pub push_reserved-requires-2 : goal.push_reserved-requires-2
push_reserved-requires-2 g c =
    let l = length-reverse c.self.inside.items.items in
    let i = c.self.invariant in
    let a = ap (λ (s : Piled _ _). items_in s.piles) (sym c.self.view_is) ∙ piles_full (reverse c.self.inside.bases.items) (reverse c.self.inside.items.items) (omega arith) in
    let b = ap (λ (s : Piled _ _). s.size) (sym c.self.view_is) in
    let r = c.requires.room in
    omega arith
