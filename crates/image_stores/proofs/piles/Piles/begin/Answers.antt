use Rattle.std.proofs.Common.{◌∙◌, ap, sym, arith, length, reverse}
use Rattle.std.proofs.lemmas.List.{length-reverse}
use Rattle.image_stores.specs.Piles.{Piled}
use Rattle.image_stores.proofs.PileLaws.{piles_long}
use Rattle.image_stores.proofs.piles.Piles.begin.Goals as goal

pub push_reserved-requires : goal.push_reserved-requires
push_reserved-requires g c =
    let a = ap (λ (s : Piled _ _). length s.piles) (sym c.self.view_is) ∙ piles_long (reverse c.self.inside.bases.items) (reverse c.self.inside.items.items) ∙ length-reverse c.self.inside.bases.items in
    let b = ap (λ (s : Piled _ _). s.most) (sym c.self.view_is) in
    let r = c.requires in
    omega arith
