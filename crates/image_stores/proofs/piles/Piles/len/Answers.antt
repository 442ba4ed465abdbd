use Rattle.std.proofs.Common.{◌≡◌, vec_len, rules, ◌∙◌, ap, sym, length, reverse}
use Rattle.std.proofs.lemmas.List.{length-reverse}
use Rattle.image_stores.specs.Piles.{Piled}
use Rattle.image_stores.proofs.PileLaws.{piles_long}
use Rattle.image_stores.proofs.piles.Piles.len.Goals as goal

pub returns : goal.returns
returns g c = c.len.ensures ∙ (let v : vec_len c.self.inside.bases ≡ length c.self.inside.bases.items = search rules in v) ∙ sym (length-reverse c.self.inside.bases.items) ∙ sym (piles_long (reverse c.self.inside.bases.items) (reverse c.self.inside.items.items)) ∙ ap (λ (s : Piled _ _). length s.piles) c.self.view_is
