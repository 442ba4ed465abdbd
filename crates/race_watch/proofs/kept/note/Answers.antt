use Rattle.std.proofs.Common.{rules, ◌∙◌, ap, refl, map, ◌++◌, ◌∷◌, []}
use Rattle.std.proofs.lemmas.List.{map-append}
use Rattle.std.proofs.lemmas.Fn.{filter_same}
use Rattle.order_theory.specs.Marks.{stays}
use Rattle.race_watch.specs.Classes.{as_mark}
use Rattle.race_watch.proofs.MarkLists.{map_filter}
use Rattle.race_watch.proofs.kept.note.Goals as goal

pub returns : goal.returns
returns c =
    let q = c.args.q in
    let f = filter_same _ (λ k. stays (as_mark q) (as_mark k)) _ (λ x b f' k. search rules) _ _ c.retain.ensures.filtered in
    ap (map as_mark) c.in_ok-push.ensures.items ∙ map-append as_mark c.retain.new.self.items (q ∷ [])
    ∙ ap (λ z. z ++ as_mark q ∷ []) (ap (map as_mark) f ∙ map_filter as_mark (λ k. stays (as_mark q) (as_mark k)) (stays (as_mark q)) (λ x. refl) c.args.kept.now.items)
