use Rattle.std.proofs.Common.{◌∙◌, [], length, sym, ap, subst, get_or}
use Rattle.std.proofs.lemmas.List.{get_or_read}
use Rattle.std.proofs.lemmas.Bool.{ltb-true}
use Rattle.race_watch.specs.Classes.{MarksOf}
use Rattle.race_watch.proofs.row.Row.clashes.Goals as goal

pub clashes-requires : goal.clashes-requires
clashes-requires c =
    let l = c.in-Some.ensures.lookup in
    subst (MarksOf (length c.args.clock.now))
    (ap (λ z. get_or z c.args.offset []) (sym c.self.view_is ∙ sym c.deref.ensures.value) ∙ sym (get_or_read c.deref.result.now c.args.offset c.in-Some.kept.now (ltb-true _ _ (sym l.0)) l.1 []))
    (c.requires c.args.offset)
