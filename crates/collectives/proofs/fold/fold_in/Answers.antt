use Rattle.std.proofs.Common.{◌≡◌, Some, None, MatchResult, take, ap, sym, subst, ◌∙◌}
use Rattle.object_rules.specs.Folds.{combined_each}
use Rattle.collectives.specs.Combining.{op_of}
use Rattle.collectives.proofs.Folding.{each_cut}
use Rattle.collectives.proofs.fold.fold_in.Goals as goal

pub returns : goal.returns
returns c =
    let cut = each_cut (op_of c.args.op) c.args.kind c.args.total.now.items c.args.part.now.items in
    let same = c.truncate.ensures.items ∙ ap (λ n. take n c.args.total.now.items) c.len.ensures in
    subst (λ o. MatchResult c.fold_each.result (λ u. o ≡ Some c.fold_each.new.total.items) (λ u. o ≡ None)) (sym (cut ∙ ap (λ n. combined_each (op_of c.args.op) c.args.kind (take n c.args.total.now.items) c.args.part.now.items) (sym c.args.part.now.ok.0) ∙ ap (λ xs. combined_each (op_of c.args.op) c.args.kind xs c.args.part.now.items) (sym same))) c.fold_each.ensures
