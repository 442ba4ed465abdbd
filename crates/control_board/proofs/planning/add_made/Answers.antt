use Rattle.std.proofs.Common.{◌++◌, ap, sym, ◌∙◌, subst}
use Rattle.control_board.specs.Boards.{all_made, made_by_one, is_few, AllFew}
use Rattle.control_board.proofs.Formations.{made_last, few_last}
use Rattle.control_board.proofs.planning.add_made.Goals as goal

pub returns-in_ok-push-in-Some-clause-made : goal.returns-in_ok-push-in-Some-clause-made
returns-in_ok-push-in-Some-clause-made c =
    ap all_made c.in_ok-push-in-Some.ensures.items ∙ made_last c.args.formations.now.items c.in-Some.formation ∙ ap (λ o. all_made c.args.formations.now.items ++ made_by_one o) (sym c.in-Some.is)

pub returns-in_ok-push-in-Some-clause-few : goal.returns-in_ok-push-in-Some-clause-few
returns-in_ok-push-in-Some-clause-few c before =
    subst AllFew (sym c.in_ok-push-in-Some.ensures.items) (few_last c.args.formations.now.items c.in-Some.formation before (subst is_few c.in-Some.is c.requires))
