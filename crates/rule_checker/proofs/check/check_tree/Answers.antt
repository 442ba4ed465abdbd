use Rattle.fortran_tree.specs.UnitViews as tree
use Rattle.rule_checker.proofs.Whole.{accepts, checks}
use Rattle.rule_checker.proofs.check.check_tree.Goals as goal

pub unreachable-requires : goal.unreachable-requires
unreachable-requires c =
    checks (tree.program c.args.program.now) _ _ c.in_ok-first.ensures.first c.in_ok-first.ensures.checked
    (search (c.in_ok-first.first-is, c.in_default.is)) (search (c.in_ok-first.checked-is, c.in_default-checked.is))

pub returns-clause-accepted : goal.returns-clause-accepted
returns-clause-accepted c =
    accepts (tree.program c.args.program.now) _ _ c.in-Some-checked.checked c.in_ok-first.ensures.first c.in_ok-first.ensures.checked
    (search (c.in_ok-first.first-is, c.in_default.is)) (search (c.in_ok-first.checked-is, c.in-Some-checked.is))
