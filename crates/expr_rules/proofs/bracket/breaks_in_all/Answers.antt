use Rattle.std.proofs.Common.{ap, sym, ◌∙◌}
use Rattle.std.specs.Prelude.{map, ◌++◌}
use Rattle.rule_definitions.specs.Arguments.{breaks_in_all}
use Rattle.part_rules.specs.Brackets.{actual_seen}
use Rattle.part_rules.proofs.Gathering.{mapped_behind}
use Rattle.expr_rules.proofs.Around.{breaks_behind}
use Rattle.expr_rules.proofs.bracket.breaks_in_all.Goals as goal

pub loop-actual-preserved : goal.loop-actual-preserved
loop-actual-preserved c =
    let xs = map actual_seen c.loop-actual.yielded in
    let x = actual_seen c.in-Some.actual in
    c.in_ok-add_all.ensures
    ∙ ap (λ bs. bs ++ c.in_ok-further.further.items) c.loop-actual.invariant
    ∙ ap (λ bs. breaks_in_all xs ++ bs) c.in_ok-further.ensures
    ∙ sym (ap breaks_in_all (mapped_behind actual_seen c.loop-actual.yielded c.in-Some.actual) ∙ breaks_behind xs x)
