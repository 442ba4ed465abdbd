use Rattle.std.proofs.Common.{ap, sym, ◌∙◌, map}
use Rattle.std.specs.Prelude.{◌++◌}
use Rattle.std.proofs.lemmas.List.{append_assoc}
use Rattle.part_rules.proofs.Gathering.{mapped_behind}
use Rattle.rule_definitions.specs.Specifiers.{value_breaks, values_breaks}
use Rattle.specifier_rules.specs.Values.{values_named, with_value}
use Rattle.specifier_rules.specs.Views.{written}
use Rattle.specifier_rules.proofs.Words.{breaks_behind, values_behind}
use Rattle.specifier_rules.proofs.value.values_of.Goals as goal

pub loop-next-preserved : goal.loop-next-preserved
loop-next-preserved c =
    let before = c.args.breaks.now.items in
    let ws = map written c.loop-next.yielded in
    let w = written c.in-Some.next in
    let one = mapped_behind written c.loop-next.yielded c.in-Some.next in (
      c.in_ok-take_value.ensures.breaks
          ∙ ap (λ bs. bs ++ value_breaks w) c.loop-next.invariant.0
          ∙ append_assoc before (values_breaks ws) (value_breaks w)
          ∙ sym (ap (λ ys. before ++ values_breaks ys) one ∙ ap (λ bs. before ++ bs) (breaks_behind ws w)),
      c.in_ok-take_value.ensures.values
          ∙ ap (λ v. with_value v w) c.loop-next.invariant.1
          ∙ sym (ap values_named one ∙ values_behind ws w),
    )
