use Rattle.std.proofs.Common.{◌≡◌, ◌++◌, drop, map}
use Rattle.std.specs.Option.{option_map}
use Rattle.checked_tree.specs.StatementViews.{allocation as allocation_seen}
use Rattle.fortran_tree.specs.ActionViews.{allocation}
use Rattle.rule_definitions.specs.Actions.{allocation_judged}
use Rattle.rule_definitions.specs.Judgements.{all_made}
use Rattle.part_rules.specs.Views.{list_of}
use Rattle.shared_rules.proofs.Turns.{behind}
use Rattle.allocation_rules.proofs.allocation.judge_objects.Given as goal

abbrev pub invariant-loop-object : goal.invariant-loop-object
invariant-loop-object l =
    (l.list.breaks.items ++ (all_made (map (allocation_judged l.scope) (map allocation (drop l.object-index l.objects)))).breaks ≡ (all_made (map (allocation_judged l.scope) (map allocation l.objects))).breaks)
    × (behind (option_map (map allocation_seen) (option_map list_of l.list.meaning)) (all_made (map (allocation_judged l.scope) (map allocation (drop l.object-index l.objects)))).meaning ≡ (all_made (map (allocation_judged l.scope) (map allocation l.objects))).meaning)
