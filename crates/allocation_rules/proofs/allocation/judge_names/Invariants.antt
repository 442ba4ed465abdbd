use Rattle.std.proofs.Common.{◌≡◌, ◌++◌, drop, map}
use Rattle.std.specs.Option.{option_map}
use Rattle.rule_definitions.specs.Actions.{deallocated}
use Rattle.rule_definitions.specs.Judgements.{all_made}
use Rattle.part_rules.specs.Views.{list_of}
use Rattle.shared_rules.proofs.Turns.{behind}
use Rattle.allocation_rules.proofs.allocation.judge_names.Given as goal

abbrev pub invariant-loop-name : goal.invariant-loop-name
invariant-loop-name l =
    (l.list.breaks.items ++ (all_made (map (deallocated l.scope) (drop l.name-index l.names))).breaks ≡ (all_made (map (deallocated l.scope) l.names)).breaks)
    × (behind (option_map list_of l.list.meaning) (all_made (map (deallocated l.scope) (drop l.name-index l.names))).meaning ≡ (all_made (map (deallocated l.scope) l.names)).meaning)
