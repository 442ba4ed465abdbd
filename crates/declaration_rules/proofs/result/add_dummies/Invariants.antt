use Rattle.std.proofs.Common.{◌≡◌, drop}
use Rattle.rule_definitions.specs.Judgements.{first_of}
use Rattle.rule_definitions.specs.Names.{Scope}
use Rattle.rule_definitions.specs.Units.{with_dummies}
use Rattle.declaration_rules.specs.Entities.{unit}
use Rattle.declaration_rules.proofs.result.add_dummies.Given as goal

abbrev pub invariant-loop-dummy : goal.invariant-loop-dummy
invariant-loop-dummy l =
    ((s : Scope) → first_of l.first (with_dummies (unit l.of) (drop l.dummy-index l.dummies) (record s { own = l.own })).breaks ≡ first_of l.initial.first (with_dummies (unit l.of) l.dummies (record s { own = l.initial.own })).breaks)
    × ((s : Scope) → (with_dummies (unit l.of) (drop l.dummy-index l.dummies) (record s { own = l.own })).scope ≡ (with_dummies (unit l.of) l.dummies (record s { own = l.initial.own })).scope)
