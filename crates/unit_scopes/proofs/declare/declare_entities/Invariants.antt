use Rattle.std.proofs.Common.{◌≡◌, drop, map}
use Rattle.fortran_tree.specs.DeclarationViews.{entity}
use Rattle.declaration_rules.specs.Entities.{attributes, unit}
use Rattle.unit_scopes.specs.Telling.{behind, of_entities, told}
use Rattle.unit_scopes.proofs.declare.declare_entities.Given as goal

abbrev pub invariant-loop-next : goal.invariant-loop-next
invariant-loop-next l =
    behind (of_entities (unit l.of) (attributes l.all) l.of_type (map entity (drop l.next-index l.entities))) (told l.setting l.grown)
    ≡ behind (of_entities (unit l.of) (attributes l.all) l.of_type (map entity l.entities)) (told l.setting l.initial.grown)
