use Rattle.std.proofs.Common.{◌≡◌, drop, map}
use Rattle.fortran_tree.specs.DeclarationViews.{declaration}
use Rattle.declaration_rules.specs.Entities.{unit}
use Rattle.unit_scopes.specs.Telling.{behind, of_all, told}
use Rattle.unit_scopes.proofs.declare.declare_all.Given as goal

abbrev pub invariant-loop-next : goal.invariant-loop-next
invariant-loop-next l =
    behind (of_all (unit l.of) (map declaration (drop l.next-index l.declarations))) (told l.setting l.grown)
    ≡ behind (of_all (unit l.of) (map declaration l.declarations)) (told l.setting l.initial.grown)
