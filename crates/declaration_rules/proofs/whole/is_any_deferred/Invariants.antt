use Rattle.std.proofs.Common.{◌≡◌, drop, map}
use Rattle.fortran_tree.specs.DeclarationViews.{dimension}
use Rattle.rule_definitions.specs.Declarations.{any_deferred}
use Rattle.declaration_rules.proofs.whole.is_any_deferred.Given as goal

abbrev pub invariant-loop-next : goal.invariant-loop-next
invariant-loop-next l = any_deferred (map dimension (drop l.next-index l.dimensions)) ≡ any_deferred (map dimension l.dimensions)
