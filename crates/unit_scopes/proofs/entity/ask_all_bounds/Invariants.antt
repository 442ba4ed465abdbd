use Rattle.std.proofs.Common.{◌≡◌, ◌++◌, drop, map}
use Rattle.fortran_tree.specs.DeclarationViews.{bounds as bounds_seen}
use Rattle.declaration_rules.specs.Bounds.{asked_bounds, bounds_asked_of}
use Rattle.unit_scopes.proofs.entity.ask_all_bounds.Given as goal

abbrev pub invariant-loop-next : goal.invariant-loop-next
invariant-loop-next l = map asked_bounds l.all.items ++ map (bounds_asked_of l.scope) (map bounds_seen (drop l.next-index l.bounds)) ≡ map (bounds_asked_of l.scope) (map bounds_seen l.bounds)
