use Rattle.std.proofs.Common.{◌≡◌, drop, map}
use Rattle.fortran_tree.specs.DeclarationViews.{attribute}
use Rattle.rule_definitions.specs.Declarations.{attributes_of, no_attributes}
use Rattle.declaration_rules.specs.Entities.{attributes}
use Rattle.declaration_rules.proofs.attribute.attributes_written.Given as goal

abbrev pub invariant-loop-next : goal.invariant-loop-next
invariant-loop-next l = attributes_of (attributes l.all) (map attribute (drop l.next-index l.written)) ≡ attributes_of no_attributes (map attribute l.written)
