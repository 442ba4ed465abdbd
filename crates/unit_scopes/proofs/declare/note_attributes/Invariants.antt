use Rattle.std.proofs.Common.{◌≡◌, drop, map}
use Rattle.fortran_tree.specs.DeclarationViews.{attribute}
use Rattle.rule_definitions.specs.Declarations.{attribute_breaks}
use Rattle.rule_definitions.specs.Judgements.{first_of}
use Rattle.unit_scopes.proofs.declare.note_attributes.Given as goal

abbrev pub invariant-loop-next : goal.invariant-loop-next
invariant-loop-next l = first_of l.first (attribute_breaks l.scope (map attribute (drop l.next-index l.written))) ≡ first_of l.initial.first (attribute_breaks l.scope (map attribute l.written))
