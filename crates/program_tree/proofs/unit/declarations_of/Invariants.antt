use Rattle.std.proofs.Common.{◌≡◌, length, map}
use Rattle.fortran_tree.specs.DeclarationViews as declarations
use Rattle.program_reader.specs.Nesting as nesting
use Rattle.program_reader.specs.Sequence as q
use Rattle.program_tree.specs.Rests as view
use Rattle.program_tree.proofs.unit.declarations_of.Given as goal

abbrev pub invariant-loop-declaration : goal.invariant-loop-declaration
invariant-loop-declaration l = (view.parts l.initial.rest ≡ nesting.declaration_parts (map declarations.declaration l.found.items) (view.parts l.rest)) × ((k : q.Scope) → view.Stands q.in_declarations k l.initial.rest → view.Stands q.in_declarations k l.rest)

abbrev pub decreases-loop-declaration : goal.decreases-loop-declaration
decreases-loop-declaration l = length (view.left l.rest)
