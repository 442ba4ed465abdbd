use Rattle.std.proofs.Common.{◌≡◌, length, map}
use Rattle.fortran_tree.specs.UnitViews as units
use Rattle.program_reader.specs.Nesting as nesting
use Rattle.program_reader.specs.Sequence as q
use Rattle.program_tree.specs.Rests as view
use Rattle.program_tree.proofs.unit.uses_of.Given as goal

abbrev pub invariant-loop-statement : goal.invariant-loop-statement
invariant-loop-statement l = (view.parts l.initial.rest ≡ nesting.use_parts (map units.use_statement l.uses.items) (view.parts l.rest)) × ((k : q.Scope) → view.Stands q.in_uses k l.initial.rest → view.Stands q.in_uses k l.rest)

abbrev pub decreases-loop-statement : goal.decreases-loop-statement
decreases-loop-statement l = length (view.left l.rest)
