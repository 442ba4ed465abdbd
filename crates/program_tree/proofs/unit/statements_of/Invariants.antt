use Rattle.std.proofs.Common.{◌≡◌, length}
use Rattle.program_reader.specs.Sequence as q
use Rattle.program_tree.specs.Following.{MayFollow}
use Rattle.program_tree.specs.Blocks.{block_front, place}
use Rattle.program_tree.specs.Rests as view
use Rattle.program_tree.proofs.unit.statements_of.Given as goal

abbrev pub invariant-loop-part : goal.invariant-loop-part
invariant-loop-part l = (view.parts l.initial.rest ≡ block_front l.block (view.parts l.rest)) × ((k : q.Scope) → view.Stands q.in_statements k l.initial.rest → MayFollow (place (q.staged q.in_statements k) l.block) (view.parts l.rest))

abbrev pub decreases-loop-part : goal.decreases-loop-part
decreases-loop-part l = length (view.left l.rest)
