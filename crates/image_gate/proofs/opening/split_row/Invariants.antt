use Rattle.std.proofs.Common.{◌≤◌, length}
use Rattle.std.specs.Vec.{vec_capacity}
use Rattle.image_gate.specs.Rows.{IsRowOf, Grown}
use Rattle.image_gate.proofs.opening.split_row.Given as goal

abbrev pub invariant-loop-k : goal.invariant-loop-k
invariant-loop-k g l = (length l.gates.items ≤ vec_capacity l.row) × IsRowOf l.image.0 l.k l.initial.desks.items l.row.items × Grown l.image.0 l.k l.initial.desks.items l.desks.items
