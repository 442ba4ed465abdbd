use Rattle.std.proofs.Common.{inl}
use Rattle.crew.proofs.Going.{go_on_same}
use Rattle.crew.proofs.worker.settle.Goals as goal

pub returns-then-has_ended-clause-stays : goal.returns-then-has_ended-clause-stays
returns-then-has_ended-clause-stays g c = go_on_same g.M.Walker c.args.gates.now.board c.args.gates.now.memories.items c.args.members.now.items c.requires.passes

pub returns-then-has_ended-clause-through : goal.returns-then-has_ended-clause-through
returns-then-has_ended-clause-through g c = inl (c.has_ended.ensures c.if-has_ended.true)
