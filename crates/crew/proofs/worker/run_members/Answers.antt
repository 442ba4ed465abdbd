use Rattle.crew.proofs.Going.{go_on_both, go_on_same, passes_after}
use Rattle.crew.proofs.worker.run_members.Goals as goal

pub loop-init : goal.loop-init
loop-init g c = go_on_same g.M.Walker c.args.gates.now.board c.args.gates.now.memories.items c.args.members.now.items c.requires.passes

pub run_round-requires-clause-passes : goal.run_round-requires-clause-passes
run_round-requires-clause-passes g c = passes_after g.M.Walker c.args.gates.now.board c.args.gates.now.memories.items c.args.members.now.items c.loop.members.items c.loop.invariant

pub returns-in_err-round : goal.returns-in_err-round
returns-in_err-round g c = go_on_both g.M.Walker c.args.gates.now.board c.args.gates.now.memories.items c.args.members.now.items c.loop.members.items c.run_round.new.members.items c.loop.invariant c.run_round.ensures.stays

pub returns-then-has_ended : goal.returns-then-has_ended
returns-then-has_ended g c = go_on_both g.M.Walker c.args.gates.now.board c.args.gates.now.memories.items c.args.members.now.items c.loop.members.items c.run_round.new.members.items c.loop.invariant c.run_round.ensures.stays

pub returns-then-rests : goal.returns-then-rests
returns-then-rests g c = go_on_both g.M.Walker c.args.gates.now.board c.args.gates.now.memories.items c.args.members.now.items c.loop.members.items c.run_round.new.members.items c.loop.invariant c.run_round.ensures.stays

pub loop-preserved : goal.loop-preserved
loop-preserved g c = go_on_both g.M.Walker c.args.gates.now.board c.args.gates.now.memories.items c.args.members.now.items c.loop.members.items c.run_round.new.members.items c.loop.invariant c.run_round.ensures.stays
