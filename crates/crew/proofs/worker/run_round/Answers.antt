use Rattle.std.proofs.Common.{◌≡◌, ◌<◌, arith, length}
use Rattle.std.proofs.lemmas.Grind.{common_steps}
use Rattle.atomic_table.proofs.Lists.{at_index}
use Rattle.crew.proofs.Going.{as_many, go_on_same, go_on_set, passes_after}
use Rattle.crew.proofs.worker.run_round.Goals as goal

pub loop-j-init : goal.loop-j-init
loop-j-init g c = go_on_same g.M.Walker c.args.gates.now.board c.args.gates.now.memories.items c.args.members.now.items c.requires.passes

pub index_mut-requires : goal.index_mut-requires
index_mut-requires g c =
    let gates = c.args.gates.now in
    let many = as_many g.M.Walker gates.board gates.memories.items c.args.members.now.items c.loop-j.members.items c.loop-j.invariant in
    let ok = c.loop-j.members.ok in
    let all = c.args.members.now.ok in
    let lt : c.loop-j.j < length c.loop-j.members.items = grind (arith, common_steps) in
    grind (arith, common_steps)

pub run_part-requires-clause-passes : goal.run_part-requires-clause-passes
run_part-requires-clause-passes g c =
    let gates = c.args.gates.now in
    let many = as_many g.M.Walker gates.board gates.memories.items c.args.members.now.items c.loop-j.members.items c.loop-j.invariant in
    let ok = c.loop-j.members.ok in
    let all = c.args.members.now.ok in
    let lt : c.loop-j.j < length c.loop-j.members.items = grind (arith, common_steps) in
    passes_after g.M.Walker gates.board gates.memories.items c.args.members.now.items c.loop-j.members.items c.loop-j.invariant c.loop-j.j c.index_mut.result.now (at_index _ _ _ lt c.index_mut.ensures.value)

pub returns-in_err-part : goal.returns-in_err-part
returns-in_err-part g c =
    let gates = c.args.gates.now in
    let many = as_many g.M.Walker gates.board gates.memories.items c.args.members.now.items c.loop-j.members.items c.loop-j.invariant in
    let ok = c.loop-j.members.ok in
    let all = c.args.members.now.ok in
    let lt : c.loop-j.j < length c.loop-j.members.items = grind (arith, common_steps) in
    record { stays = go_on_set g.M.Walker gates.board gates.memories.items c.args.members.now.items c.loop-j.members.items c.loop-j.j c.index_mut.result.now c.run_part.new.member (at_index _ _ _ lt c.index_mut.ensures.value) c.run_part.ensures.stays c.loop-j.invariant }

pub loop-j-preserved : goal.loop-j-preserved
loop-j-preserved g c =
    let gates = c.args.gates.now in
    let many = as_many g.M.Walker gates.board gates.memories.items c.args.members.now.items c.loop-j.members.items c.loop-j.invariant in
    let ok = c.loop-j.members.ok in
    let all = c.args.members.now.ok in
    let lt : c.loop-j.j < length c.loop-j.members.items = grind (arith, common_steps) in
    go_on_set g.M.Walker gates.board gates.memories.items c.args.members.now.items c.loop-j.members.items c.loop-j.j c.index_mut.result.now c.run_part.new.member (at_index _ _ _ lt c.index_mut.ensures.value) c.run_part.ensures.stays c.loop-j.invariant
