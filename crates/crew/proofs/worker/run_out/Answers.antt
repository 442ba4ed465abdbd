use Rattle.std.proofs.Common.{rules, ◌≡◌, ◌<◌, ◌≤◌, ◌∙◌, sym, ap, subst, arith, inl, inr, length, length-set, set, ℕ}
use Rattle.std.proofs.lemmas.Grind.{common_steps}
use Rattle.atomic_table.proofs.Lists.{at_index}
use Rattle.image_gate.proofs.Rows.{is_there}
use Rattle.crew.proofs.Going.{as_many, ended_by, go_on_same, go_on_set, passes_after, wait_more}
use Rattle.crew.proofs.worker.run_out.Goals as goal

pub loop-j-init : goal.loop-j-init
loop-j-init g c = (go_on_same g.M.Walker c.args.gates.now.board c.args.gates.now.memories.items c.args.members.now.items c.requires.passes, λ k m lt at. absurd (omega arith))

pub index_mut-requires : goal.index_mut-requires
index_mut-requires g c =
    let gates = c.args.gates.now in
    let many = as_many g.M.Walker gates.board gates.memories.items c.args.members.now.items c.loop-j.members.items c.loop-j.invariant.0 in
    let ok = c.loop-j.members.ok in
    let all = c.args.members.now.ok in
    let lt : c.loop-j.j < length c.loop-j.members.items = grind (arith, common_steps) in
    grind (arith, common_steps)

pub run_member-requires-clause-passes : goal.run_member-requires-clause-passes
run_member-requires-clause-passes g c =
    let gates = c.args.gates.now in
    let many = as_many g.M.Walker gates.board gates.memories.items c.args.members.now.items c.loop-j.members.items c.loop-j.invariant.0 in
    let ok = c.loop-j.members.ok in
    let all = c.args.members.now.ok in
    let lt : c.loop-j.j < length c.loop-j.members.items = grind (arith, common_steps) in
    passes_after g.M.Walker gates.board gates.memories.items c.args.members.now.items c.loop-j.members.items c.loop-j.invariant.0 c.loop-j.j c.index_mut.result.now (at_index _ _ _ lt c.index_mut.ensures.value)

pub returns-in_err-run_member-clause-stays : goal.returns-in_err-run_member-clause-stays
returns-in_err-run_member-clause-stays g c =
    let gates = c.args.gates.now in
    let many = as_many g.M.Walker gates.board gates.memories.items c.args.members.now.items c.loop-j.members.items c.loop-j.invariant.0 in
    let ok = c.loop-j.members.ok in
    let all = c.args.members.now.ok in
    let lt : c.loop-j.j < length c.loop-j.members.items = grind (arith, common_steps) in
    go_on_set g.M.Walker gates.board gates.memories.items c.args.members.now.items c.loop-j.members.items c.loop-j.j c.index_mut.result.now c.run_member.new.member (at_index _ _ _ lt c.index_mut.ensures.value) c.run_member.ensures.stays c.loop-j.invariant.0

pub index-requires : goal.index-requires
index-requires g c =
    let gates = c.args.gates.now in
    let many = as_many g.M.Walker gates.board gates.memories.items c.args.members.now.items c.loop-j.members.items c.loop-j.invariant.0 in
    let ok = c.loop-j.members.ok in
    let all = c.args.members.now.ok in
    let lt : c.loop-j.j < length c.loop-j.members.items = grind (arith, common_steps) in
    grind (arith, common_steps)

pub returns-then-ended_run-clause-stays : goal.returns-then-ended_run-clause-stays
returns-then-ended_run-clause-stays g c =
    let gates = c.args.gates.now in
    let many = as_many g.M.Walker gates.board gates.memories.items c.args.members.now.items c.loop-j.members.items c.loop-j.invariant.0 in
    let ok = c.loop-j.members.ok in
    let all = c.args.members.now.ok in
    let lt : c.loop-j.j < length c.loop-j.members.items = grind (arith, common_steps) in
    go_on_set g.M.Walker gates.board gates.memories.items c.args.members.now.items c.loop-j.members.items c.loop-j.j c.index_mut.result.now c.run_member.new.member (at_index _ _ _ lt c.index_mut.ensures.value) c.run_member.ensures.stays c.loop-j.invariant.0

pub returns-then-ended_run-clause-through : goal.returns-then-ended_run-clause-through
returns-then-ended_run-clause-through g c =
    let gates = c.args.gates.now in
    let many = as_many g.M.Walker gates.board gates.memories.items c.args.members.now.items c.loop-j.members.items c.loop-j.invariant.0 in
    let ok = c.loop-j.members.ok in
    let all = c.args.members.now.ok in
    let lt : c.loop-j.j < length c.loop-j.members.items = grind (arith, common_steps) in
    inl (record {
      place = c.loop-j.j;
      member = c.index.result.now;
      at = at_index _ _ _ (subst (λ n. c.loop-j.j < n) (sym (length-set c.loop-j.members.items c.loop-j.j c.run_member.new.member)) lt) c.index.ensures;
      ends = ended_by c.index.result.now.run.events.items c.ended_run.result c.ended_run.ensures.last c.ended_run.ensures.none c.if-ended_run.true;
    })

pub loop-j-preserved : goal.loop-j-preserved
loop-j-preserved g c =
    let gates = c.args.gates.now in
    let many = as_many g.M.Walker gates.board gates.memories.items c.args.members.now.items c.loop-j.members.items c.loop-j.invariant.0 in
    let ok = c.loop-j.members.ok in
    let all = c.args.members.now.ok in
    let lt : c.loop-j.j < length c.loop-j.members.items = grind (arith, common_steps) in (
      go_on_set g.M.Walker gates.board gates.memories.items c.args.members.now.items c.loop-j.members.items c.loop-j.j c.index_mut.result.now c.run_member.new.member (at_index _ _ _ lt c.index_mut.ensures.value) c.run_member.ensures.stays c.loop-j.invariant.0,
      wait_more g.M.Walker gates.board gates.memories.items g.O.Object g.B.Object c.loop-j.members.items c.loop-j.j c.run_member.new.member c.loop-j.invariant.1 c.in_ok-run_member.ensures.waits,
    )

pub returns-clause-through : goal.returns-clause-through
returns-clause-through g c =
    let gates = c.args.gates.now in
    let many = as_many g.M.Walker gates.board gates.memories.items c.args.members.now.items c.loop-j.members.items c.loop-j.invariant.0 in
    let ok = c.loop-j.members.ok in
    let all = c.args.members.now.ok in
    inr (λ k m at. c.loop-j.invariant.1 k m (let l = is_there c.loop-j.members.items k m at in grind (arith, common_steps)) at)
