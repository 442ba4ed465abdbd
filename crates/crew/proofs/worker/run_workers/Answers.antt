use Rattle.std.proofs.Common.{◌≡◌, sym, subst, arith, length}
use Rattle.std.specs.Prelude.{slice_index_or}
use Rattle.std.proofs.lemmas.Grind.{common_steps}
use Rattle.crew.specs.declared.member.Worker.{Worker}
use Rattle.crew.specs.Crews.{GoOn}
use Rattle.crew.proofs.Going.{go_on_workers}
use Rattle.crew.proofs.worker.run_workers.Goals as goal

pub returns : goal.returns
returns g c =
    let gates = c.args.gates.now in
    let ws = c.args.workers.items in
    let vs = c.in_ok-done.done.items in
    let ok = c.args.workers.ok in
    let done = c.in_ok-done.done.ok in
    let len = c.in_ok-done.ensures.len in
    let many : length vs ≡ length ws = grind (arith, common_steps) in
    go_on_workers g.M.Walker gates.board gates.memories.items ws vs many (λ i d lt.
    (let e = (c.in_ok-done.ensures.each i d lt).1 in
    subst (λ (w : Worker g.row.M.Denot). GoOn g.M.Walker gates.board gates.memories.items w.members.items (slice_index_or vs i d).members.items) (sym (e.job_is d)) e.call.met))
