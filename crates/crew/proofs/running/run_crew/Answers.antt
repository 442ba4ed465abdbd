use Rattle.std.proofs.Common.{sym, subst}
use Rattle.image_gate.specs.declared.gates.Gates.{Gates}
use Rattle.crew.specs.Crews.{AllHavePasses, GoOn, IsThrough, members_of}
use Rattle.crew.proofs.Going.{passes_after}
use Rattle.crew.proofs.Whole.{each_empty, ready_first, gone_on, count_back, passes_back, sound_back, kept_back, left_back, number_back}
use Rattle.crew.proofs.running.run_crew.Goals as goal

pub new-requires-clause-memories : goal.new-requires-clause-memories
new-requires-clause-memories g c = each_empty g.O.Object.history c.args.parts.memories.items _ c.requires.first.histories

pub run_workers-requires-clause-passes : goal.run_workers-requires-clause-passes
run_workers-requires-clause-passes g c κs within =
    let fabric = c.in_ok-fabric.fabric.gates in
    subst (λ (x : Gates g.row.O.Denot g.row.B.Denot). AllHavePasses x.board x.memories.items c.in_ok-workers.workers.items) (sym c.gates-gates.ensures)
    (ready_first g.M.Walker g.O.Object g.B.Object c.args.parts c.requires.sound c.requires.first fabric.board fabric.memories.items c.in_ok-fabric.passes.items c.in_ok-fabric.ensures
    c.in_ok-members.members.items c.in_ok-members.ensures.images c.in_ok-members.ensures.passes c.in_ok-workers.workers.items c.in_ok-workers.ensures)

pub settle-requires-clause-passes : goal.settle-requires-clause-passes
settle-requires-clause-passes g c =
    passes_after g.M.Walker c.gates-gates.result.now.board c.gates-gates.result.now.memories.items (members_of c.in_ok-workers.workers.items) c.in_ok-back.back.items
    (subst (λ l. GoOn g.M.Walker c.gates-gates.result.now.board c.gates-gates.result.now.memories.items (members_of c.in_ok-workers.workers.items) l) (sym c.in_ok-back.ensures) c.in_ok-done.ensures)

pub close-requires-clause-count : goal.close-requires-clause-count
close-requires-clause-count g c =
    let fabric = c.in_ok-fabric.fabric.gates in
    let ran = subst (λ (x : Gates g.row.O.Denot g.row.B.Denot). GoOn g.M.Walker x.board x.memories.items (members_of c.in_ok-workers.workers.items) (members_of c.in_ok-done.done.items)) c.gates-gates.ensures c.in_ok-done.ensures in
    let settled = subst (λ (x : Gates g.row.O.Denot g.row.B.Denot). GoOn g.M.Walker x.board x.memories.items c.in_ok-back.back.items c.settle.new.members.items) c.gates-gates.ensures c.settle.ensures.stays in
    let goes =
    gone_on g.M.Walker g.O.Object g.B.Object c.args.parts c.requires.sound c.requires.first fabric.board fabric.memories.items c.in_ok-fabric.passes.items c.in_ok-fabric.ensures
    c.in_ok-members.members.items c.in_ok-members.ensures.images c.in_ok-members.ensures.passes c.in_ok-workers.workers.items c.in_ok-workers.ensures
    c.in_ok-done.done.items c.in_ok-back.back.items c.settle.new.members.items ran c.in_ok-back.ensures settled in
    count_back g.M.Walker g.O.Object g.B.Object c.args.parts c.requires.sound c.requires.first fabric.board fabric.memories.items c.in_ok-fabric.passes.items c.in_ok-fabric.ensures
    c.in_ok-members.members.items c.in_ok-members.ensures.images c.in_ok-members.ensures.passes c.in_ok-workers.workers.items c.in_ok-workers.ensures c.settle.new.members.items goes c.in_ok-images.passes.items c.in_ok-images.ensures.passes

pub close-requires-clause-passes : goal.close-requires-clause-passes
close-requires-clause-passes g c =
    let fabric = c.in_ok-fabric.fabric.gates in
    let ran = subst (λ (x : Gates g.row.O.Denot g.row.B.Denot). GoOn g.M.Walker x.board x.memories.items (members_of c.in_ok-workers.workers.items) (members_of c.in_ok-done.done.items)) c.gates-gates.ensures c.in_ok-done.ensures in
    let settled = subst (λ (x : Gates g.row.O.Denot g.row.B.Denot). GoOn g.M.Walker x.board x.memories.items c.in_ok-back.back.items c.settle.new.members.items) c.gates-gates.ensures c.settle.ensures.stays in
    let goes =
    gone_on g.M.Walker g.O.Object g.B.Object c.args.parts c.requires.sound c.requires.first fabric.board fabric.memories.items c.in_ok-fabric.passes.items c.in_ok-fabric.ensures
    c.in_ok-members.members.items c.in_ok-members.ensures.images c.in_ok-members.ensures.passes c.in_ok-workers.workers.items c.in_ok-workers.ensures
    c.in_ok-done.done.items c.in_ok-back.back.items c.settle.new.members.items ran c.in_ok-back.ensures settled in
    passes_back g.M.Walker g.O.Object g.B.Object c.args.parts c.requires.sound c.requires.first fabric.board fabric.memories.items c.in_ok-fabric.passes.items c.in_ok-fabric.ensures
    c.in_ok-members.members.items c.in_ok-members.ensures.images c.in_ok-members.ensures.passes c.in_ok-workers.workers.items c.in_ok-workers.ensures c.settle.new.members.items goes c.in_ok-images.passes.items c.in_ok-images.ensures.passes

pub returns-clause-sound : goal.returns-clause-sound
returns-clause-sound g c =
    let fabric = c.in_ok-fabric.fabric.gates in
    let ran = subst (λ (x : Gates g.row.O.Denot g.row.B.Denot). GoOn g.M.Walker x.board x.memories.items (members_of c.in_ok-workers.workers.items) (members_of c.in_ok-done.done.items)) c.gates-gates.ensures c.in_ok-done.ensures in
    let settled = subst (λ (x : Gates g.row.O.Denot g.row.B.Denot). GoOn g.M.Walker x.board x.memories.items c.in_ok-back.back.items c.settle.new.members.items) c.gates-gates.ensures c.settle.ensures.stays in
    let goes =
    gone_on g.M.Walker g.O.Object g.B.Object c.args.parts c.requires.sound c.requires.first fabric.board fabric.memories.items c.in_ok-fabric.passes.items c.in_ok-fabric.ensures
    c.in_ok-members.members.items c.in_ok-members.ensures.images c.in_ok-members.ensures.passes c.in_ok-workers.workers.items c.in_ok-workers.ensures
    c.in_ok-done.done.items c.in_ok-back.back.items c.settle.new.members.items ran c.in_ok-back.ensures settled in
    sound_back g.M.Walker g.O.Object g.B.Object c.args.parts c.requires.sound c.requires.first fabric.board fabric.memories.items c.in_ok-fabric.passes.items c.in_ok-fabric.ensures
    c.in_ok-members.members.items c.in_ok-members.ensures.images c.in_ok-members.ensures.passes c.in_ok-workers.workers.items c.in_ok-workers.ensures c.settle.new.members.items goes
    (record { images = c.in_ok-images.images; memories = c.in_ok-memories.memories; board = c.in_ok-memories.board }) c.in_ok-images.passes.items c.in_ok-images.ensures.passes c.in_ok-images.ensures.images
    c.in_ok-memories.ensures.board c.in_ok-memories.ensures.count c.in_ok-memories.ensures.memories

pub returns-clause-kept : goal.returns-clause-kept
returns-clause-kept g c =
    let fabric = c.in_ok-fabric.fabric.gates in
    let ran = subst (λ (x : Gates g.row.O.Denot g.row.B.Denot). GoOn g.M.Walker x.board x.memories.items (members_of c.in_ok-workers.workers.items) (members_of c.in_ok-done.done.items)) c.gates-gates.ensures c.in_ok-done.ensures in
    let settled = subst (λ (x : Gates g.row.O.Denot g.row.B.Denot). GoOn g.M.Walker x.board x.memories.items c.in_ok-back.back.items c.settle.new.members.items) c.gates-gates.ensures c.settle.ensures.stays in
    let goes =
    gone_on g.M.Walker g.O.Object g.B.Object c.args.parts c.requires.sound c.requires.first fabric.board fabric.memories.items c.in_ok-fabric.passes.items c.in_ok-fabric.ensures
    c.in_ok-members.members.items c.in_ok-members.ensures.images c.in_ok-members.ensures.passes c.in_ok-workers.workers.items c.in_ok-workers.ensures
    c.in_ok-done.done.items c.in_ok-back.back.items c.settle.new.members.items ran c.in_ok-back.ensures settled in
    kept_back g.M.Walker g.O.Object g.B.Object c.args.parts c.requires.sound c.requires.first fabric.board fabric.memories.items c.in_ok-fabric.passes.items c.in_ok-fabric.ensures
    c.in_ok-members.members.items c.in_ok-members.ensures.images c.in_ok-members.ensures.passes c.in_ok-workers.workers.items c.in_ok-workers.ensures c.settle.new.members.items goes
    (record { images = c.in_ok-images.images; memories = c.in_ok-memories.memories; board = c.in_ok-memories.board }) c.in_ok-images.passes.items c.in_ok-images.ensures.passes c.in_ok-images.ensures.images
    c.in_ok-memories.ensures.board c.in_ok-memories.ensures.count c.in_ok-memories.ensures.memories

pub returns-clause-left : goal.returns-clause-left
returns-clause-left g c =
    let fabric = c.in_ok-fabric.fabric.gates in
    let ran = subst (λ (x : Gates g.row.O.Denot g.row.B.Denot). GoOn g.M.Walker x.board x.memories.items (members_of c.in_ok-workers.workers.items) (members_of c.in_ok-done.done.items)) c.gates-gates.ensures c.in_ok-done.ensures in
    let settled = subst (λ (x : Gates g.row.O.Denot g.row.B.Denot). GoOn g.M.Walker x.board x.memories.items c.in_ok-back.back.items c.settle.new.members.items) c.gates-gates.ensures c.settle.ensures.stays in
    let goes =
    gone_on g.M.Walker g.O.Object g.B.Object c.args.parts c.requires.sound c.requires.first fabric.board fabric.memories.items c.in_ok-fabric.passes.items c.in_ok-fabric.ensures
    c.in_ok-members.members.items c.in_ok-members.ensures.images c.in_ok-members.ensures.passes c.in_ok-workers.workers.items c.in_ok-workers.ensures
    c.in_ok-done.done.items c.in_ok-back.back.items c.settle.new.members.items ran c.in_ok-back.ensures settled in
    let through = subst (λ (x : Gates g.row.O.Denot g.row.B.Denot). IsThrough g.O.Object g.B.Object x.board x.memories.items g.M.Walker c.settle.new.members.items) c.gates-gates.ensures c.in_ok-settle.ensures.through in
    left_back g.M.Walker g.O.Object g.B.Object c.args.parts c.requires.sound c.requires.first fabric.board fabric.memories.items c.in_ok-fabric.passes.items c.in_ok-fabric.ensures
    c.in_ok-members.members.items c.in_ok-members.ensures.images c.in_ok-members.ensures.passes c.in_ok-workers.workers.items c.in_ok-workers.ensures c.settle.new.members.items goes
    (record { images = c.in_ok-images.images; memories = c.in_ok-memories.memories; board = c.in_ok-memories.board }) c.in_ok-images.passes.items c.in_ok-images.ensures.passes c.in_ok-images.ensures.images
    c.in_ok-memories.ensures.board c.in_ok-memories.ensures.count c.in_ok-memories.ensures.memories through

pub returns-clause-count : goal.returns-clause-count
returns-clause-count g c =
    let fabric = c.in_ok-fabric.fabric.gates in
    let ran = subst (λ (x : Gates g.row.O.Denot g.row.B.Denot). GoOn g.M.Walker x.board x.memories.items (members_of c.in_ok-workers.workers.items) (members_of c.in_ok-done.done.items)) c.gates-gates.ensures c.in_ok-done.ensures in
    let settled = subst (λ (x : Gates g.row.O.Denot g.row.B.Denot). GoOn g.M.Walker x.board x.memories.items c.in_ok-back.back.items c.settle.new.members.items) c.gates-gates.ensures c.settle.ensures.stays in
    let goes =
    gone_on g.M.Walker g.O.Object g.B.Object c.args.parts c.requires.sound c.requires.first fabric.board fabric.memories.items c.in_ok-fabric.passes.items c.in_ok-fabric.ensures
    c.in_ok-members.members.items c.in_ok-members.ensures.images c.in_ok-members.ensures.passes c.in_ok-workers.workers.items c.in_ok-workers.ensures
    c.in_ok-done.done.items c.in_ok-back.back.items c.settle.new.members.items ran c.in_ok-back.ensures settled in
    number_back g.M.Walker g.O.Object g.B.Object c.args.parts c.requires.sound c.requires.first fabric.board fabric.memories.items c.in_ok-fabric.passes.items c.in_ok-fabric.ensures
    c.in_ok-members.members.items c.in_ok-members.ensures.images c.in_ok-members.ensures.passes c.in_ok-workers.workers.items c.in_ok-workers.ensures c.settle.new.members.items goes
    (record { images = c.in_ok-images.images; memories = c.in_ok-memories.memories; board = c.in_ok-memories.board }) c.in_ok-images.passes.items c.in_ok-images.ensures.passes c.in_ok-images.ensures.images
    c.in_ok-memories.ensures.board c.in_ok-memories.ensures.count c.in_ok-memories.ensures.memories
