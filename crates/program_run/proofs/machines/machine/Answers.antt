use Rattle.std.proofs.Common.{◌≡◌, ◌+◌, suc, arith}
use Rattle.std.specs.Arc.{arc_value}
use Rattle.program_run.proofs.Begun.{begun}
use Rattle.program_run.proofs.machines.machine.Goals as goal

pub returns : goal.returns
returns c =
    let number : c.args.k + 1 ≡ suc c.args.k = omega arith in
    begun (arc_value c.in_ok-clone.field-0) (arc_value c.args.code.now) c.args.limit c.args.n c.args.k (c.args.k + 1) c.in_ok-machine.machine c.in_ok-clone.ensures.cases number c.in_ok-machine.ensures.start c.in_ok-machine.ensures.rests
