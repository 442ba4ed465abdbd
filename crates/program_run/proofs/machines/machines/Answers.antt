use Rattle.std.proofs.Common.{◌∷◌, [], ap, sym, subst, length, length-append, arith}
use Rattle.std.specs.Arc.{arc_value}
use Rattle.image_core.specs.Parts.{EachAt}
use Rattle.image_core.proofs.Beginnings.{each_more}
use Rattle.program_run.specs.Machines.{HasBegun}
use Rattle.program_run.proofs.machines.machines.Goals as goal

pub loop-k-preserved : goal.loop-k-preserved
loop-k-preserved c =
    let items = ap length c.in_ok-push.ensures.items in
    let more = length-append c.loop-k.machines.items (c.in_ok-machine.field-0 ∷ []) in
    let count = c.loop-k.invariant.count in
    let begun = HasBegun (arc_value c.args.code.now) c.args.limit c.args.n in
    record {
      count = omega arith;
      begun =
          subst (EachAt begun) (sym c.in_ok-push.ensures.items)
          (each_more begun c.loop-k.machines.items c.in_ok-machine.field-0 c.loop-k.invariant.begun (subst (λ j. begun j c.in_ok-machine.field-0) (sym count) c.in_ok-machine.ensures));
    }
