use Rattle.std.proofs.Common.{rules, ◌≡◌, ◌∷◌, [], suc, ap, sym, subst, length, length-append, arith}
use Rattle.std.specs.Arc.{arc_value}
use Rattle.image_core.specs.Parts.{EachAt}
use Rattle.image_core.proofs.Beginnings.{each_more}
use Rattle.program_run.specs.Machines.{HasBegun}
use Rattle.program_run.proofs.Slots.{EachFrom, in_first, in_rest, none_yet}
use Rattle.program_run.proofs.machines.taken.Goals as goal

pub loop-slot-preserved : goal.loop-slot-preserved
loop-slot-preserved c =
    let begun = HasBegun (arc_value c.args.code.now) c.args.limit c.args.n in
    let so_far = c.loop-slot.machines.items in
    let here = c.in-Some-slot.machine in
    let rest = c.next.new.self.rest.items in
    let inv = c.loop-slot.invariant in
    let next = c.in-Some.ensures.steps.0 in
    let left = subst (EachFrom begun (length so_far)) next inv.left in
    let items = ap length c.in_ok-push.ensures.items in
    let more = length-append so_far (here ∷ []) in
    let longer : length c.push.new.self.items ≡ suc (length so_far) = omega arith in
    let fewer = ap length next in
    let count = inv.count in
    record {
      count = omega arith;
      made = subst (EachAt begun) (sym c.in_ok-push.ensures.items) (each_more begun so_far here inv.made (in_first begun (length so_far) c.in-Some.slot here rest c.in-Some-slot.is left));
      left = in_rest begun (length so_far) (length c.push.new.self.items) c.in-Some.slot rest longer left;
    }

pub loop-slot-init : goal.loop-slot-init
loop-slot-init c =
    let begun = HasBegun (arc_value c.args.code.now) c.args.limit c.args.n in
    let same : c.into_iter-slot-iterator.result.rest.items ≡ c.args.slots.items = search rules in
    let first = none_yet begun c.in_ok-machines.machines.items c.into_iter-slot-iterator.result.rest.items c.args.slots.items c.in_ok-machines.ensures.items same c.requires in
    record { count = first.0; made = first.1; left = first.2 }
