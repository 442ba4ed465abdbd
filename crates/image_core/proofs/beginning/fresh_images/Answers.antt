use Rattle.std.proofs.Common.{◌≡◌, suc, [], ap, sym, ◌∙◌, subst, arith}
use Rattle.image_core.specs.Parts.{EachAt}
use Rattle.image_core.proofs.Beginnings.{each_more, next_view}
use Rattle.image_core.proofs.beginning.fresh_images.Goals as goal

pub loop-machine-preserved : goal.loop-machine-preserved
loop-machine-preserved g c =
    let more = c.in_ok-push.ensures.items in
    let number = c.len.ensures in
    record {
      machines = next_view (λ r. r.machine) c.loop-machine.images.items c.push.new.self.items c.fresh.result c.in-Some.machine c.loop-machine.machine-iterator.rest.items c.next.new.self.rest.items c.args.machines.items more c.fresh.ensures.machine c.in-Some.ensures.steps.0 c.loop-machine.invariant.machines;
      numbered =
          subst (EachAt (λ k r. r.image.0 ≡ suc k)) (sym more)
          (each_more (λ k r. r.image.0 ≡ suc k) c.loop-machine.images.items c.fresh.result c.loop-machine.invariant.numbered (ap (λ v. v.0) c.fresh.ensures.image ∙ omega (arith, number)));
      events = subst (EachAt (λ k r. r.events.items ≡ [])) (sym more) (each_more (λ k r. r.events.items ≡ []) c.loop-machine.images.items c.fresh.result c.loop-machine.invariant.events c.fresh.ensures.events);
    }
