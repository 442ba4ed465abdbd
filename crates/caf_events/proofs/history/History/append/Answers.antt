use Rattle.std.proofs.Common.{ap, sym, ◌∙◌}
use Rattle.caf_events.specs.EventParts.{EventParts}
use Rattle.caf_events.proofs.Serving.{last_stamp_of_step}
use Rattle.caf_events.proofs.history.History.append.Goals as goal

pub invariant_of-self : goal.invariant_of-self
invariant_of-self c =
    rw c.and-self-inside.ensures (ap (λ (e : EventParts). e.stamp) (sym c.new-event.ensures) ∙ sym (last_stamp_of_step c.self.inside.steps.items (c.args.image, c.new-event.result)))
