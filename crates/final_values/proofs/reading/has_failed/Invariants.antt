use Rattle.std.proofs.Common.{◌≡◌, take, false}
use Rattle.std.specs.List.{list_any}
use Rattle.caf_events.specs.declared.event.Event.{Event}
use Rattle.image_lanes.specs.Lanes.{is_failure}
use Rattle.final_values.proofs.reading.has_failed.Given as goal

abbrev pub invariant-loop-event : goal.invariant-loop-event
invariant-loop-event l = list_any (λ (e : Event). is_failure e.ask) (take l.event-index l.events) ≡ false
