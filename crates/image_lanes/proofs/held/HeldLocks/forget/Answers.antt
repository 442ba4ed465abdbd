use Rattle.std.proofs.Common.{rules, ap, ◌∙◌}
use Rattle.std.proofs.lemmas.Fn.{filter_same}
use Rattle.image_lanes.specs.Holds.{places_of_locks}
use Rattle.image_lanes.proofs.Releases.{without_lock}
use Rattle.image_lanes.proofs.held.HeldLocks.forget.Goals as goal

pub returns-clause-locks : goal.returns-clause-locks
returns-clause-locks c = rw (← c.self.view_is) (ap places_of_locks (filter_same _ _ _ (λ x b f' k. search rules) _ _ c.retain.ensures.filtered) ∙ without_lock c.args.lock c.self.inside.locks.items)
