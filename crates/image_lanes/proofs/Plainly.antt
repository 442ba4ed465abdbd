-- Steps that ask nothing of a lock.
use Rattle.std.proofs.Common.{◌≡◌, true, false, refl, List}
use Rattle.caf_events.specs.declared.ask.Ask.{Ask}
use Rattle.caf_events.specs.declared.ask.Ask.TheVariants as asking
use Rattle.caf_events.specs.declared.reply.Reply.{Reply}
use Rattle.caf_events.specs.Events.{counts_words, is_of_lock}
use Rattle.core_runs.specs.Failures.{LockPlace, held_after}
use Rattle.image_lanes.specs.Lanes.{is_failure}

-- such a step changes nothing of the locks that are held
pub held_without_lock : (held : List LockPlace) (a : Ask) (r : Reply) → is_of_lock a ≡ false → held_after held a r ≡ held
held_without_lock held (asking.Lock owner span) r f = absurd (cc)
held_without_lock held (asking.TryLock owner span) r f = absurd (cc)
held_without_lock held (asking.Unlock owner span) r f = absurd (cc)
held_without_lock held a r f = refl

-- FAIL IMAGE records no words
pub recorded_goes_on : (a : Ask) → counts_words a ≡ true → is_failure a ≡ false
recorded_goes_on asking.Fail f = absurd (cc)
recorded_goes_on a f = refl
