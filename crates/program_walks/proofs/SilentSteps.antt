-- The steps of a program without recorded words.
use Rattle.std.proofs.Common.{◌≡◌, false, List, [], ◌∷◌, refl, ap}
use Rattle.caf_events.specs.declared.ask.Ask.{Ask}
use Rattle.caf_events.specs.declared.ask.Ask.TheVariants as asking
use Rattle.caf_events.specs.declared.reply.Reply.{Reply}
use Rattle.caf_events.specs.Events.{EndsImage, counts_words}
use Rattle.trace_theory.specs.Machines.{Said}
use Rattle.core_runs.specs.Sequences.{HasEndedBy}
use Rattle.image_lanes.specs.Lanes.{is_failure}
use Rattle.program_walks.specs.Dues.{Due, ended, owing, InOrder, MayCome, IsOfProgram, due_after}

-- a program's step without recorded words is FAIL IMAGE, or the limit of statements, which ends the image
silent_step : (a : Ask) (reply : Reply) → IsOfProgram a → is_failure a ≡ false → counts_words a ≡ false → EndsImage a reply
silent_step (asking.Read o s) reply h f u = absurd (cc)
silent_step (asking.Write o s vs) reply h f u = absurd (cc)
silent_step (asking.Create o c n) reply h f u = absurd (cc)
silent_step (asking.Delete o c) reply h f u = absurd (cc)
silent_step (asking.Atomic o op s x y) reply h f u = absurd (cc)
silent_step (asking.Lock o s) reply h f u = absurd (cc)
silent_step (asking.TryLock o s) reply h f u = absurd (cc)
silent_step (asking.Unlock o s) reply h f u = absurd (cc)
silent_step (asking.Post o s) reply h f u = absurd (cc)
silent_step (asking.Wait o s n) reply h f u = absurd (cc)
silent_step (asking.Query o s) reply h f u = absurd (cc)
silent_step (asking.Mark o) reply h f u = absurd h
silent_step (asking.Free o s) reply h f u = absurd h
silent_step (asking.Arrive t k) reply h f u = absurd (cc)
silent_step (asking.Leave t n) reply h f u = absurd (cc)
silent_step (asking.Gather t op root kind vs) reply h f u = absurd (cc)
silent_step (asking.Take t n) reply h f u = absurd (cc)
silent_step (asking.Pair js) reply h f u = absurd (cc)
silent_step asking.Unpair reply h f u = absurd (cc)
silent_step (asking.Enter n) reply h f u = absurd (cc)
silent_step (asking.Exit n) reply h f u = absurd (cc)
silent_step asking.Gone reply h f u = absurd h
silent_step (asking.Stop code) reply h f u = absurd (cc)
silent_step (asking.Failed t) reply h f u = absurd (cc)
silent_step (asking.Stopped t) reply h f u = absurd (cc)
silent_step (asking.Status t n) reply h f u = absurd (cc)
silent_step (asking.Print text) reply h f u = absurd (cc)
silent_step asking.Memory reply h f u = absurd (cc)
silent_step asking.Fail reply h f u = absurd (cc)
silent_step (asking.ErrorStop code) reply h f u = absurd (cc)
silent_step (asking.Fault kind) reply h f u = absurd (cc)
silent_step (asking.LimitStatements n) reply h f u = tt
silent_step (asking.LimitWords n) reply h f u = absurd h
silent_step (asking.LimitStamp n) reply h f u = absurd h

silent_may : (due : Due) (a : Ask) (reply : Reply) → MayCome due a → is_failure a ≡ false → counts_words a ≡ false → EndsImage a reply
silent_may ended a reply h = absurd h
silent_may (owing d) a reply h = silent_step a reply h.1

pub more_ended : (e : Said Ask Reply) (es : List (Said Ask Reply)) → HasEndedBy es → HasEndedBy (e ∷ es)
more_ended e es (before, last, same, ends) = (e ∷ before, last, ap (λ (xs : List (Said Ask Reply)). e ∷ xs) same, ends)

pub one_ended : (e : Said Ask Reply) (es : List (Said Ask Reply)) → es ≡ [] → EndsImage e.ask e.reply → HasEndedBy (e ∷ es)
one_ended e es none ends = ([], e, ap (λ (xs : List (Said Ask Reply)). e ∷ xs) none, ends)

-- the last step is without recorded words, and isn't FAIL IMAGE
abbrev pub EndsSilent : List (Said Ask Reply) → Type 0
EndsSilent [] = ⊥
EndsSilent (e ∷ []) = (is_failure e.ask ≡ false) × (counts_words e.ask ≡ false)
EndsSilent (e ∷ f ∷ es) = EndsSilent (f ∷ es)

pub silent_more : (e : Said Ask Reply) (es : List (Said Ask Reply)) → EndsSilent es → EndsSilent (e ∷ es)
silent_more e [] h = absurd h
silent_more e (f ∷ es) h = h

-- of a program in order it has ended the image
pub silent_ended : (es : List (Said Ask Reply)) (due : Due) → InOrder due es → EndsSilent es → HasEndedBy es
silent_ended [] due o h = absurd h
silent_ended (e ∷ []) due o h = one_ended e [] refl (silent_may due e.ask e.reply o.0 h.0 h.1)
silent_ended (e ∷ f ∷ es) due o h = more_ended e (f ∷ es) (silent_ended (f ∷ es) (due_after e.ask e.reply) o.1 h)
