-- Behind a list in order after which nothing more is due the last step ended the image, or was FAIL IMAGE.
use Rattle.std.proofs.Common.{◌≡◌, true, false, List, [], ◌∷◌, inl, inr, refl, sym, ◌∙◌, subst, ap}
use Rattle.std.specs.Prelude.{◌⊎◌}
use Rattle.std.proofs.lemmas.Bool.{cases_Bool, false≢true}
use Rattle.trace_theory.specs.Machines.{Said}
use Rattle.caf_events.specs.declared.ask.Ask.{Ask}
use Rattle.caf_events.specs.declared.ask.Ask.TheVariants as asks
use Rattle.caf_events.specs.declared.reply.Reply.{Reply}
use Rattle.caf_events.specs.declared.reply.Reply.TheVariants as replies
use Rattle.caf_events.specs.Events.{EndsImage}
use Rattle.core_runs.specs.Sequences.{departure_after, HasEndedBy}
use Rattle.program_walks.specs.Dues.{Due, ended, owing, is_last, due_after, InOrder, due_behind}
use Rattle.program_walks.specs.Ordered.{HasFailedBy}

last_step : (a : Ask) (r : Reply) → is_last a r ≡ true → EndsImage a r ⊎ (a ≡ asks.Fail)
last_step (asks.Stop code) r h = inl tt
last_step asks.Gone r h = inl tt
last_step (asks.ErrorStop code) r h = inl tt
last_step (asks.Fault kind) r h = inl tt
last_step (asks.LimitStatements n) r h = inl tt
last_step (asks.LimitWords n) r h = inl tt
last_step (asks.LimitStamp n) r h = inl tt
last_step asks.Fail r h = inr refl
last_step (asks.Arrive team arriving) (replies.Clash i l) h = inl tt
last_step (asks.Gather team op root kind values) (replies.Clash i l) h = inl tt
last_step a r h = absurd (false≢true h)

owing_more : (a : Ask) (r : Reply) → is_last a r ≡ false → due_after a r ≡ ended → ⊥
owing_more a r f h = (let x : owing (departure_after a r) ≡ ended = sym (rw f refl) ∙ h in absurd (cc))

nothing_more : (es : List (Said Ask Reply)) → InOrder ended es → es ≡ []
nothing_more [] h = refl
nothing_more (e ∷ es) h = absurd h.0

ended_more : (e : Said Ask Reply) (es : List (Said Ask Reply)) → HasEndedBy es ⊎ HasFailedBy es → HasEndedBy (e ∷ es) ⊎ HasFailedBy (e ∷ es)
ended_more e es (inl (before, last, same, ends)) = inl (e ∷ before, last, ap (λ (xs : List (Said Ask Reply)). e ∷ xs) same, ends)
ended_more e es (inr (before, last, same, fails)) = inr (e ∷ before, last, ap (λ (xs : List (Said Ask Reply)). e ∷ xs) same, fails)

ended_here : (e : Said Ask Reply) (es : List (Said Ask Reply)) → es ≡ [] → EndsImage e.ask e.reply ⊎ (e.ask ≡ asks.Fail) → HasEndedBy (e ∷ es) ⊎ HasFailedBy (e ∷ es)
ended_here e es none (inl ends) = inl ([], e, ap (λ (xs : List (Said Ask Reply)). e ∷ xs) none, ends)
ended_here e es none (inr fails) = inr ([], e, ap (λ (xs : List (Said Ask Reply)). e ∷ xs) none, fails)

pub ended_by : (es : List (Said Ask Reply)) (d : Due) → (d ≡ ended → ⊥) → InOrder d es → due_behind d es ≡ ended → HasEndedBy es ⊎ HasFailedBy es
ended_by [] d more o h = absurd (more h)
ended_by (e ∷ es) d more o h = elim (cases_Bool (is_last e.ask e.reply)) [
  | inl last ↦ (
      let due : due_after e.ask e.reply ≡ ended = rw last refl in
      ended_here e es (nothing_more es (subst (λ x. InOrder x es) due o.1)) (last_step e.ask e.reply last))
  | inr other ↦ ended_more e es (ended_by es (due_after e.ask e.reply) (owing_more e.ask e.reply other) o.1 h)
]
