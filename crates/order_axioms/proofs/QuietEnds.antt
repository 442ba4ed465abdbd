-- In a lawful trace an image that fails or comes to a limit makes no other step.
use Rattle.std.proofs.Common.{◌≡◌, ℕ, true, ◌||◌, List, [], ◌∷◌, ◌++◌, inl, inr, refl, sym, subst}
use Rattle.std.proofs.lemmas.Bool.{or_left, or_right, both_ways}
use Rattle.std.specs.Prelude.{map}
use Rattle.caf_events.specs.declared.ask.Ask.{Ask}
use Rattle.caf_events.specs.declared.ask.Ask.TheVariants as asks
use Rattle.caf_events.specs.declared.reply.Reply.{Reply}
use Rattle.caf_events.specs.declared.event.Entry.{Entry}
use Rattle.object_rules.specs.Cells.{Declared}
use Rattle.trace_theory.specs.Entries.{Each}
use Rattle.trace_theory.specs.Machines.{Said}
use Rattle.core_runs.specs.Failures.{LockPlace, release_of, held_after, failure_steps, is_failure_step, is_limit, RunsOut, FailsBy, FailsFrom}
use Rattle.core_runs.specs.CoreRuns.{said_by}
use Rattle.core_runs.specs.Lawful.{IsLawfulTrace}
use Rattle.order_axioms.specs.OwnLists.{EndsQuietly}

abbrev Quiet : Said Ask Reply → Type 0
Quiet x = (is_failure_step x.ask || is_limit x.ask) ≡ true

releases_are : (held : List LockPlace) → Each (λ a. is_failure_step a ≡ true) (map release_of held ++ asks.Gone ∷ [])
releases_are [] = (refl, tt)
releases_are (p ∷ held) = (refl, releases_are held)

steps_are : (i : ℕ) (held : List LockPlace) → Each (λ a. is_failure_step a ≡ true) (failure_steps i held)
steps_are i held = (refl, releases_are held)

-- what runs out are steps of a failure, and at most a limit at the end
limit_alone : (e : Said Ask Reply) (es : List (Said Ask Reply)) → is_limit e.ask ≡ true → es ≡ [] → Each Quiet (e ∷ es)
limit_alone e es l none = (or_right (is_failure_step e.ask) (is_limit e.ask) l, subst (Each Quiet) (sym none) tt)

runs_quiet : (ss : List Ask) (es : List (Said Ask Reply)) → Each (λ a. is_failure_step a ≡ true) ss → RunsOut ss es → Each Quiet es
runs_quiet [] [] are h = tt
runs_quiet (s ∷ ss) [] are h = tt
runs_quiet [] (e ∷ es) are h = limit_alone e es h.0 h.1
runs_quiet (s ∷ ss) (e ∷ es) are (inl h) = (or_left (is_failure_step e.ask) (is_limit e.ask) (subst (λ a. is_failure_step a ≡ true) (sym h.0) are.0), runs_quiet ss es are.1 h.1)
runs_quiet (s ∷ ss) (e ∷ es) are (inr h) = limit_alone e es h.0 h.1

each_behind : (b a : List (Said Ask Reply)) (e : Said Ask Reply) → Each Quiet (b ++ e ∷ a) → Each Quiet a
each_behind [] a e h = h.1
each_behind (x ∷ b) a e h = each_behind b a e h.1

-- behind a step of a failure
first_quiet : (i : ℕ) (held : List LockPlace) (a : Ask) (r : Reply) (es : List (Said Ask Reply)) → is_failure_step a ≡ true → FailsBy i held a r es (FailsFrom i es) → Each Quiet es
first_quiet i held asks.Fail r es is h = runs_quiet (failure_steps i held) es (steps_are i held) h
first_quiet i held a r es is h = absurd (both_ways (is_failure_step a) h.0 is)

later_quiet : (i : ℕ) (held : List LockPlace) (x : Ask) (r : Reply) (b a : List (Said Ask Reply)) (e : Said Ask Reply) → ((more : List LockPlace) → FailsFrom i (b ++ e ∷ a) more → Each Quiet a)
    → FailsBy i held x r (b ++ e ∷ a) (FailsFrom i (b ++ e ∷ a)) → Each Quiet a
later_quiet i held asks.Fail r b a e next h = each_behind b a e (runs_quiet (failure_steps i held) (b ++ e ∷ a) (steps_are i held) h)
later_quiet i held x r b a e next h = next (held_after held x r) h.1

fails_quiet : (i : ℕ) (b a : List (Said Ask Reply)) (e : Said Ask Reply) (held : List LockPlace) → is_failure_step e.ask ≡ true → FailsFrom i (b ++ e ∷ a) held → Each Quiet a
fails_quiet i [] a e held is h = first_quiet i held e.ask e.reply a is h
fails_quiet i (x ∷ b) a e held is h = later_quiet i held x.ask x.reply b a e (λ more g. fails_quiet i b a e more is g) h

pub ends_quietly : (s : List Declared) (n : ℕ) (t : List Entry) → IsLawfulTrace s n t → (i : ℕ) → EndsQuietly (said_by i t)
ends_quietly s n t h i = record {
  after_failure = λ b a e same is. fails_quiet i b a e [] is (subst (λ es. FailsFrom i es []) same (h.fails i));
  after_limit = λ b a e same is. h.limits i b a e same is;
}
