-- The failure of an image stands in its events as the list of its steps says.
use Rattle.std.proofs.Common.{◌≡◌, ℕ, Bool, true, false, List, [], ◌∷◌, ◌++◌, inl, inr, refl, sym, subst}
use Rattle.std.specs.Prelude.{◌⊎◌, ◌||◌, not}
use Rattle.caf_events.specs.declared.ask.Ask.{Ask}
use Rattle.caf_events.specs.declared.ask.Ask.TheVariants as asking
use Rattle.caf_events.specs.declared.reply.Reply.{Reply}
use Rattle.core_runs.specs.Failures.{LockPlace, held_after, failure_steps, is_failure_step, RunsOut, FailsBy, FailsFrom}
use Rattle.trace_theory.specs.Machines.{Move, Said}
use Rattle.image_lanes.specs.Lanes.{OnLane, is_failure}
use Rattle.image_lanes.specs.Courses.{AreAt, after_step, lane_past, NoneDue, Fails, IsLimited, Course, NoLaterSteps}

runs_out : (line : ℕ) (steps : List Ask) (es : List (Said Ask Reply)) → AreAt line steps es → RunsOut steps es
runs_out line steps [] h = tt
runs_out line [] (e ∷ es) h = absurd h
runs_out line (s ∷ ss) (e ∷ es) h = inl (h.0, runs_out line ss es h.2)

-- a step that is no failure's goes on with what is held then
goes_by : (image : ℕ) (held : List LockPlace) (ask : Ask) (reply : Reply) (es : List (Said Ask Reply)) (rest : List LockPlace → Type 0) → is_failure_step ask ≡ false → rest (held_after held ask reply) → FailsBy image held ask reply es rest
goes_by image held asking.Fail reply es rest f r = absurd (cc)
goes_by image held ask reply es rest f r = (f, r)

not_later : (a b : Bool) → a ≡ false → (a || not b) ≡ true → b ≡ false
not_later true b e h = absurd (cc)
not_later false true e h = absurd (cc)
not_later false false e h = refl

module _ {C : Type 0} (step : C → Move C Ask Reply) where
  fails_then : (l : OnLane C) (es : List (Said Ask Reply)) → ((es ≡ []) ⊎ (Fails step l es ⊎ IsLimited step l es)) → FailsFrom l.image es l.held
  fails_then l es (inl none) = rw none tt
  fails_then l es (inr (inl f)) = rw f.all (runs_out f.line (failure_steps l.image l.held) f.rest f.steps)
  fails_then l es (inr (inr m)) = rw m.all (refl, tt)

  fails_past : (walked rest : List (Said Ask Reply)) (l : OnLane C) (to : C) → NoneDue l walked → NoLaterSteps walked → ((rest ≡ []) ⊎ (Fails step (lane_past l walked to) rest ⊎ IsLimited step (lane_past l walked to) rest))
      → FailsFrom l.image (walked ++ rest) l.held
  fails_past [] rest l to none later ends = fails_then (record l { program = to }) rest ends
  fails_past (e ∷ es) rest l to none later ends =
      goes_by l.image l.held e.ask e.reply (es ++ rest) (FailsFrom l.image (es ++ rest)) (not_later (is_failure e.ask) (is_failure_step e.ask) none.1 later.0)
      (fails_past es rest (after_step l e) to none.3 later.1 ends)

  pub course_fails : (l : OnLane C) (es : List (Said Ask Reply)) (course : Course step l es) → NoLaterSteps course.walked → FailsFrom l.image es l.held
  course_fails l es course later = subst (λ xs. FailsFrom l.image xs l.held) (sym course.all) (fails_past course.walked course.rest l course.to course.none_due later course.ends)
