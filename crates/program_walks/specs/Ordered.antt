-- What every walk of a program has in common, in the words of runs (ISO/IEC 1539-1:2018, 5.3.6, 5.3.7, 11.5, 11.6).
use Rattle.std.specs.Prelude.{◌≡◌, ◌⊎◌, List, [], ◌∷◌, ◌++◌}
use Rattle.trace_theory.specs.Entries.{Each}
use Rattle.trace_theory.specs.Machines.{Move, Said, Walk, WalkTo}
use Rattle.trace_theory.specs.Simulations.{AllAnswer}
use Rattle.caf_events.specs.declared.ask.Ask.{Ask}
use Rattle.caf_events.specs.declared.ask.Ask.TheVariants as asks
use Rattle.caf_events.specs.declared.reply.Reply.{Reply}
use Rattle.caf_events.specs.Answers.{Answers}
use Rattle.caf_events.specs.Walkers.{IsOver}
use Rattle.core_runs.specs.Sequences.{Joins, NothingAfterEnd, IsStampLimit, HasEndedBy}
use Rattle.image_lanes.specs.Courses.{NoLaterSteps}

-- nothing follows FAIL IMAGE
abbrev pub NothingAfterFail : List (Said Ask Reply) → Type 0
NothingAfterFail es = (before after : List (Said Ask Reply)) (e : Said Ask Reply) → es ≡ before ++ e ∷ after → e.ask ≡ asks.Fail → after ≡ []

-- the last step was FAIL IMAGE
abbrev pub HasFailedBy : List (Said Ask Reply) → Type 0
HasFailedBy es = (before : List (Said Ask Reply)) × (e : Said Ask Reply) × (es ≡ before ++ e ∷ []) × (e.ask ≡ asks.Fail)

-- of the walks of a program, whatever the replies are that answer its asks: the steps of its failure behind FAIL IMAGE
-- are its lane's
pub record IsOrdered {C : Type 0} (step : C → Move C Ask Reply) (first : C) : Type 0 where
  pub joins : (es : List (Said Ask Reply)) (c : C) → AllAnswer Answers es → Walk step first es c → Joins es
  pub nothing_after : (es : List (Said Ask Reply)) (c : C) → AllAnswer Answers es → Walk step first es c → NothingAfterEnd es
  pub fails_last : (es : List (Said Ask Reply)) (c : C) → AllAnswer Answers es → Walk step first es c → NothingAfterFail es
  pub no_later_steps : (es : List (Said Ask Reply)) (c : C) → AllAnswer Answers es → Walk step first es c → NoLaterSteps es
  pub no_stamp_limit : (es : List (Said Ask Reply)) (c : C) → AllAnswer Answers es → Walk step first es c → Each (λ e. IsStampLimit e.ask → ⊥) es

-- a program is over only behind a step that ended its image, or behind FAIL IMAGE
abbrev pub EndsInOrder : {C : Type 0} → (C → Move C Ask Reply) → C → Type 0
EndsInOrder {C} step first = (es : List (Said Ask Reply)) (c : C) → AllAnswer Answers es → WalkTo step first es c → IsOver (step c) → HasEndedBy es ⊎ HasFailedBy es
