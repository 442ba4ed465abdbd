-- What a lane keeps, as plain data.
use Rattle.std.specs.Prelude.{ℕ, ◌≡◌, List, [], ◌∷◌, ◌++◌, map, drop, Option, None, Some}
use Rattle.caf_events.specs.declared.ask.Ask.{Ask}
use Rattle.caf_events.specs.declared.ask.Ask.TheVariants as asking
use Rattle.core_runs.specs.Failures.{LockPlace, release_of, failure_steps}
use Rattle.caf_events.specs.Asks.{place_of}
use Rattle.caf_events.specs.declared.walker.Next.{Next}
use Rattle.caf_events.specs.declared.walker.Next.TheVariants as nexts
use Rattle.image_lanes.specs.Lanes.{Course, by_program, failing, at_end}
use Rattle.image_lanes.specs.declared.held.HeldLock.{HeldLock}
use Rattle.image_lanes.specs.declared.course.Going.{Going}
use Rattle.image_lanes.specs.declared.course.Going.TheVariants as goings
use Rattle.image_lanes.specs.declared.course.Failing.{Failing}
use Rattle.image_lanes.specs.declared.course.Failing.TheVariants as steps

abbrev pub place_of_lock : HeldLock → LockPlace
place_of_lock lock = record { owner = lock.owner.0; coarray = lock.coarray; offset = lock.offset }

abbrev pub places_of_locks : List HeldLock → List LockPlace
places_of_locks locks = map place_of_lock locks

-- the lock variables in the order in which they were got last, and for how many more there is room
pub record Holding : Type 0 where
  pub locks : List LockPlace
  pub room : ℕ

-- the steps of a failure from here on
abbrev pub steps_from : ℕ → List LockPlace → Failing → List Ask
steps_from image held steps.Mark = failure_steps image held
steps_from image held (steps.Release number) = map release_of (drop number held) ++ asking.Gone ∷ []
steps_from image held steps.Ended = []

abbrev pub course_of : ℕ → List LockPlace → Going → Course
course_of image held goings.ByProgram = by_program
course_of image held (goings.Failing step line) = failing (steps_from image held step) line
course_of image held goings.AtEnd = at_end

-- what is asked for alone where the program goes on
abbrev pub ByProgram : Going → Type 0 → Type 0
ByProgram goings.ByProgram holds = holds
ByProgram going holds = Unit {0}

-- the first of the steps, if there is one
abbrev pub first_of : List Ask → Option Ask
first_of [] = None
first_of (a ∷ as_) = Some a

abbrev pub rest_of : List Ask → List Ask
rest_of [] = []
rest_of (a ∷ as_) = as_

-- the place of the first of the steps, or that there is none
abbrev pub PlaceIs : List Ask → Next → Type 0
PlaceIs [] n = n ≡ nexts.Ended
PlaceIs (a ∷ as_) n = n ≡ nexts.Ask (place_of a)
