-- The lane of an image: it does what its program does, up to its failure (ISO/IEC 1539-1:2018, 5.3.6, 11.5) or to the
-- limit of its recorded words.
use Rattle.std.specs.Prelude.{ℕ, ◌+◌, ◌-◌, ◌*◌, ◌≡◌, Bool, true, false, nat_eq, nat_le, cond, List, [], ◌∷◌, length}
use Rattle.caf_events.specs.declared.ask.Ask.{Ask}
use Rattle.caf_events.specs.declared.ask.Ask.TheVariants as asking
use Rattle.caf_events.specs.declared.reply.Reply.{Reply}
use Rattle.caf_events.specs.Events.{counts_words, words_by}
use Rattle.core_runs.specs.Failures.{LockPlace, held_after, failure_steps}
use Rattle.trace_theory.specs.Machines.{Move, goes, asks, over}

-- an image goes on by its program, makes the rest of the steps of its failure, all at one line, or is over: behind a
-- limit, or a step of its program without recorded words
pub data Course : Type 0 where
  by_program : Course
  failing : List Ask → ℕ → Course
  at_end : Course

-- where an image is: its number, with which of its next events the list of failures lets it fail (1 for the next one, 0
-- for none) and its limit of recorded words; where its program stands; the recorded words of its events, the locks that
-- it holds; and how it goes on
pub record OnLane (C : Type 0) : Type 0 where
  pub image : ℕ
  pub fails_in : ℕ
  pub limit : ℕ
  pub program : C
  pub words : ℕ
  pub held : List LockPlace
  pub course : Course

-- FAIL IMAGE is the program's ask `fail`
abbrev pub is_failure : Ask → Bool
is_failure asking.Fail = true
is_failure ask = false

module _ {C : Type 0} where
  -- the failure begins: the image's first step was `fail`
  abbrev pub begins_to_fail : OnLane C → ℕ → OnLane C
  begins_to_fail l line = record l { course = failing (failure_steps l.image l.held) line }

  abbrev pub fails_on : OnLane C → List Ask → ℕ → OnLane C
  fails_on l steps line = record l { course = failing steps line }

  abbrev pub comes_to_end : OnLane C → OnLane C
  comes_to_end l = record l { course = at_end }

  -- a step of the program was made
  abbrev pub goes_past : OnLane C → Ask → Reply → C → OnLane C
  goes_past l ask reply c = record l { program = c; fails_in = l.fails_in - 1; words = l.words + words_by ask reply; held = held_after l.held ask reply }

  -- the list of failures lets the image fail at its next event
  abbrev pub is_due : OnLane C → Bool
  is_due l = nat_eq l.fails_in 1

  -- the limit of recorded words has been reached
  abbrev pub is_full : OnLane C → Bool
  is_full l = nat_le l.limit l.words

  -- The program's next ask, where no failure of the list is due: FAIL IMAGE begins the failure; else the limit comes in
  -- place of the ask, or the ask is made.
  -- Behind an ask without recorded words the image is over: it is a limit, or, in code that no program has, one of the
  -- later steps of a failure.
  abbrev pub asked_next : OnLane C → Ask → ℕ → (Reply → C) → Move (OnLane C) Ask Reply
  asked_next l ask line k =
      cond (is_failure ask) (asks asking.Fail line (λ r. begins_to_fail l line))
      (cond (is_full l) (asks (asking.LimitWords l.words) line (λ r. comes_to_end l))
      (cond (counts_words ask) (asks ask line (λ r. goes_past l ask r (k r))) (asks ask line (λ r. comes_to_end l))))

  -- by the program: a failure of the list comes first, at line 0
  abbrev pub program_next : OnLane C → Move C Ask Reply → Move (OnLane C) Ask Reply
  program_next l (goes c) = goes (record l { program = c })
  program_next l (asks ask line k) = cond (is_due l) (asks asking.Fail 0 (λ r. begins_to_fail l 0)) (asked_next l ask line k)
  program_next l over = over

  -- what is left of a failure
  abbrev pub failure_next : OnLane C → List Ask → ℕ → Move (OnLane C) Ask Reply
  failure_next l [] line = over
  failure_next l (a ∷ as_) line = asks a line (λ r. fails_on l as_ line)

  abbrev pub course_next : (C → Move C Ask Reply) → OnLane C → Course → Move (OnLane C) Ask Reply
  course_next step l by_program = program_next l (step l.program)
  course_next step l (failing steps line) = failure_next l steps line
  course_next step l at_end = over

  -- what an image does next
  abbrev pub lane_step : (C → Move C Ask Reply) → OnLane C → Move (OnLane C) Ask Reply
  lane_step step l = course_next step l l.course

  -- an image before its first step; its failure starts at its event of this number, 0 for none
  abbrev pub lane_start : ℕ → ℕ → ℕ → C → OnLane C
  lane_start image fails_at limit c = record { image = image; fails_in = fails_at; limit = limit; program = c; words = 0; held = []; course = by_program }

  -- the replies with which the program can go on, where the ask is made and the image isn't over behind it
  abbrev pub heard_by_program : (C → Reply → Type 0) → OnLane C → Move C Ask Reply → Reply → Type 0
  heard_by_program hears l (goes c) reply = ⊥
  heard_by_program hears l (asks ask line k) reply = is_due l ≡ false → is_failure ask ≡ false → is_full l ≡ false → counts_words ask ≡ true → hears l.program reply
  heard_by_program hears l over reply = ⊥

  abbrev pub heard_on : (C → Move C Ask Reply) → (C → Reply → Type 0) → OnLane C → Course → Reply → Type 0
  heard_on step hears l by_program reply = heard_by_program hears l (step l.program) reply
  heard_on step hears l course reply = Unit {0}

  -- the replies with which a lane can go on: any in a failure, at a limit and at the end, else those with which its
  -- program can
  abbrev pub lane_hears : (C → Move C Ask Reply) → (C → Reply → Type 0) → OnLane C → Reply → Type 0
  lane_hears step hears l reply = heard_on step hears l l.course reply

  -- at most so many asks are still to come: each step of a program that goes on records words, of which there is a
  -- limit, and may get one lock, which its failure frees
  abbrev pub program_left : OnLane C → Move C Ask Reply → ℕ
  program_left l (goes c) = 2 * (l.limit - l.words) + length l.held + 4
  program_left l (asks ask line k) = 2 * (l.limit - l.words) + length l.held + 4
  program_left l over = 0

  abbrev pub course_left : (C → Move C Ask Reply) → OnLane C → Course → ℕ
  course_left step l by_program = program_left l (step l.program)
  course_left step l (failing steps line) = length steps
  course_left step l at_end = 0

  abbrev pub lane_left : (C → Move C Ask Reply) → OnLane C → ℕ
  lane_left step l = course_left step l l.course
