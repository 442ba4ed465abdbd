-- What a lane says, in the words of lists: a walk of its program, and behind it nothing, its failure, or its limit of
-- recorded words.
use Rattle.std.specs.Prelude.{ℕ, ◌+◌, ◌-◌, ◌≡◌, ◌⊎◌, ◌||◌, not, true, false, List, [], ◌∷◌, ◌++◌}
use Rattle.caf_events.specs.declared.ask.Ask.{Ask}
use Rattle.caf_events.specs.declared.ask.Ask.TheVariants as asking
use Rattle.caf_events.specs.declared.reply.Reply.{Reply}
use Rattle.caf_events.specs.Events.{counts_words, words_by}
use Rattle.trace_theory.specs.Entries.{Each}
use Rattle.trace_theory.specs.Machines.{Move, asks, Said, WalkTo}
use Rattle.core_runs.specs.Failures.{held_after, failure_steps, is_failure_step}
use Rattle.image_lanes.specs.Lanes.{OnLane, is_due, is_full, is_failure}

-- these steps, or the first of them, all at one line
abbrev pub AreAt : ℕ → List Ask → List (Said Ask Reply) → Type 0
AreAt line steps [] = Unit {0}
AreAt line [] (e ∷ es) = ⊥
AreAt line (s ∷ ss) (e ∷ es) = (e.ask ≡ s) × (e.line ≡ line) × AreAt line ss es

-- each of these steps records words, but perhaps the last one, where nothing stands behind it: behind such a step the
-- lane is over
abbrev pub AreRecorded : List (Said Ask Reply) → List (Said Ask Reply) → Type 0
AreRecorded [] behind = Unit {0}
AreRecorded (e ∷ es) behind = ((counts_words e.ask ≡ true) ⊎ ((es ≡ []) × (behind ≡ []))) × AreRecorded es behind

module _ {C : Type 0} where
  -- a lane after one step of its program; where its program stands is told apart
  abbrev pub after_step : OnLane C → Said Ask Reply → OnLane C
  after_step l e = record l { fails_in = l.fails_in - 1; words = l.words + words_by e.ask e.reply; held = held_after l.held e.ask e.reply }

  -- a lane after steps of its program that leave it at c
  abbrev pub lane_past : OnLane C → List (Said Ask Reply) → C → OnLane C
  lane_past l [] c = record l { program = c }
  lane_past l (e ∷ es) c = lane_past (after_step l e) es c

  -- before each of these steps no failure was due, by the list or by FAIL IMAGE, and no limit
  abbrev pub NoneDue : OnLane C → List (Said Ask Reply) → Type 0
  NoneDue l [] = Unit {0}
  NoneDue l (e ∷ es) = (is_due l ≡ false) × (is_failure e.ask ≡ false) × (is_full l ≡ false) × NoneDue (after_step l e) es

  -- the failure, in place of an ask of the program (an image that has ended isn't touched): by the list at its event,
  -- at line 0, or by the program's FAIL IMAGE where none of the list is due; each step at that line
  pub record Fails (step : C → Move C Ask Reply) (l : OnLane C) (es : List (Said Ask Reply)) : Type 0 where
    pub line : ℕ
    pub reply : Reply
    pub rest : List (Said Ask Reply)
    pub all : es ≡ record { ask = asking.Fail; reply = reply; line = line } ∷ rest
    pub place : (m : ℕ) × (k : Reply → C) × (a : Ask) × (step l.program ≡ asks a m k)
    pub cause : ((is_due l ≡ true) × (line ≡ 0)) ⊎ ((is_due l ≡ false) × (k : Reply → C) × (a : Ask) × (step l.program ≡ asks a line k) × (is_failure a ≡ true))
    pub steps : AreAt line (failure_steps l.image l.held) rest

  -- the limit, in place of an ask of the program and at its line: one that isn't FAIL IMAGE
  pub record IsLimited (step : C → Move C Ask Reply) (l : OnLane C) (es : List (Said Ask Reply)) : Type 0 where
    pub line : ℕ
    pub reply : Reply
    pub all : es ≡ record { ask = asking.LimitWords l.words; reply = reply; line = line } ∷ []
    pub full : is_full l ≡ true
    pub not_due : is_due l ≡ false
    pub place : (k : Reply → C) × (a : Ask) × (step l.program ≡ asks a line k)
    pub no_failure : (k : Reply → C) (a : Ask) → step l.program ≡ asks a line k → is_failure a ≡ false

  -- the whole course: steps of the program, as long as none is due, and then the failure or the limit, if there is one
  pub record Course (step : C → Move C Ask Reply) (l : OnLane C) (es : List (Said Ask Reply)) : Type 0 where
    pub walked : List (Said Ask Reply)
    pub rest : List (Said Ask Reply)
    pub to : C
    pub all : es ≡ walked ++ rest
    pub walks : WalkTo step l.program walked to
    pub none_due : NoneDue l walked
    pub recorded : AreRecorded walked rest
    pub ends : (rest ≡ []) ⊎ (Fails step (lane_past l walked to) rest ⊎ IsLimited step (lane_past l walked to) rest)

-- the program makes none of the steps of a failure behind the first one
abbrev pub NoLaterSteps : List (Said Ask Reply) → Type 0
NoLaterSteps es = Each (λ e. (is_failure e.ask || not (is_failure_step e.ask)) ≡ true) es
