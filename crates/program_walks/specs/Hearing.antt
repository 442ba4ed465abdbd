-- The replies that are due to the programs of images, in a run of lanes over them.
use Rattle.std.specs.Prelude.{ℕ, ◌≡◌, IsTrue, [], Some}
use Rattle.caf_events.specs.declared.ask.Ask.{Ask}
use Rattle.caf_events.specs.declared.reply.Reply.{Reply}
use Rattle.caf_events.specs.declared.reply.Reply.TheVariants as replies
use Rattle.caf_events.specs.Asks.{place_of}
use Rattle.caf_events.specs.Walkers.{AsksNext}
use Rattle.trace_theory.specs.Machines.{Move}
use Rattle.core_runs.specs.Moments.{Rules, Moment, item_at, ready_there, reply_there}
use Rattle.image_lanes.specs.Lanes.{OnLane, by_program}

-- the reply tells of no team: it isn't that of a round of FORM TEAM which made some (ISO/IEC 1539-1:2018, 11.6.9)
abbrev pub TellsNoTeam : Reply → Type 0
TellsNoTeam (replies.Left status teams) = teams ≡ []
TellsNoTeam reply = Unit {0}

-- a machine hears every such reply, wherever it stands at an ask
abbrev pub HearsEach : {C : Type 0} → (C → Move C Ask Reply) → (C → Reply → Type 0) → (Reply → Type 0) → Type 0
HearsEach {C} step hears Such = (c : C) (a : Ask) (reply : Reply) → AsksNext (step c) a → Such reply → hears c reply

-- at this moment each image that goes on by its program and stands at an ask which can come now has such a reply due
abbrev pub DueToPrograms : {C M B : Type 0} → (C → Move C Ask Reply) → (Reply → Type 0) → Rules (OnLane C) M B → Moment (OnLane C) M B → Type 0
DueToPrograms {C} step Such r m =
    (i : ℕ) (l : OnLane C) (a : Ask) → item_at m.configs i ≡ Some l → l.course ≡ by_program → AsksNext (step l.program) a → IsTrue (ready_there r m i a (place_of a)) → Such (reply_there r m i a (place_of a))
