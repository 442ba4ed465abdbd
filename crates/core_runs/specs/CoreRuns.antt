-- Core runs: which traces are those of a run of the images' programs (ISO/IEC 1539-1:2018, 5.3.5, 11.6).
use Rattle.std.specs.Prelude.{ℕ, suc, ◌≡◌, IsTrue, List, [], map}
use Rattle.caf_base.specs.declared.place.Place.TheVariants.{Own}
use Rattle.caf_events.specs.declared.ask.Ask.{Ask}
use Rattle.caf_events.specs.declared.reply.Reply.{Reply}
use Rattle.caf_events.specs.declared.reply.Reply.TheVariants as replies
use Rattle.caf_events.specs.declared.event.Entry.{Entry}
use Rattle.caf_events.specs.Answers.{Answers}
use Rattle.caf_events.specs.Asks.{place_of}
use Rattle.caf_events.specs.Histories.{Served}
use Rattle.trace_theory.specs.Entries.{of, Each, IsTraceOrder}
use Rattle.trace_theory.specs.Machines.{Said, Walk}
use Rattle.trace_theory.specs.Runs.{IsStamped}
use Rattle.trace_theory.specs.Simulations.{AllAnswer}
use Rattle.core_runs.specs.Lists.{image_of, key_of, stamp_of, own_stamp, said}
use Rattle.core_runs.specs.Moments.{Rules, Moment}
use Rattle.core_runs.specs.Beginnings.{Beginning, IsImage, IsPlace}
use Rattle.core_runs.specs.Failures.{FailsFrom}
use Rattle.core_runs.specs.Lanes.{IsMoment, HearsDue}
use Rattle.core_runs.specs.Sequences.{Joins, NothingAfterEnd, IsOrderly}

-- the trace's entries of image i
abbrev pub of_image : ℕ → List Entry → List Entry
of_image i t = of image_of i t

-- the trace's entries at the board
abbrev pub at_board : List Entry → List Entry
at_board t = of key_of 1 t

-- the trace's entries at the memory of image i
abbrev pub of_memory : ℕ → List Entry → List Entry
of_memory i t = of key_of (suc i) t

-- what an image said and heard, in the order of the trace
abbrev pub said_by : ℕ → List Entry → List (Said Ask Reply)
said_by i t = map (λ x. said x.event) (of_image i t)

-- the image's own steps have no reply but that they are done
abbrev pub IsDoneAlone : Entry → Type 0
IsDoneAlone x = place_of x.event.ask ≡ Own → x.event.reply ≡ replies.Done

-- a lawful trace: by stamp, then image, each stamp the one that is due after those before it at its image and its
-- object; of this run's images and objects;
-- each ask was ready where it stands and has the reply that is due there; each arrival has its departure.
-- (`IsLawfulTrace`, of the language's own memories and board, says besides what the declared coarrays are, what a
-- failing image does, and that nothing follows a limit.)
pub record IsLawful {C M B : Type 0} (r : Rules C M B) (b : Beginning C M B) (t : List Entry) : Type 0 where
  pub ordered : IsTraceOrder image_of stamp_of t
  pub stamped : IsStamped image_of key_of stamp_of own_stamp t
  pub images : Each (λ x. IsImage b (image_of x)) t
  pub places : Each (λ x. IsPlace b (place_of x.event.ask)) t
  pub memories : (i : ℕ) → IsImage b i → Served (r.memory_ready (b.memory i)) (r.memory_reply (b.memory i)) [] (of_memory i t)
  pub board : Served (r.board_ready b.board) (r.board_reply b.board) [] (at_board t)
  pub alone : Each IsDoneAlone t
  pub joins : (i : ℕ) → Joins (said_by i t)

-- a core run: a lawful trace in which each image's events are a walk of its program, and nothing follows a step that
-- ends the image
pub record IsCoreRun {C M B : Type 0} (r : Rules C M B) (b : Beginning C M B) (t : List Entry) : Type 0 where
  pub lawful : IsLawful r b t
  pub walks : (i : ℕ) → IsImage b i → (c : C) × Walk r.step (b.first i) (said_by i t) c
  pub nothing_after : (i : ℕ) → NothingAfterEnd (said_by i t)

-- what the rules and the programs of a run must be for its traces to be core runs: replies answer their asks, walks are
-- orderly, an image that fails makes the steps of its failure, and at each moment of a run each image can go on with
-- the reply that is due
pub record IsFit {C M B : Type 0} (r : Rules C M B) (b : Beginning C M B) : Type 0 where
  pub memory_answers : (made : M) (h : List Entry) (i : ℕ) (a : Ask) → Served (r.memory_ready made) (r.memory_reply made) [] h → IsTrue (r.memory_ready made h i a) → Answers a (r.memory_reply made h i a)
  pub board_answers : (made : B) (h : List Entry) (i : ℕ) (a : Ask) → Served (r.board_ready made) (r.board_reply made) [] h → IsTrue (r.board_ready made h i a) → Answers a (r.board_reply made h i a)
  pub orderly : (i : ℕ) → IsImage b i → IsOrderly r.step (b.first i)
  pub fails : (i : ℕ) → IsImage b i → (es : List (Said Ask Reply)) (c : C) → AllAnswer Answers es → Walk r.step (b.first i) es c → FailsFrom i es []
  pub hears : (m : Moment C M B) → IsMoment r b m → HearsDue r m
