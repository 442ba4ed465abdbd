-- Runs of machines whose code has the walks of a program are runs of the program.
use Rattle.std.proofs.Common.{◌≡◌, ℕ, List, ap, sym, ◌∙◌}
use Rattle.caf_events.specs.declared.ask.Ask.{Ask}
use Rattle.caf_events.specs.declared.reply.Reply.{Reply}
use Rattle.caf_events.specs.declared.event.Entry.{Entry}
use Rattle.caf_events.specs.Answers.{Answers}
use Rattle.trace_theory.specs.Equivalence.{SameWalks}
use Rattle.trace_theory.specs.Simulations.{AllAnswer}
use Rattle.trace_theory.proofs.Equivalence.{same_walks_through}
use Rattle.trace_theory.proofs.Rests.{same_rest_rests}
use Rattle.walk_theory.specs.Walks.{Config}
use Rattle.walk_theory.specs.Code.{State, code_step}
use Rattle.walk_theory.specs.Programs.{SameCore}
use Rattle.checked_tree.specs.Statements as checked
use Rattle.object_rules.specs.Cells.{Declared, MadeMemory}
use Rattle.core_runs.specs.Beginnings.{IsOneOf}
use Rattle.core_runs.specs.CoreRuns.{said_by, IsCoreRun, IsFit}
use Rattle.core_runs.specs.Lanes.{IsMoment, HearsDue}
use Rattle.core_runs.specs.Moments.{Moment}
use Rattle.core_runs.specs.Orders.{Chooser, IsOrderTrace}
use Rattle.core_runs.specs.Same.{SaysAs}
use Rattle.core_runs.specs.Sequences.{EndsByItself}
use Rattle.core_runs.specs.Waits.{IsWaiting}
use Rattle.core_runs.proofs.SaysSame.{says_onward, says_backward}
use Rattle.core_runs.proofs.SameRuns.{ends_too, fit_too}
use Rattle.image_lanes.specs.Lanes.{OnLane, lane_step, lane_start, lane_hears}
use Rattle.image_lanes.specs.LaneRuns.{lane_rules}
use Rattle.image_acts.specs.Acts.{Act}
use Rattle.image_acts.specs.Core.{Core}
use Rattle.image_acts.specs.Meaning.{image_language}
use Rattle.image_code.specs.Code.{Whole, code_of}
use Rattle.image_state.specs.declared.state.Rooms.{Rooms}
use Rattle.image_machine.specs.Engine.{Engine, start_of}
use Rattle.image_machine.specs.Start.{first_state}
use Rattle.image_machine.specs.Walk.{machine_step}
use Rattle.tree_meaning.specs.Start as tree
use Rattle.program_walks.specs.Runs.{program_rules, program_begins}
use Rattle.program_walks.proofs.Fits.{program_fit}
use Rattle.program_walks.proofs.LaneProgramEnds.{program_image_ends}
use Rattle.program_walks.proofs.LaneSame.{lanes_say, lanes_core, lanes_order, lanes_waits}
use Rattle.machine_runs.specs.Runs.{StandsAt, StandsAfter, HasComputed, HasWalksFrom, HasWalksOn, machines_begin}
use Rattle.machine_runs.proofs.Lifted.{machine_walks}
use Rattle.machine_runs.proofs.NearLanes.{RestsAs, lanes_rest, rest_back}

pub code_walks : (w : Whole) (limit : ℕ) (rooms : Rooms) (me images : ℕ)
    → SameWalks Answers (StandsAt (start_of w limit rooms me images)) (StandsAt (start_of w limit rooms me images)) (code_step image_language (code_of w.program) limit) (first_state w me images) machine_step (start_of w limit rooms me images)
code_walks w limit rooms me images = machine_walks (start_of w limit rooms me images) (first_state w me images)

module _ (p : checked.Program) (w : Whole) (limit : ℕ) (rooms : Rooms) (me images : ℕ) (h : HasWalksFrom p limit me images w) where
  -- the machine has the walks of the program
  through : SameWalks Answers (λ c e. (d : State Core) × SameCore c d × StandsAt (start_of w limit rooms me images) d e) (λ c e. (d : State Core) × SameCore c d × StandsAt (start_of w limit rooms me images) d e) (tree.walk_step p limit)
      (tree.start_of p me images) machine_step (start_of w limit rooms me images)
  through =
      same_walks_through (Config Act Core) (State Core) Ask Reply Answers SameCore SameCore (tree.walk_step p limit) (tree.start_of p me images) (code_step image_language (code_of w.program) limit) (first_state w me images) h Engine
      (StandsAt (start_of w limit rooms me images)) (StandsAt (start_of w limit rooms me images)) machine_step (start_of w limit rooms me images) (code_walks w limit rooms me images)

  pub machine_says : SaysAs machine_step (tree.walk_step p limit) (start_of w limit rooms me images) (tree.start_of p me images)
  machine_says = says_backward (tree.walk_step p limit) machine_step _ _ (tree.start_of p me images) (start_of w limit rooms me images) through

  pub program_says : SaysAs (tree.walk_step p limit) machine_step (tree.start_of p me images) (start_of w limit rooms me images)
  program_says = says_onward (tree.walk_step p limit) machine_step _ _ (tree.start_of p me images) (start_of w limit rooms me images) through

  -- where the machine comes to rest the program comes to rest with the same core
  pub machine_rests : RestsAs HasComputed machine_step (tree.walk_step p limit) (start_of w limit rooms me images) (tree.start_of p me images)
  machine_rests es e answers walk rests =
      let r = through.rests_backward es e answers walk rests in
      let near = r.2 in
      let here : near.0.core ≡ e.state.core = ap (λ (x : Engine). x.state.core) (sym near.2) in
      (r.0, r.1, sym near.1.0 ∙ here, rest_back (tree.walk_step p limit r.0) (machine_step e) r.3)

  -- an image is over only behind a step that ended it
  pub machine_ends : (fails_at words : ℕ) → EndsByItself (lane_step machine_step) (lane_start me fails_at words (start_of w limit rooms me images))
  machine_ends fails_at words =
      ends_too (lane_step (tree.walk_step p limit)) (lane_step machine_step) (lane_start me fails_at words (tree.start_of p me images)) (lane_start me fails_at words (start_of w limit rooms me images))
      (lanes_say machine_step (tree.walk_step p limit) me fails_at words (start_of w limit rooms me images) (tree.start_of p me images) machine_says) (program_image_ends p limit me images fails_at words)

module _ (hears : Engine → Reply → Type 0) (p : checked.Program) (w : Whole) (limit : ℕ) (rooms : ℕ → Rooms) (coarrays : List Declared) (n : ℕ) (fails_at : ℕ → ℕ) (words : ℕ) (h : HasWalksOn p limit n w) where
  abbrev hears_all : OnLane (Config Act Core) → Reply → Type 0
  hears_all l reply = Unit {0}

  abbrev machine : ℕ → Engine
  machine i = start_of w limit (rooms i) i n

  abbrev program : ℕ → Config Act Core
  program i = tree.start_of p i n

  says : (i : ℕ) → IsOneOf n i → SaysAs machine_step (tree.walk_step p limit) (machine i) (program i)
  says i in_run = machine_says p w limit (rooms i) i n (h i in_run)

  said : (i : ℕ) → IsOneOf n i → SaysAs (tree.walk_step p limit) machine_step (program i) (machine i)
  said i in_run = program_says p w limit (rooms i) i n (h i in_run)

  pub core_onward : (t : List Entry) → IsCoreRun (lane_rules machine_step hears) (machines_begin w limit rooms coarrays n fails_at words) t → IsCoreRun (program_rules p limit) (program_begins p coarrays n fails_at words) t
  core_onward t core = lanes_core machine_step (tree.walk_step p limit) (lane_hears machine_step hears) hears_all coarrays n machine program fails_at words says t core

  pub core_backward : (t : List Entry) → IsCoreRun (program_rules p limit) (program_begins p coarrays n fails_at words) t → IsCoreRun (lane_rules machine_step hears) (machines_begin w limit rooms coarrays n fails_at words) t
  core_backward t core = lanes_core (tree.walk_step p limit) machine_step hears_all (lane_hears machine_step hears) coarrays n program machine fails_at words said t core

  pub order_onward : (S : Type 0) (ch : Chooser S) (s : S) (t : List Entry) → IsOrderTrace (lane_rules machine_step hears) (machines_begin w limit rooms coarrays n fails_at words) ch s t → IsOrderTrace (program_rules p limit) (program_begins p coarrays n fails_at words) ch s t
  order_onward S ch s t o = lanes_order machine_step (tree.walk_step p limit) (lane_hears machine_step hears) hears_all coarrays n machine program fails_at words says t S ch s o

  pub order_backward : (S : Type 0) (ch : Chooser S) (s : S) (t : List Entry) → IsOrderTrace (program_rules p limit) (program_begins p coarrays n fails_at words) ch s t → IsOrderTrace (lane_rules machine_step hears) (machines_begin w limit rooms coarrays n fails_at words) ch s t
  order_backward S ch s t o = lanes_order (tree.walk_step p limit) machine_step hears_all (lane_hears machine_step hears) coarrays n program machine fails_at words said t S ch s o

  pub waits_onward : (t : List Entry) → IsCoreRun (lane_rules machine_step hears) (machines_begin w limit rooms coarrays n fails_at words) t → (i line : ℕ) (a : Ask) → IsWaiting (lane_rules machine_step hears) (machines_begin w limit rooms coarrays n fails_at words) t i line a
      → IsWaiting (program_rules p limit) (program_begins p coarrays n fails_at words) t i line a
  waits_onward t core i line a x = lanes_waits machine_step (tree.walk_step p limit) (lane_hears machine_step hears) hears_all coarrays n machine program fails_at words says t core i line a x

  pub waits_backward : (t : List Entry) → IsCoreRun (program_rules p limit) (program_begins p coarrays n fails_at words) t → (i line : ℕ) (a : Ask) → IsWaiting (program_rules p limit) (program_begins p coarrays n fails_at words) t i line a
      → IsWaiting (lane_rules machine_step hears) (machines_begin w limit rooms coarrays n fails_at words) t i line a
  waits_backward t core i line a x = lanes_waits (tree.walk_step p limit) machine_step hears_all (lane_hears machine_step hears) coarrays n program machine fails_at words said t core i line a x

  -- where an image stands after a trace whose replies answer, that of the program stands with the same core
  pub stands_onward : (t : List Entry) (i : ℕ) → IsOneOf n i → AllAnswer Answers (said_by i t) → (l : OnLane Engine) → StandsAfter (lane_rules machine_step hears) (machines_begin w limit rooms coarrays n fails_at words) t i l
      → (c : OnLane (Config Act Core)) × StandsAfter (program_rules p limit) (program_begins p coarrays n fails_at words) t i c × HasComputed l.program c.program
  stands_onward t i in_run answers l at =
      let r = lanes_rest HasComputed machine_step (tree.walk_step p limit) i (fails_at i) words (machine i) (program i) (machine_rests p w limit (rooms i) i n (h i in_run)) (said_by i t) l answers at.walks at.rests in
      (r.0, record { walks = r.1; rests = same_rest_rests (lane_step machine_step l) (lane_step (tree.walk_step p limit) r.0) r.3 }, r.2)

  -- the run is fit, where the machines hear the replies that are due to them
  pub machine_fit : ((m : Moment (OnLane Engine) MadeMemory ℕ) → IsMoment (lane_rules machine_step hears) (machines_begin w limit rooms coarrays n fails_at words) m → HearsDue (lane_rules machine_step hears) m)
      → IsFit (lane_rules machine_step hears) (machines_begin w limit rooms coarrays n fails_at words)
  machine_fit due =
      fit_too (program_rules p limit) (lane_step machine_step) (lane_hears machine_step hears) (program_begins p coarrays n fails_at words) (λ i. lane_start i (fails_at i) words (machine i))
      (λ i in_run. lanes_say machine_step (tree.walk_step p limit) i (fails_at i) words (machine i) (program i) (says i in_run)) due (program_fit p limit coarrays n fails_at words)
