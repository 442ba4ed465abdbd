-- The machines of code before their first step, and the code that they run.
use Rattle.std.specs.Prelude.{ℕ, suc, ◌≡◌, ◌≤◌, List, Option, None, Some, map, slice_index_or, sum_by}
use Rattle.trace_theory.specs.Machines.{go, goes, Rests}
use Rattle.caf_events.specs.declared.reply.Reply.{Reply}
use Rattle.image_code.specs.Code.{Whole}
use Rattle.image_acts.specs.Statuses.{most_cells}
use Rattle.coarray_tables.specs.Start.{AreFew, first_own, own_size}
use Rattle.image_state.specs.declared.state.Rooms.{Rooms}
use Rattle.image_machine.specs.Engine.{Engine, bare, start_of}
use Rattle.image_machine.specs.Walk.{ArePlain, machine_step}

-- What a machine runs: code whose kinds and ranks, and whose static coarrays, are such as made code has. An image has
-- at most so many coarray cells.
pub record IsRunnable (w : Whole) : Type 0 where
  pub plain : ArePlain w.program.steps
  pub coarrays : AreFew w.program.tables.coarrays
  pub cells : sum_by own_size (map first_own w.program.tables.coarrays) ≤ most_cells

-- a machine hears every reply
abbrev pub hears : Engine → Reply → Type 0
hears e reply = Unit {0}

-- the machine of the image at this place of n has come from the start of its code to its first ask, or its end
pub record HasBegun (w : Whole) (limit n k : ℕ) (e : Engine) : Type 0 where
  pub starts : (rooms : Rooms) × (steps : ℕ) × (go machine_step steps (start_of w limit rooms (suc k) n) ≡ goes (bare e))
  pub rests : Rests (machine_step (bare e))

-- what stands in a slot has this at its place; a slot may be empty
abbrev pub EachWhereThere : {A : Type 0} → (ℕ → A → Type 0) → List (Option A) → Type 0
EachWhereThere {A} P slots = (k : ℕ) (x : A) → slice_index_or slots k None ≡ Some x → P k x
