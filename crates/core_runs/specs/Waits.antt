-- The images of a run that haven't ended after a trace, and what they wait for.
use Rattle.std.specs.Prelude.{ℕ, ◌≡◌, false, List}
use Rattle.caf_base.specs.declared.place.Place.{Place}
use Rattle.caf_base.specs.declared.place.Place.TheVariants.{Memory, Board, Own}
use Rattle.caf_events.specs.declared.ask.Ask.{Ask}
use Rattle.caf_events.specs.declared.event.Entry.{Entry}
use Rattle.caf_events.specs.Asks.{place_of}
use Rattle.caf_events.specs.Walkers.{AsksNext, IsAtLine}
use Rattle.trace_theory.specs.Machines.{WalkTo}
use Rattle.core_runs.specs.Moments.{Rules}
use Rattle.core_runs.specs.Beginnings.{Beginning, IsImage}
use Rattle.core_runs.specs.CoreRuns.{at_board, of_memory, said_by}
use Rattle.core_runs.specs.Sequences.{HasEndedBy}

-- the image's last event in the trace ended it: it stopped, failed (ISO/IEC 1539-1:2018, 5.3.6) or ended the run
abbrev pub HasEndedIn : ℕ → List Entry → Type 0
HasEndedIn i t = HasEndedBy (said_by i t)

-- an ask at a place of the run isn't ready after the trace: an ask at a memory that the run hasn't never is
abbrev pub IsUnready : {C M B : Type 0} → Rules C M B → Beginning C M B → List Entry → ℕ → Ask → Place → Type 0
IsUnready r b t i a (Memory owner) = IsImage b owner.0 → r.memory_ready (b.memory owner.0) (of_memory owner.0 t) i a ≡ false
IsUnready r b t i a Board = r.board_ready b.board (at_board t) i a ≡ false
IsUnready r b t i a Own = ⊥

-- the image waits: it has come to this ask at this line, which isn't ready after the trace
pub record IsWaiting {C M B : Type 0} (r : Rules C M B) (b : Beginning C M B) (t : List Entry) (i line : ℕ) (ask : Ask) : Type 0 where
  pub image : IsImage b i
  pub config : C
  pub walks : WalkTo r.step (b.first i) (said_by i t) config
  pub asks : AsksNext (r.step config) ask
  pub line_is : IsAtLine (r.step config) line
  pub unready : IsUnready r b t i ask (place_of ask)
