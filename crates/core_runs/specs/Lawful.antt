-- Lawful traces: what is true of every trace of a run, whatever the images' programs are (ISO/IEC 1539-1:2018, 5.3.5,
-- 5.3.6, 11.6).
use Rattle.std.specs.Prelude.{ℕ, ◌≡◌, true, List, []}
use Rattle.std.specs.List.{list_all}
use Rattle.caf_events.specs.declared.ask.Ask.{Ask}
use Rattle.caf_events.specs.declared.reply.Reply.{Reply}
use Rattle.caf_events.specs.declared.event.Entry.{Entry}
use Rattle.caf_events.specs.Asks.{place_of}
use Rattle.caf_events.specs.Histories.{Served}
use Rattle.object_rules.specs.Cells.{Declared, MadeMemory}
use Rattle.object_rules.specs.MemoryRules.{has_first_values, memory_ready, memory_reply}
use Rattle.object_rules.specs.BoardRules.{board_ready, board_reply}
use Rattle.trace_theory.specs.Entries.{Each, IsTraceOrder}
use Rattle.trace_theory.specs.Machines.{Move}
use Rattle.trace_theory.specs.Runs.{IsStamped}
use Rattle.core_runs.specs.Lists.{image_of, key_of, stamp_of, own_stamp}
use Rattle.core_runs.specs.Moments.{Rules}
use Rattle.core_runs.specs.Beginnings.{Beginning, IsOneOf, IsThere}
use Rattle.core_runs.specs.Sequences.{Joins}
use Rattle.core_runs.specs.Failures.{FailsFrom, NothingAfterLimit}
use Rattle.core_runs.specs.CoreRuns.{at_board, of_memory, said_by, IsDoneAlone}

-- the memory of image i in a run with these coarrays
abbrev pub made_memory : List Declared → ℕ → MadeMemory
made_memory coarrays i = record { owner = record { 0 = i }; coarrays = coarrays }

-- A lawful trace of n images with these coarrays. Each static coarray of values has a first value of its kind for each
-- of its cells. The entries stand by stamp, then image, each stamp the one that is due after those before it at its
-- image and its object; they are of this run's images and objects; each ask fits and is ready where it stands, and has
-- the reply that is due there; each arrival has its departure; a failing image makes the steps of its failure, and
-- nothing follows a limit.
pub record IsLawfulTrace (coarrays : List Declared) (n : ℕ) (t : List Entry) : Type 0 where
  pub declared : list_all has_first_values coarrays ≡ true
  pub ordered : IsTraceOrder image_of stamp_of t
  pub stamped : IsStamped image_of key_of stamp_of own_stamp t
  pub images : Each (λ e. IsOneOf n (image_of e)) t
  pub places : Each (λ e. IsThere n (place_of e.event.ask)) t
  pub memories : (i : ℕ) → IsOneOf n i → Served (memory_ready (made_memory coarrays i)) (memory_reply (made_memory coarrays i)) [] (of_memory i t)
  pub board : Served (board_ready n) (board_reply n) [] (at_board t)
  pub alone : Each IsDoneAlone t
  pub joins : (i : ℕ) → Joins (said_by i t)
  pub fails : (i : ℕ) → FailsFrom i (said_by i t) []
  pub limits : (i : ℕ) → NothingAfterLimit (said_by i t)

-- the rules of a run whose memories and control board are those of the language, whatever the images' machines are
abbrev pub full_rules : {C : Type 0} → (C → Move C Ask Reply) → (C → Reply → Type 0) → Rules C MadeMemory ℕ
full_rules step hears = record { step = step; hears = hears; memory_ready = memory_ready; memory_reply = memory_reply; board_ready = board_ready; board_reply = board_reply }

-- what such a run of n images begins with
abbrev pub full_beginning : {C : Type 0} → List Declared → ℕ → (ℕ → C) → Beginning C MadeMemory ℕ
full_beginning coarrays n first = record { images = n; first = first; memory = made_memory coarrays; board = n }
