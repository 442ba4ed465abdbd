-- A run of lanes: its rules and its beginning.
use Rattle.std.specs.Prelude.{ℕ, List}
use Rattle.caf_events.specs.declared.ask.Ask.{Ask}
use Rattle.caf_events.specs.declared.reply.Reply.{Reply}
use Rattle.trace_theory.specs.Machines.{Move}
use Rattle.object_rules.specs.Cells.{Declared, MadeMemory}
use Rattle.core_runs.specs.Moments.{Rules}
use Rattle.core_runs.specs.Beginnings.{Beginning}
use Rattle.core_runs.specs.Lawful.{full_rules, full_beginning}
use Rattle.image_lanes.specs.Lanes.{OnLane, lane_step, lane_start, lane_hears}

-- the rules of a run of lanes over programs, with which replies these go on, and its beginning: n images, of which
-- image i fails at its event of number `fails_at i` (0 for none), and with so many recorded words or more an image's
-- next step is the limit
abbrev pub lane_rules : {C : Type 0} → (C → Move C Ask Reply) → (C → Reply → Type 0) → Rules (OnLane C) MadeMemory ℕ
lane_rules step hears = full_rules (lane_step step) (lane_hears step hears)

abbrev pub lanes_begin : {C : Type 0} → List Declared → ℕ → (ℕ → C) → (ℕ → ℕ) → ℕ → Beginning (OnLane C) MadeMemory ℕ
lanes_begin coarrays n first fails_at words = full_beginning coarrays n (λ i. lane_start i (fails_at i) words (first i))
