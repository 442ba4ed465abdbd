-- Programs that say the same, and runs of them.
use Rattle.std.specs.Prelude.{ℕ, IsTrue, List}
use Rattle.trace_theory.specs.Machines.{Move, Said, WalkTo, Rests}
use Rattle.trace_theory.specs.Simulations.{AllAnswer, SameRest}
use Rattle.caf_events.specs.declared.ask.Ask.{Ask}
use Rattle.caf_events.specs.declared.reply.Reply.{Reply}
use Rattle.caf_events.specs.declared.event.Entry.{Entry}
use Rattle.caf_events.specs.Answers.{Answers}
use Rattle.core_runs.specs.Moments.{Rules}
use Rattle.core_runs.specs.Beginnings.{Beginning, IsImage}

-- what the one says and hears from c on up to where it stops, the other says and hears from d on, and stops in the same
-- way
abbrev pub SaysAs : {C D : Type 0} → (C → Move C Ask Reply) → (D → Move D Ask Reply) → C → D → Type 0
SaysAs {C} {D} source target c d = (es : List (Said Ask Reply)) (e : C) → AllAnswer Answers es → WalkTo source c es e → Rests (source e) → (f : D) × WalkTo target d es f × SameRest (source e) (target f)

-- a run that begins as this one, with other programs
abbrev pub with_programs : {C D M B : Type 0} → Beginning C M B → (ℕ → D) → Beginning D M B
with_programs b first = record { images = b.images; first = first; memory = b.memory; board = b.board }

-- the programs of each image of a run say what these say
abbrev pub ImagesSayAs : {C D M B : Type 0} → (C → Move C Ask Reply) → (D → Move D Ask Reply) → Beginning C M B → (ℕ → D) → Type 0
ImagesSayAs source target b first = (i : ℕ) → IsImage b i → SaysAs source target (b.first i) (first i)

-- each reply that is due answers its ask, whatever came before
pub record RepliesAnswer {C M B : Type 0} (r : Rules C M B) : Type 0 where
  pub memory : (made : M) (h : List Entry) (i : ℕ) (a : Ask) → IsTrue (r.memory_ready made h i a) → Answers a (r.memory_reply made h i a)
  pub board : (made : B) (h : List Entry) (i : ℕ) (a : Ask) → IsTrue (r.board_ready made h i a) → Answers a (r.board_reply made h i a)
