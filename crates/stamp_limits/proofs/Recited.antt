-- The trace of a run as that of programs which say what it has: so what is known of core runs holds of each lawful
-- trace in which nothing follows an end.
use Rattle.std.proofs.Common.{ℕ, IsTrue, List, [], ◌∷◌, ◌++◌, refl}
use Rattle.caf_events.specs.declared.ask.Ask.{Ask}
use Rattle.caf_events.specs.declared.reply.Reply.{Reply}
use Rattle.caf_events.specs.declared.event.Entry.{Entry}
use Rattle.caf_events.specs.Answers.{Answers}
use Rattle.caf_events.specs.Histories.{Served}
use Rattle.trace_theory.specs.Machines.{Move, asks, over, Said, Walk}
use Rattle.trace_theory.specs.Simulations.{AllAnswer}
use Rattle.core_runs.specs.Moments.{Rules}
use Rattle.core_runs.specs.Beginnings.{Beginning}
use Rattle.core_runs.specs.CoreRuns.{said_by, IsLawful, IsCoreRun}
use Rattle.core_runs.specs.Sequences.{NothingAfterEnd}
use Rattle.core_runs.proofs.Fronts.{core_run_front}
use Rattle.core_runs.proofs.Lawfuls.{answered_if}

-- a program that is left to say these
abbrev recite : List (Said Ask Reply) → Move (List (Said Ask Reply)) Ask Reply
recite [] = over
recite (e ∷ es) = asks e.ask e.line (λ reply. es)

recites : (es : List (Said Ask Reply)) → Walk recite es es []
recites [] = refl
recites (e ∷ es) = (λ reply. es, (1, refl), recites es)

module _ {C M B : Type 0} (r : Rules C M B) (b : Beginning C M B) where
  abbrev reciting : Rules (List (Said Ask Reply)) M B
  reciting = record {
    step = recite;
    hears = λ c reply. Unit {0};
    memory_ready = r.memory_ready;
    memory_reply = r.memory_reply;
    board_ready = r.board_ready;
    board_reply = r.board_reply;
  }

  abbrev recited : List Entry → Beginning (List (Said Ask Reply)) M B
  recited t = record { images = b.images; first = λ i. said_by i t; memory = b.memory; board = b.board }

  onward : (t u : List Entry) → IsLawful r b t → IsLawful reciting (recited u) t
  onward t u h = record {
    ordered = h.ordered;
    stamped = h.stamped;
    images = h.images;
    places = h.places;
    memories = h.memories;
    board = h.board;
    alone = h.alone;
    joins = h.joins;
  }

  backward : (t u : List Entry) → IsLawful reciting (recited u) t → IsLawful r b t
  backward t u h = record {
    ordered = h.ordered;
    stamped = h.stamped;
    images = h.images;
    places = h.places;
    memories = h.memories;
    board = h.board;
    alone = h.alone;
    joins = h.joins;
  }

  module _ (t : List Entry) (lawful : IsLawful r b t) (nothing_after : (i : ℕ) → NothingAfterEnd (said_by i t)) where
    as_core : IsCoreRun reciting (recited t) t
    as_core = record {
      lawful = onward t t lawful;
      walks = λ i here. ([], recites (said_by i t));
      nothing_after = nothing_after;
    }

    -- where what is ready is answered, each reply answers its ask
    pub all_answered : ((made : M) (h : List Entry) (i : ℕ) (a : Ask) → Served (r.memory_ready made) (r.memory_reply made) [] h → IsTrue (r.memory_ready made h i a) → Answers a (r.memory_reply made h i a))
        → ((made : B) (h : List Entry) (i : ℕ) (a : Ask) → Served (r.board_ready made) (r.board_reply made) [] h → IsTrue (r.board_ready made h i a) → Answers a (r.board_reply made h i a))
        → (i : ℕ) → AllAnswer Answers (said_by i t)
    all_answered memory board i = answered_if reciting (recited t) t memory board as_core i

  module _ (front rest : List Entry) (lawful : IsLawful r b (front ++ rest)) (nothing_after : (i : ℕ) → NothingAfterEnd (said_by i (front ++ rest))) where
    as_front : IsCoreRun reciting (recited (front ++ rest)) front
    as_front = core_run_front (List (Said Ask Reply)) M B reciting (recited (front ++ rest)) front rest (as_core (front ++ rest) lawful nothing_after)

    -- a front is lawful, and nothing follows an end there
    pub front_lawful : IsLawful r b front
    front_lawful = backward front (front ++ rest) as_front.lawful

    pub front_nothing_after : (i : ℕ) → NothingAfterEnd (said_by i front)
    front_nothing_after = as_front.nothing_after
