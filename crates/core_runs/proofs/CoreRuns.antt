-- The trace of what is kept is a core run.
use Rattle.std.proofs.Common.{◌≡◌, ℕ, zero, suc, ◌<◌, List, [], ◌∷◌, ◌⊎◌, inl, inr, length, refl, ap, sym, ◌∙◌, subst, arith}
use Rattle.std.specs.Prelude.{map, slice_get, Some}
use Rattle.std.proofs.lemmas.Bool.{cases_lt}
use Rattle.std.proofs.lemmas.Bool.Decides.{eqb_tells}
use Rattle.std.proofs.lemmas.List.{get_or_past}
use Rattle.caf_events.specs.declared.ask.Ask.{Ask}
use Rattle.caf_events.specs.declared.reply.Reply.{Reply}
use Rattle.caf_events.specs.declared.event.Event.{Event}
use Rattle.caf_events.specs.declared.event.Entry.{Entry}
use Rattle.caf_events.specs.Answers.{Answers}
use Rattle.caf_events.specs.Asks.{place_of}
use Rattle.caf_events.specs.Histories.{Served}
use Rattle.trace_theory.specs.Entries.{of, Each}
use Rattle.trace_theory.specs.Machines.{Said, Walk}
use Rattle.trace_theory.specs.Simulations.{AllAnswer}
use Rattle.trace_theory.proofs.Filters.{of_first}
use Rattle.trace_theory.proofs.Weaving.{trace_of}
use Rattle.core_runs.specs.Lists.{said, entry, image_of, key_of, stamp_of, own_stamp, list_at, entries_of, history_of}
use Rattle.core_runs.specs.Moments.{Rules, Moment}
use Rattle.core_runs.specs.Beginnings.{Beginning, IsImage, IsPlace}
use Rattle.core_runs.specs.Sequences.{Joins, NothingAfterEnd}
use Rattle.core_runs.specs.CoreRuns.{at_board, of_memory, said_by, IsDoneAlone, IsLawful, IsCoreRun}
use Rattle.core_runs.specs.Lanes.{IsLane}
use Rattle.core_runs.specs.Kept.{IsKept}
use Rattle.core_runs.specs.Traces.{IsTraceOf, HasHistories}
use Rattle.core_runs.proofs.Beginnings.{not_cons}

each_tail : {E : Type 0} (P : E → Type 0) (key : E → ℕ) (x : E) (xs : List E) (i : ℕ) → Each P (of key i (x ∷ xs)) → Each P (of key i xs)
each_tail P key x xs i h = elim (eqb_tells (key x) i) [
  | inl t ↦ (let g = rw t.0 at h in g.1)
  | inr f ↦ rw f.0 at h
]

-- what holds of each entry of each key holds of each entry
pub each_of_each : {E : Type 0} (P : E → Type 0) (key : E → ℕ) (xs : List E) → ((i : ℕ) → Each P (of key i xs)) → Each P xs
each_of_each P key [] h = tt
each_of_each P key (x ∷ xs) h = ((subst (Each P) (of_first key x xs) (h (key x))).0, each_of_each P key xs (λ i. each_tail P key x xs i (h i)))

each_entries : (P : Entry → Type 0) (i : ℕ) (es : List Event) → Each (λ e. P (entry i e)) es → Each P (map (entry i) es)
each_entries P i [] h = tt
each_entries P i (e ∷ es) h = (h.0, each_entries P i es h.1)

each_always : {E : Type 0} (P : Type 0) (es : List E) → P → Each (λ e. P) es
each_always P [] p = tt
each_always P (e ∷ es) p = (p, each_always P es p)

said_entries : (i : ℕ) (es : List Event) → map (λ (x : Entry). said x.event) (map (entry i) es) ≡ map said es
said_entries i [] = refl
said_entries i (e ∷ es) = ap (λ l. said e ∷ l) (said_entries i es)

pub all_answer : (es : List Event) → Each (λ e. Answers e.ask e.reply) es → AllAnswer Answers (map said es)
all_answer [] h = tt
all_answer (e ∷ es) h = (h.0, all_answer es h.1)

item_there : {A : Type 0} (xs : List A) (k : ℕ) → k < length xs → (x : A) × (slice_get xs k ≡ Some x)
item_there [] k h = absurd (omega arith)
item_there (x ∷ xs) zero h = (x, refl)
item_there (x ∷ xs) (suc k) h = item_there xs k (omega arith)

module _ {C M B : Type 0} (r : Rules C M B) (b : Beginning C M B) (m : Moment C M B) (t : List Entry) (h : IsKept r b m) (trace : IsTraceOf m.events t) where
  all : HasHistories m.events m.board_history m.histories t
  all = trace_of Entry image_of key_of stamp_of own_stamp (entries_of m.events) (history_of m.board_history m.histories) h.woven t trace.ordered trace.images

  pub said_is : (i : ℕ) → said_by i t ≡ map said (list_at m.events i)
  said_is i = ap (map (λ x. said x.event)) (trace.images i) ∙ said_entries i (list_at m.events i)

  pub board_is : at_board t ≡ m.board_history
  board_is = all.objects 0

  pub memory_is : (i : ℕ) → 0 < i → of_memory i t ≡ list_at m.histories i
  memory_is zero low = absurd (omega arith)
  memory_is (suc j) low = all.objects (suc j)

  -- an image of the run has a lane, and another number no event
  lane_or_none : (i : ℕ) → ((c : C) × IsImage b i × IsLane r b i (list_at m.events i) c) ⊎ (list_at m.events i ≡ [])
  lane_or_none zero = inr refl
  lane_or_none (suc k) = elim (cases_lt k b.images) [
    | inl l ↦ (
        let n = h.count in
        let x = item_there m.configs k (omega arith) in
        inl (x.0, (omega arith, omega arith), h.lanes (suc k) x.0 x.1))
    | inr g ↦ (let n = h.event_count in inr (get_or_past m.events k [] (omega arith)))
  ]

  -- what each lane has each entry has
  each_entry : (P : Entry → Type 0) → ((i : ℕ) (c : C) → IsImage b i → IsLane r b i (list_at m.events i) c → Each (λ e. P (entry i e)) (list_at m.events i)) → Each P t
  each_entry P lane = each_of_each P image_of t (λ i. subst (Each P) (sym (trace.images i)) (elim (lane_or_none i) [
    | inl x ↦ each_entries P i (list_at m.events i) (lane i x.0 x.1 x.2)
    | inr none ↦ subst (λ es. Each P (map (entry i) es)) (sym none) tt
  ]))

  -- what every orderly walk has, and no event at all, each image's events have
  each_walk : (P : ℕ → List (Said Ask Reply) → Type 0) → ((i : ℕ) → IsImage b i → (es : List (Said Ask Reply)) (c : C) → AllAnswer Answers es → Walk r.step (b.first i) es c → P i es) → ((i : ℕ) → P i []) → (i : ℕ) → P i (said_by i t)
  each_walk P walk none i = subst (P i) (sym (said_is i)) (elim (lane_or_none i) [
    | inl (c, in_run, lane) ↦ walk i in_run (map said (list_at m.events i)) lane.walks.0 (all_answer (list_at m.events i) lane.answered) lane.walks.1
    | inr empty ↦ subst (λ es. P i (map said es)) (sym empty) (none i)
  ])

  lawful : IsLawful r b t
  lawful = record {
    ordered = trace.ordered;
    stamped = all.stamped;
    images = each_entry (λ x. IsImage b (image_of x)) (λ i c in_run lane. each_always (IsImage b i) (list_at m.events i) in_run);
    places = each_entry (λ x. IsPlace b (place_of x.event.ask)) (λ i c in_run lane. lane.places);
    memories = λ i in_run. subst (Served (r.memory_ready (b.memory i)) (r.memory_reply (b.memory i)) []) (sym (memory_is i in_run.0)) (h.memories_served i in_run);
    board = subst (Served (r.board_ready b.board) (r.board_reply b.board) []) (sym board_is) h.board_served;
    alone = each_entry IsDoneAlone (λ i c in_run lane. lane.alone);
    joins = each_walk (λ i. Joins) (λ i in_run. (h.fit.orderly i in_run).joins) (λ i. tt);
  }

  -- the trace of what is kept is a core run
  pub core_run : IsCoreRun r b t
  core_run = record {
    lawful = lawful;
    walks = λ i in_run. subst (λ es. (c : C) × Walk r.step (b.first i) es c) (sym (said_is i)) (elim (lane_or_none i) [
      | inl (c, in_run, lane) ↦ (lane.walks.0, lane.walks.1)
      | inr empty ↦ (b.first i, subst (λ es. Walk r.step (b.first i) (map said es) (b.first i)) (sym empty) refl)
    ]);
    nothing_after = each_walk (λ i. NothingAfterEnd) (λ i in_run. (h.fit.orderly i in_run).nothing_after) (λ i before after e p ends. absurd (not_cons before after e p));
  }
