-- The final values of a run of machines whose code has the walks of a program are those of a run of the program.
use Rattle.std.proofs.Common.{◌≡◌, ℕ, zero, suc, ◌+◌, ◌<◌, Bool, true, false, cond, List, [], ◌∷◌, inl, inr, length, map, refl, ap, sym, ◌∙◌, subst, arith}
use Rattle.std.specs.Prelude.{Some, slice_get, slice_index_or}
use Rattle.std.specs.List.{list_any}
use Rattle.std.proofs.lemmas.Bool.{cases_Bool}
use Rattle.caf_events.specs.declared.ask.Ask.{Ask}
use Rattle.caf_events.specs.declared.reply.Reply.{Reply}
use Rattle.caf_events.specs.declared.event.Event.{Event}
use Rattle.caf_events.specs.declared.event.Entry.{Entry}
use Rattle.caf_events.specs.Answers.{Answers}
use Rattle.trace_theory.specs.Machines.{Said, WalkTo}
use Rattle.trace_theory.specs.Simulations.{AllAnswer}
use Rattle.walk_theory.specs.Walks.{Config}
use Rattle.checked_tree.specs.Statements as checked
use Rattle.image_acts.specs.Acts.{Act}
use Rattle.image_acts.specs.Core.{Core}
use Rattle.object_rules.specs.Cells.{Declared, MadeMemory}
use Rattle.core_runs.specs.Beginnings.{IsOneOf}
use Rattle.core_runs.specs.CoreRuns.{said_by}
use Rattle.core_runs.specs.Lawful.{made_memory}
use Rattle.core_runs.specs.Lists.{list_at, said}
use Rattle.core_runs.specs.Moments.{Moment, item_at}
use Rattle.core_runs.proofs.CoreRuns.{all_answer, memory_is, said_is}
use Rattle.core_runs.proofs.Lanes.{numbered_item}
use Rattle.core_runs.proofs.Numbered.{item_within}
use Rattle.coarray_memory.specs.Memories.{MemoryState}
use Rattle.image_core.specs.Parts.{AreNumbered}
use Rattle.image_core.specs.declared.run.ImageRun.{ImageRun}
use Rattle.run_outlook.proofs.Slices.{map_length}
use Rattle.image_lanes.specs.declared.lane.Lane.{Lane}
use Rattle.image_lanes.specs.Holds.{course_of}
use Rattle.image_lanes.specs.Lanes.{OnLane, is_failure, lane_step}
use Rattle.image_lanes.specs.LaneRuns.{lane_rules}
use Rattle.image_code.specs.Code.{Whole}
use Rattle.image_state.specs.declared.state.Rooms.{Rooms}
use Rattle.image_machine.specs.Engine.{Engine, bare}
use Rattle.image_machine.specs.Walk.{machine_step}
use Rattle.program_walks.specs.Runs.{program_rules, program_begins}
use Rattle.machine_runs.specs.Runs.{StandsAfter, HasWalksOn, machines_begin}
use Rattle.machine_runs.proofs.MachineRuns.{stands_onward}
use Rattle.final_values.specs.declared.listing.Listed.{Listed}
use Rattle.final_values.specs.Finals.{has_failed, image_finals, own_finals, run_finals}
use Rattle.order_report.specs.Reports.{IsEndMoment}
use Rattle.program_run.specs.Finals.{has_failed_in, AreOwnFinals, AreFinalsFrom, AreProgramFinals}
use Rattle.program_run.specs.Machines.{hears}
use Rattle.program_run.proofs.Begun.{get_item}

any_said : (es : List Event) → list_any (λ (s : Said Ask Reply). is_failure s.ask) (map said es) ≡ has_failed es
any_said [] = refl
any_said (e ∷ es) = elim (cases_Bool (is_failure e.ask)) [ inl t ↦ rw t refl | inr f ↦ rw f (any_said es) ]

module _ (p : checked.Program) (w : Whole) (limit : ℕ) (rooms : ℕ → Rooms) (coarrays : List Declared) (n : ℕ) (fails_at : ℕ → ℕ) (words : ℕ) (h : HasWalksOn p limit n w) (listed : List Listed) (t : List Entry) (m : Moment (OnLane Engine) MadeMemory ℕ)
    (ends : IsEndMoment (lane_rules machine_step hears) (machines_begin w limit rooms coarrays n fails_at words) t m) where
  -- what the machine of an image, its memory and its events are in the run
  pub record IsPart (i : ℕ) (l : OnLane Engine) (es : List Event) (made : MadeMemory) (history : List Entry) : Type 0 where
    pub in_run : IsOneOf n i
    pub lane : item_at m.configs i ≡ Some l
    pub events : list_at m.events i ≡ es
    pub made_so : made ≡ made_memory coarrays i
    pub served : list_at m.histories i ≡ history

  said_so : (i : ℕ) → said_by i t ≡ map said (list_at m.events i)
  said_so i = said_is (lane_rules machine_step hears) (machines_begin w limit rooms coarrays n fails_at words) m t ends.kept ends.trace i

  own : (i : ℕ) (l : OnLane Engine) (es : List Event) (made : MadeMemory) (history : List Entry) → IsPart i l es made history → (b : Bool) → has_failed es ≡ b
      → AreOwnFinals p limit coarrays n fails_at words listed t i (cond b [] (image_finals listed i l.program.state.core made history))
  own i l es made history is b e =
      let lane = ends.kept.lanes i l is.lane in
      let answers = subst (AllAnswer Answers) (sym (said_so i)) (all_answer (list_at m.events i) lane.answered) in
      let stands : StandsAfter (lane_rules machine_step hears) (machines_begin w limit rooms coarrays n fails_at words) t i l = record {
        walks = subst (λ x. WalkTo (lane_step machine_step) ((machines_begin w limit rooms coarrays n fails_at words).first i) x l) (sym (said_so i)) lane.walks;
        rests = lane.rests;
      } in
      let r = stands_onward hears p w limit rooms coarrays n fails_at words h t i is.in_run answers l stands in
      let told : has_failed_in i t ≡ b = ap (list_any (λ s. is_failure s.ask)) (said_so i) ∙ any_said (list_at m.events i) ∙ ap has_failed is.events ∙ e in
      by_fail b told r.0 r.1 r.2
    where
      by_fail : (b : Bool) → has_failed_in i t ≡ b → (c : OnLane (Config Act Core)) → StandsAfter (program_rules p limit) (program_begins p coarrays n fails_at words) t i c → c.program.core ≡ l.program.state.core
          → AreOwnFinals p limit coarrays n fails_at words listed t i (cond b [] (image_finals listed i l.program.state.core made history))
      by_fail true told c at same = inl (told, refl)
      by_fail false told c at same = inr (
        told,
        record {
          at = c;
          stands = at;
          are =
              ap (λ k. image_finals listed i k made history) (sym same)
              ∙ ap (λ k. image_finals listed i c.program.core k history) is.made_so
              ∙ ap (image_finals listed i c.program.core (made_memory coarrays i)) (sym (memory_is (lane_rules machine_step hears) (machines_begin w limit rooms coarrays n fails_at words) m t ends.kept ends.trace i is.in_run.0 ∙ is.served));
        },
      )

get_map : {A B : Type 0} (f : A → B) (xs : List A) (k : ℕ) (x : A) → slice_get xs k ≡ Some x → slice_get (map f xs) k ≡ Some (f x)
get_map f [] k x e = absurd (cc)
get_map f (y ∷ ys) zero x e = (let same : y ≡ x = cc in ap (λ z. Some (f z)) same)
get_map f (y ∷ ys) (suc k) x e = get_map f ys k x e

index_map : {A B : Type 0} (f : A → B) (xs : List A) (k : ℕ) (x : A) (d : B) → slice_get xs k ≡ Some x → slice_index_or (map f xs) k d ≡ f x
index_map f [] k x d e = absurd (cc)
index_map f (y ∷ ys) zero x d e = (let same : y ≡ x = cc in ap f same)
index_map f (y ∷ ys) (suc k) x d e = index_map f ys k x d e

module _ (p : checked.Program) (w : Whole) (limit : ℕ) (rooms : ℕ → Rooms) (coarrays : List Declared) (n : ℕ) (fails_at : ℕ → ℕ) (words : ℕ) (h : HasWalksOn p limit n w) (listed : List Listed) (t : List Entry) (m : Moment (OnLane Engine) MadeMemory ℕ)
    (ends : IsEndMoment (lane_rules machine_step hears) (machines_begin w limit rooms coarrays n fails_at words) t m) (config : Lane Engine → OnLane Engine) (computed : (l : Lane Engine) → (config l).program.state.core ≡ l.machine.state.core) (images : List (ImageRun (Lane Engine)))
    (memories : List MemoryState) (configs_are : m.configs ≡ map (λ r. config r.machine) images) (events_are : m.events ≡ map (λ r. r.events.items) images) (memories_are : m.memories ≡ map (λ x. x.made) memories)
    (histories_are : m.histories ≡ map (λ x. x.history) memories) (numbered : AreNumbered images) where
  images_count : length images ≡ n
  images_count = sym (map_length (λ r. config r.machine) images) ∙ ap length (sym configs_are) ∙ ends.kept.count

  pub memories_count : length images ≡ length memories
  memories_count = images_count ∙ sym (sym (map_length (λ x. x.history) memories) ∙ ap length (sym histories_are) ∙ ends.kept.history_count)

  made_there : (j : ℕ) (x : MemoryState) → j < n → slice_get memories j ≡ Some x → x.made ≡ made_memory coarrays (suc j)
  made_there j x low at =
      let here : slice_get m.memories j ≡ Some x.made = ap (λ ms. slice_get ms j) memories_are ∙ get_map (λ y. y.made) memories j x at in
      let there : slice_get m.memories j ≡ Some (made_memory coarrays (suc j)) = ap (λ ms. item_at ms (suc j)) ends.kept.memories ∙ numbered_item (made_memory coarrays) n (suc j) (omega arith) (omega arith) in
      let both : Some x.made ≡ Some (made_memory coarrays (suc j)) = sym here ∙ there in
      cc

  part_at : (j : ℕ) (r : ImageRun (Lane Engine)) (x : MemoryState) → slice_get images j ≡ Some r → slice_get memories j ≡ Some x
      → IsPart p w limit rooms coarrays n fails_at words h listed t m ends (suc j) (config r.machine) r.events.items x.made x.history
  part_at j r x at there =
      let within = item_within images j r at in
      let count = images_count in
      record {
        in_run = (omega arith, omega arith);
        lane = ap (λ cs. slice_get cs j) configs_are ∙ get_map (λ y. config y.machine) images j r at;
        events = ap (λ es. slice_index_or es j []) events_are ∙ index_map (λ y. y.events.items) images j r [] at;
        made_so = made_there j x (omega arith) there;
        served = ap (λ hs. slice_index_or hs j []) histories_are ∙ index_map (λ y. y.history) memories j x [] there;
      }

  own_at : (j : ℕ) (r : ImageRun (Lane Engine)) (x : MemoryState) → slice_get images j ≡ Some r → slice_get memories j ≡ Some x
      → AreOwnFinals p limit coarrays n fails_at words listed t (suc j) (own_finals listed r x)
  own_at j r x at there =
      let number : r.image.0 ≡ suc j = numbered j r (item_within images j r at) (get_item images j r at) in
      subst (λ i. AreOwnFinals p limit coarrays n fails_at words listed t (suc j) (cond (has_failed r.events.items) [] (image_finals listed i r.machine.machine.state.core x.made x.history))) (sym number)
      (subst (λ k. AreOwnFinals p limit coarrays n fails_at words listed t (suc j) (cond (has_failed r.events.items) [] (image_finals listed (suc j) k x.made x.history))) (computed r.machine)
      (own p w limit rooms coarrays n fails_at words h listed t m ends (suc j) (config r.machine) r.events.items x.made x.history (part_at j r x at there) (has_failed r.events.items) refl))

  finals_from : (k : ℕ) (rs : List (ImageRun (Lane Engine))) (xs : List MemoryState) → length rs ≡ length xs
      → ((j : ℕ) (r : ImageRun (Lane Engine)) (x : MemoryState) → slice_get rs j ≡ Some r → slice_get xs j ≡ Some x → AreOwnFinals p limit coarrays n fails_at words listed t (k + j) (own_finals listed r x))
      → AreFinalsFrom p limit coarrays n fails_at words listed t k (length rs) (run_finals listed rs xs)
  finals_from k [] xs e each = refl
  finals_from k (r ∷ rs) [] e each = absurd (omega arith)
  finals_from k (r ∷ rs) (x ∷ xs) e each =
      let first : k + 0 ≡ k = omega arith in (
        own_finals listed r x,
        run_finals listed rs xs,
        subst (λ i. AreOwnFinals p limit coarrays n fails_at words listed t i (own_finals listed r x)) first (each 0 r x refl refl),
        finals_from (suc k) rs xs (omega arith)
            (λ j s y at there. (let next : k + suc j ≡ suc k + j = omega arith in subst (λ i. AreOwnFinals p limit coarrays n fails_at words listed t i (own_finals listed s y)) next (each (suc j) s y at there))),
        refl,
      )

  pub program_finals : AreProgramFinals p limit coarrays n fails_at words listed t (run_finals listed images memories)
  program_finals =
      subst (λ k. AreFinalsFrom p limit coarrays n fails_at words listed t 1 k (run_finals listed images memories)) images_count
      (finals_from 1 images memories memories_count (λ j r x at there. (let number : suc j ≡ 1 + j = omega arith in subst (λ i. AreOwnFinals p limit coarrays n fails_at words listed t i (own_finals listed r x)) number (own_at j r x at there))))

-- where a lane over a machine stands
abbrev pub lane_at : Lane Engine → OnLane Engine
lane_at l = record { image = l.image.0; fails_in = l.fails_in; limit = l.limit; program = bare l.machine; words = l.words; held = l.held.locks; course = course_of l.image.0 l.held.locks l.going }
