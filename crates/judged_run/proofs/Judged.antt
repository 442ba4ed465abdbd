-- The step that was made, and what it says of the entry.
use Rattle.std.proofs.Common.{◌≡◌, ℕ, suc, ◌<◌, ◌≤◌, true, false, List, [], ◌∷◌, ◌++◌, length, ap, sym, ◌∙◌, subst}
use Rattle.std.proofs.Common.{arith, true≢false}
use Rattle.caf_events.specs.declared.event.Event.{Event}
use Rattle.caf_events.specs.declared.event.Entry.{Entry}
use Rattle.std.specs.Prelude.{slice_index_or, ◌-◌}
use Rattle.caf_events.specs.declared.object.Object as object
use Rattle.caf_events.specs.declared.walker.Walker as walker
use Rattle.core_runs.specs.Lists.{image_of, list_at}
use Rattle.core_runs.specs.Moments.{Rules, Moment, rules, Steps, can_step, with_item}
use Rattle.core_runs.specs.Beginnings.{Beginning}
use Rattle.core_runs.specs.Kept.{IsKept}
use Rattle.core_runs.proofs.Numbered.{index_same}
use Rattle.core_runs.proofs.Weaves.{number_of, with_length}
use Rattle.run_outlook.proofs.Slices.{map_index, map_length}
use Rattle.image_core.specs.declared.parts.PartsOf.{PartsOf}
use Rattle.image_core.specs.declared.run.ImageRun.{ImageRun}
use Rattle.image_core.specs.Parts.{moment, event_lists, AreSound}
use Rattle.trace_judge.specs.Verdicts.{IsDueNow}
use Rattle.trace_judge.proofs.Made.{can, made}

list_same : {A : Type 0} (ls : List (List A)) (n : ℕ) (x : List A) (j : ℕ) → n ≡ suc j → j < length ls
    → list_at (with_item ls n x) n ≡ x
list_same ls n x j e l = subst (λ k. list_at (with_item ls k x) k ≡ x) (sym e) (index_same ls j x [] l)

module _ {C M B : Type 0} (r : Rules C M B) (b : Beginning C M B) (m m' : Moment C M B) (i : ℕ) (f : Event)
    (h : IsKept r b m) (step : Steps r m i f m') where
  -- the step stands at the end of its image's list
  pub events_end : list_at m'.events i ≡ list_at m.events i ++ f ∷ []
  events_end =
      let k = number_of m.configs i step.from step.stands in
      let counts : length m.configs ≡ length m.events = h.count ∙ sym h.event_count in
      let inside : k.0 < length m.events = (let l = k.2 in omega arith) in
      ap (λ ls. list_at ls i) step.events ∙ list_same m.events i (list_at m.events i ++ f ∷ []) k.0 k.1 inside

module _ {C M B : Type 0} (r : Rules C M B) (m m' : Moment C M B) (e : Entry) where
  -- an image that can't step has no event that is due
  pub cannot : can_step r m (image_of e) ≡ false → IsDueNow r m e → ⊥
  cannot unable d = true≢false (sym (can r m e d) ∙ unable)

  pub is_made : (f : Event) → Steps r m (image_of e) f m' → f ≡ e.event → Steps r m (image_of e) e.event m'
  is_made f s same = subst (λ x. Steps r m (image_of e) x m') same s

  pub not_made : (f : Event) → Steps r m (image_of e) f m' → (f ≡ e.event → ⊥) → IsDueNow r m e → ⊥
  not_made f s other d = other (made r m m' e f d s)

-- the image's last event is the one of the step that was made
module _ {M O B : Type 0} (walks : walker.Ghosts M) (memory : object.Ghosts O) (control : object.Ghosts B)
    (p0 p1 p2 : PartsOf M O B) (i : ℕ) (sound : AreSound walks memory control p1)
    (same : moment walks memory control p1 ≡ moment walks memory control p0)
    (step : (f : Event) × Steps (rules walks memory control) (moment walks memory control p1) i f
    (moment walks memory control p2))
    (run : ImageRun M) (is : run ≡ slice_index_or p2.images.items (i - 1) run) (low : 0 < i)
    (high : i ≤ length p0.images.items) where
  pub made_event : run.events.items ≡ list_at (event_lists p1.images.items) i ++ step.0 ∷ []
  made_event =
      let end = events_end (rules walks memory control) sound.kept.0 (moment walks memory control p1)
      (moment walks memory control p2) i step.0 sound.kept.1 step.1 in
      let many = ap length step.1.events ∙ with_length (event_lists p1.images.items) i
      (list_at (event_lists p1.images.items) i ++ step.0 ∷ []) in
      let a = map_length (λ (r : ImageRun M). r.events.items) p2.images.items in
      let b = map_length (λ (r : ImageRun M). r.events.items) p1.images.items in
      let c = map_length (λ (r : ImageRun M). r.events.items) p0.images.items in
      let d = ap (λ m. length m.events) same in
      let within : i - 1 < length p2.images.items = omega arith in
      let item = map_index (λ (r : ImageRun M). r.events.items) p2.images.items (i - 1) run [] within is in
      let n : suc (i - 1) ≡ i = omega arith in
      sym item ∙ ap (list_at (event_lists p2.images.items)) n ∙ end

  pub stepped : Steps (rules walks memory control) (moment walks memory control p0) i step.0
      (moment walks memory control p2)
  stepped = subst (λ m. Steps (rules walks memory control) m i step.0 (moment walks memory control p2)) same step.1
