-- The run that goes on behind a trace whose steps were made.
use Rattle.std.proofs.Common.{◌≡◌, ℕ, List, [], ◌∷◌, ◌++◌, ◌⊎◌, inl, inr, refl, ap, sym, ◌∙◌, subst, append_assoc}
use Rattle.std.specs.Prelude.{map, nat_eq, Ok}
use Rattle.std.proofs.lemmas.List.{append-nil}
use Rattle.caf_base.specs.declared.refusal.NoMemory.{NoMemory}
use Rattle.caf_events.specs.declared.ask.Ask.{Ask}
use Rattle.caf_events.specs.declared.ask.Ask.TheVariants as asks
use Rattle.caf_events.specs.declared.reply.Reply.{Reply}
use Rattle.caf_events.specs.declared.event.Event.{Event}
use Rattle.caf_events.specs.declared.event.Entry.{Entry}
use Rattle.caf_events.specs.Events.{EndsBy, EndsRun, EndsImage}
use Rattle.trace_theory.specs.Entries.{Each, of}
use Rattle.trace_theory.specs.Machines.{Said}
use Rattle.trace_theory.proofs.Filters.{each_filter}
use Rattle.trace_theory.proofs.Orders.{one_trace}
use Rattle.trace_theory.proofs.Snocs.{each_at}
use Rattle.core_runs.specs.Beginnings.{Beginning, IsFirst}
use Rattle.core_runs.specs.CoreRuns.{of_image, of_memory, at_board, said_by}
use Rattle.core_runs.specs.Kept.{IsKept}
use Rattle.core_runs.specs.Lists.{entry, image_of, stamp_of, list_at, entries_of, said}
use Rattle.core_runs.specs.Moments.{Rules, Moment, Steps}
use Rattle.core_runs.specs.Orders.{candidates, Ordered, NoneEnds, EndsAtLast, IsWhole, IsOrderTrace}
use Rattle.core_runs.specs.Traces.{IsTraceOf}
use Rattle.core_runs.proofs.CoreRuns.{each_of_each, said_is, board_is, memory_is}
use Rattle.core_runs.proofs.OrderTraces.{order_trace}
use Rattle.core_runs.proofs.Weaves.{map_append}
use Rattle.image_core.specs.declared.choices.Choices.{Choices}
use Rattle.image_core.specs.declared.choices.Choices.TheVariants.{Rotate}
use Rattle.image_core.specs.declared.choices.RunEnd.{RunEnd}
use Rattle.image_core.specs.declared.choices.RunEnd.TheVariants.{Ending, AllOver, AllWait}
use Rattle.image_core.specs.Choosing.{choosing}
use Rattle.image_core.specs.Orders.{HasEnding, EndIs, StepsTo}
use Rattle.order_report.specs.Reports.{IsTraceOn}
use Rattle.judged_run.specs.Judging.{IsRunTo, Leads}
use Rattle.trace_replay.specs.Replays.{Turns, turning, turns_of, HasFronts, GoesOn}
use Rattle.trace_replay.proofs.Served.{ordered_memory, ordered_board}
use Rattle.trace_replay.proofs.Still.{no_steps}

each_append : {A : Type 0} (P : A → Type 0) (xs ys : List A) → Each P xs → Each P ys → Each P (xs ++ ys)
each_append P [] ys p q = q
each_append P (x ∷ xs) ys p q = (p.0, each_append P xs ys p.1 q)

-- a step that ends the run ends its image
ends_image : (a : Ask) (reply : Reply) → EndsBy a reply → EndsImage a reply
ends_image (asks.Stop code) reply h = absurd h
ends_image asks.Gone reply h = absurd h
ends_image a reply h = h

nothing_mapped : (es : List Event) → map said es ≡ [] → es ≡ []
nothing_mapped [] e = refl
nothing_mapped (x ∷ es) e = absurd (cc)

-- none of the steps of a trace ends the run where the last event of no image does
module _ {C M B : Type 0} (r : Rules C M B) (b : Beginning C M B) (m : Moment C M B) (t : List Entry) (run : IsRunTo r b t m) (open_still : HasEnding m.events → ⊥) where
  none_here : (i : ℕ) (before es : List Event) → list_at m.events i ≡ before ++ es → Each (λ x. EndsRun x.event → ⊥) (map (entry i) es)
  none_here i before [] is = tt
  none_here i before (e ∷ after) is = (
    λ ends. (
        let heard : said_by i t ≡ map said before ++ said e ∷ map said after = said_is r b m t run.kept run.trace i ∙ ap (map said) is ∙ map_append said before (e ∷ after) in
        let last = nothing_mapped after (run.run.nothing_after i (map said before) (map said after) (said e) heard (ends_image e.ask e.reply ends)) in
        open_still (record { image = i; before = before; last = e; form = is ∙ ap (λ es. before ++ e ∷ es) last; ends = ends })),
    none_here i (before ++ e ∷ []) after (is ∙ sym (append_assoc before (e ∷ []) after)),
  )

  none_ends : NoneEnds t
  none_ends = each_of_each (λ x. EndsRun x.event → ⊥) image_of t (λ i. subst (Each (λ x. EndsRun x.event → ⊥)) (sym (run.trace.images i)) (none_here i [] (list_at m.events i) refl))

-- a trace of which no event ends the run is that of a moment at which none has
ends_nowhere : (ls : List (List Event)) (t : List Entry) → IsTraceOf ls t → HasEnding ls → NoneEnds t → ⊥
ends_nowhere ls t trace e none =
    each_at (λ x. EndsRun x.event → ⊥) (map (entry e.image) e.before) [] (entry e.image e.last)
    (subst (Each (λ x. EndsRun x.event → ⊥)) (trace.images e.image ∙ ap (map (entry e.image)) e.form ∙ map_append (entry e.image) e.before (e.last ∷ [])) (each_filter (λ x. EndsRun x.event → ⊥) (λ x. nat_eq (image_of x) e.image) t none))
    e.ends

module _ {C M B : Type 0} (r : Rules C M B) where
  -- where the turns that come first are over, the images take them by the choices
  by_choices : (s : Choices) (m : Moment C M B) (xs : List Entry) (s' : Choices) (m' : Moment C M B) → Ordered r choosing s m xs s' m' → Ordered r turning (record { first = []; choices = s }) m xs (record { first = []; choices = s' }) m'
  by_choices s m [] s' m' (p, q) = (ap (λ v. record { first = []; choices = v }) p, q)
  by_choices s m (x ∷ xs) s' m' (chosen, next, step, rest) = (chosen, next, step, by_choices (choosing.after s (candidates r m)) next xs s' m' rest)

  -- first the steps of a trace
  turns_made : (t : List Entry) (from m : Moment C M B) → Leads r from t m → (s : Choices) (xs : List Entry) (s' : Turns) (m' : Moment C M B) → Ordered r turning (record { first = []; choices = s }) m xs s' m'
      → Ordered r turning (record { first = map image_of t; choices = s }) from (t ++ xs) s' m'
  turns_made [] from m leads s xs s' m' ordered = subst (λ v. Ordered r turning (record { first = []; choices = s }) v xs s' m') leads ordered
  turns_made (x ∷ t) from m (next, step, leads) s xs s' m' ordered = (refl, next, step, turns_made t next m leads s xs s' m' ordered)

module _ {C M B : Type 0} (r : Rules C M B) (b : Beginning C M B) (t t' : List Entry) (from m m' : Moment C M B) (first : IsFirst r b from) (made : Leads r from t m) (run : IsRunTo r b t m) (on : IsTraceOn r (Rotate 0) m m' t')
    (kept : IsKept r b m') (trace : IsTraceOf m'.events t') where
  fronts : HasFronts t t'
  fronts = record {
    images = λ i. (of_image i on.on.run.steps, on.images i ∙ ap (λ es. es ++ of_image i on.on.run.steps) (sym (run.trace.images i)));
    memories = λ i low. (
      of_memory i on.on.run.steps,
      memory_is r b m' t' kept trace i low ∙ ordered_memory r b choosing (Rotate 0) m on.on.run.steps on.on.last m' on.on.run.ordered run.kept i low
          ∙ ap (λ es. es ++ of_memory i on.on.run.steps) (sym (memory_is r b m t run.kept run.trace i low)),
    );
    board = (
      at_board on.on.run.steps,
      board_is r b m' t' kept trace ∙ ordered_board r b choosing (Rotate 0) m on.on.run.steps on.on.last m' on.on.run.ordered run.kept
          ∙ ap (λ es. es ++ at_board on.on.run.steps) (sym (board_is r b m t run.kept run.trace)),
    );
  }

  -- where no step was made it is the trace that was given
  same_trace : on.on.run.steps ≡ [] → t' ≡ t
  same_trace none =
      one_trace Entry image_of stamp_of t' t trace.ordered run.trace.ordered
      (λ i. on.images i ∙ ap (λ xs. entries_of m.events i ++ of_image i xs) none ∙ append-nil (entries_of m.events i) ∙ sym (run.trace.images i))

  -- where no step was made the moment is the same
  same_moment : (xs : List Entry) → Ordered r choosing (Rotate 0) m xs on.on.last m' → xs ≡ [] → m' ≡ m
  same_moment [] ordered none = ordered.1
  same_moment (x ∷ xs) ordered none = absurd (cc)

  stays : on.on.run.steps ≡ [] → m' ≡ m
  stays none = same_moment on.on.run.steps on.on.run.ordered none

  -- a step was made, so none ended the run before
  went_on : EndsAtLast on.on.run.steps → HasEnding m.events → ⊥
  went_on (before, last, is, none, ends) ending = nothing before (sym is ∙ on.on.run.none_behind ending)
    where
      nothing : (xs : List Entry) → xs ++ last ∷ [] ≡ [] → ⊥
      nothing [] e = cc
      nothing (x ∷ xs) e = cc

  -- none ended it where none has at the end
  was_open : (HasEnding m'.events → ⊥) → HasEnding m.events → ⊥
  was_open open_still ending = open_still (subst (λ (v : Moment C M B). HasEnding v.events) (sym (stays (on.on.run.none_behind ending))) ending)

  ended_by : (end : RunEnd) → EndIs r m' end × StepsTo on.on.run.steps end → (NoneEnds t → ⊥) → t' ≡ t
  ended_by (Ending image) (is, inl none) some = same_trace none
  ended_by (Ending image) (is, inr last) some = absurd (some (none_ends r b m t run (went_on last)))
  ended_by AllOver (is, none) some = absurd (some (none_ends r b m t run (was_open is.0)))
  ended_by AllWait (is, none) some = absurd (some (none_ends r b m t run (was_open is.0)))

  whole_by : (end : RunEnd) → EndIs r m' end × StepsTo on.on.run.steps end → NoneEnds t → IsWhole r (t ++ on.on.run.steps) m'
  whole_by (Ending image) (is, inl none) open_still =
      absurd (ends_nowhere m.events t run.trace (subst (λ (v : Moment C M B). HasEnding v.events) (stays none) is.0) open_still)
  whole_by (Ending image) (is, inr (before, last, form, none, ends)) open_still = inl (
    t ++ before,
    last,
    ap (λ xs. t ++ xs) form ∙ sym (append_assoc t before (last ∷ [])),
    each_append (λ x. EndsRun x.event → ⊥) t before open_still none,
    ends,
  )
  whole_by AllOver (is, none) open_still = inr (each_append (λ x. EndsRun x.event → ⊥) t on.on.run.steps open_still none, is.1)
  whole_by AllWait (is, none) open_still = inr (each_append (λ x. EndsRun x.event → ⊥) t on.on.run.steps open_still none, is.1)

  onward : NoneEnds t → IsOrderTrace r b turning (turns_of t) t'
  onward open_still =
      order_trace r b turning (turns_of t) from (t ++ on.on.run.steps) (record { first = []; choices = on.on.last }) m' t' first
      (turns_made r t from m made (Rotate 0) on.on.run.steps (record { first = []; choices = on.on.last }) m' (by_choices r (Rotate 0) m on.on.run.steps on.on.last m' on.on.run.ordered))
      (whole_by on.on.end on.on.run.so open_still) trace

  -- the run goes on behind the trace
  pub goes_on : GoesOn r b t t'
  goes_on = record {
    fronts = fronts;
    ended = ended_by on.on.end on.on.run.so;
    idle = λ all. same_trace (no_steps r b choosing m t run.kept run.trace all (Rotate 0) on.on.run.steps on.on.last m' on.on.run.ordered);
    onward = onward;
  }
