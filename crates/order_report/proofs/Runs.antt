-- The report of a run is that of its trace.
use Rattle.std.proofs.Common.{◌≡◌, ℕ, zero, suc, ◌+◌, ◌<◌, ◌≤◌, Bool, false, List, [], ◌∷◌, inl, inr, length, refl, ap, sym, ◌∙◌, subst, arith}
use Rattle.std.specs.Prelude.{Option, Some, None, map, slice_get, nat_eq, MatchOption, IfSome, IfNone}
use Rattle.std.specs.List.{filter, range_with_len}
use Rattle.std.proofs.lemmas.Bool.{cases_Bool, cases_lt}
use Rattle.caf_events.specs.declared.event.Entry.{Entry}
use Rattle.caf_events.specs.declared.event.Trace.{Trace}
use Rattle.caf_events.specs.Events.{EndsRun}
use Rattle.caf_events.specs.Walkers.{AsksNext, IsAtLine}
use Rattle.trace_theory.specs.Entries.{Each}
use Rattle.trace_theory.proofs.Filters.{each_filter}
use Rattle.trace_theory.proofs.Snocs.{each_at}
use Rattle.caf_events.specs.declared.event.Event.{Event}
use Rattle.core_runs.specs.Lists.{image_of, entry}
use Rattle.core_runs.specs.Moments.{Rules, Moment, item_at, can_step}
use Rattle.core_runs.specs.Beginnings.{Beginning, IsFirst, IsImage}
use Rattle.core_runs.specs.CoreRuns.{IsCoreRun}
use Rattle.core_runs.specs.Kept.{IsKept}
use Rattle.core_runs.specs.Lawful.{IsLawfulTrace, made_memory}
use Rattle.core_runs.specs.Orders.{Chooser, Ordered, candidates, IsWhole, IsOrderTrace}
use Rattle.core_runs.specs.Traces.{IsTraceOf}
use Rattle.core_runs.specs.Waits.{IsWaiting}
use Rattle.core_runs.proofs.Beginnings.{empty_at}
use Rattle.core_runs.proofs.Lanes.{is_image}
use Rattle.core_runs.proofs.Weaves.{map_append}
use Rattle.core_runs.proofs.Waits.{waiting, stopped}
use Rattle.image_core.specs.declared.choices.RunEnd.{RunEnd}
use Rattle.image_core.specs.declared.choices.RunEnd.TheVariants.{Ending, AllOver, AllWait}
use Rattle.image_core.specs.Choosing.{choosing}
use Rattle.image_core.specs.Orders.{HasEnding, EndIs, StepsTo}
use Rattle.image_core.proofs.Endings.{not_empty}
use Rattle.object_rules.specs.Cells.{Declared}
use Rattle.order_theory.specs.Races.{NoRace}
use Rattle.order_axioms.specs.FirstRaces.{HasNoRace, Allowed}
use Rattle.order_axioms.specs.Touching.{touches, accesses}
use Rattle.order_axioms.specs.Views.{edges}
use Rattle.order_axioms.proofs.AllLaws.{reads_of}
use Rattle.order_axioms.proofs.MemoryRule.{lawful_reads_last}
use Rattle.order_axioms.proofs.Quiet.{lawful_quiet}
use Rattle.caf_report.specs.declared.report.End.{End}
use Rattle.caf_report.specs.declared.report.End.TheVariants as ends
use Rattle.caf_report.specs.declared.report.Race.{Race}
use Rattle.caf_report.specs.declared.report.Report.{Report}
use Rattle.caf_report.specs.declared.report.Waiting.{Waiting}
use Rattle.caf_report.specs.Ends.{EndsAt, HasNoEnding, IsEndOf, IsPlain}
use Rattle.order_report.specs.Reports.{choices_of, before_race, AreHeld, AreWaiting, IsRace, IsRunEnd, IsReportEnd, IsRunReport, EndByThemselves, GoesNoFurther}

-- where an ordered run has come to an end, the run goes no further
pub no_further : {C M B : Type 0} (r : Rules C M B) (m : Moment C M B) (end : RunEnd) → EndIs r m end → GoesNoFurther r m
no_further r m (Ending image) h = inl h.0
no_further r m AllOver h = inr h.1
no_further r m AllWait h = inr h.1

-- before the first step no event ends the run
none_first : {C M B : Type 0} (r : Rules C M B) (b : Beginning C M B) (m : Moment C M B) → IsFirst r b m → HasEnding m.events → ⊥
none_first r b m first e = not_empty e.before e.last (sym (empty_at m.events b.images e.image first.events) ∙ e.form)

-- an ordered run from before the first step that was answered is whole
pub whole_of : {C M B S : Type 0} (r : Rules C M B) (b : Beginning C M B) (ch : Chooser S) (s : S) (m : Moment C M B) (xs : List Entry) (s' : S) (m' : Moment C M B) (end : RunEnd) → IsFirst r b m → Ordered r ch s m xs s' m' → EndIs r m' end × StepsTo xs end → IsWhole r xs m'
whole_of {C} {M} {B} r b ch s m xs s' m' (Ending image) first ordered (is, inl none) =
    let stays = subst (λ v. Ordered r ch s m v s' m') none ordered in
    absurd (none_first r b m first (subst (λ (v : Moment C M B). HasEnding v.events) stays.1 is.0))
whole_of r b ch s m xs s' m' (Ending image) first ordered (is, inr at_last) = inl at_last
whole_of r b ch s m xs s' m' AllOver first ordered (is, none) = inr (none, is.1)
whole_of r b ch s m xs s' m' AllWait first ordered (is, none) = inr (none, is.1)

none_passes : (p : ℕ → Bool) (a n i : ℕ) → filter p (range_with_len a n) ≡ [] → a ≤ i → i < a + n → p i ≡ false
none_passes p a zero i h low high = absurd (omega arith)
none_passes p a (suc n) i h low high = elim (cases_Bool (p a)) [
  | inl t ↦ absurd (let g = rw t at h in cc)
  | inr f ↦ elim (cases_lt a i) [
    | inl l ↦ none_passes p (a + 1) n i (rw f at h) (omega arith) (omega arith)
    | inr g ↦ (let e : a ≡ i = omega arith in subst (λ j. p j ≡ false) e f)
  ]
]

-- where there is no candidate no image of the run can step
cant_step : {C M B : Type 0} (r : Rules C M B) (b : Beginning C M B) (m : Moment C M B) → length m.configs ≡ b.images → candidates r m ≡ [] → (i : ℕ) → IsImage b i → can_step r m i ≡ false
cant_step r b m l h i in_run = none_passes (can_step r m) 1 (length m.configs) i h (omega (arith, in_run.0)) (let k = in_run.1 in omega arith)

none_at : (xs : List Entry) → ((k : ℕ) (x : Entry) → slice_get xs k ≡ Some x → EndsRun x.event → ⊥) → Each (λ x. EndsRun x.event → ⊥) xs
none_at [] h = tt
none_at (x ∷ xs) h = (h 0 x refl, none_at xs (λ k y at. h (suc k) y at))

-- no entry of a trace without an ending event ends the run
pub no_ending : (t : Trace) → HasNoEnding t → Each (λ x. EndsRun x.event → ⊥) t.entries
no_ending t h = none_at t.entries (λ k x at ends. h k (ends_at k x at ends))
  where
    ends_at : (k : ℕ) (x : Entry) → slice_get t.entries k ≡ Some x → EndsRun x.event → EndsAt t k
    ends_at k x at ends = rw at ends

-- a trace without an ending event is that of images of which none ends the run with its last event
ends_nowhere : (ls : List (List Event)) (t : Trace) → IsTraceOf ls t.entries → HasEnding ls → HasNoEnding t → ⊥
ends_nowhere ls t trace e none =
    each_at (λ x. EndsRun x.event → ⊥) (map (entry e.image) e.before) [] (entry e.image e.last)
    (subst (Each (λ x. EndsRun x.event → ⊥)) (trace.images e.image ∙ ap (map (entry e.image)) e.form ∙ map_append (entry e.image) e.before (e.last ∷ [])) (each_filter (λ x. EndsRun x.event → ⊥) (λ x. nat_eq (image_of x) e.image) t.entries (no_ending t none)))
    e.ends

module _ {C M B : Type 0} (r : Rules C M B) (b : Beginning C M B) (m : Moment C M B) (t : Trace) (h : IsKept r b m) (trace : IsTraceOf m.events t.entries) (enders : EndByThemselves r b) (stuck : candidates r m ≡ []) where
  each_waits : (ws : List Waiting) → Each (λ w. (c : C) × (item_at m.configs w.image.0 ≡ Some c) × AsksNext (r.step c) w.ask × IsAtLine (r.step c) w.line) ws → Each (λ w. IsWaiting r b t.entries w.image.0 w.line w.ask) ws
  each_waits [] e = tt
  each_waits (w ∷ ws) ((c, at, ask, line), rest) =
      (waiting r b m t.entries h trace w.image.0 c at (cant_step r b m h.count stuck w.image.0 (is_image m.configs b.images w.image.0 c h.count at)) w.ask w.line ask line, each_waits ws rest)

  -- the images that haven't ended are those that wait
  pub held_wait : (ws : List Waiting) → AreHeld r.step m.configs (length m.configs) ws → AreWaiting r b t ws
  held_wait ws held = record {
    rises = held.rises;
    each = each_waits ws held.each;
    all = λ i in_run. (let l = h.count in let k = in_run.1 in elim (held.all i in_run.0 (omega arith)) [
      | inl (c, at, over) ↦ inl (stopped r b m t.entries h trace i c at (enders i in_run) over)
      | inr there ↦ inr there
    ]);
  }

-- the end of a report of a run that goes no further, with the images that haven't ended, is that of the run
pub run_end : {C M B : Type 0} (r : Rules C M B) (b : Beginning C M B) (m : Moment C M B) (t : Trace) (ws : List Waiting) (end : End) → IsKept r b m → IsTraceOf m.events t.entries → EndByThemselves r b
    → GoesNoFurther r m → AreHeld r.step m.configs (length m.configs) ws → IsEndOf t ws end → IsRunEnd r b t end
run_end r b m t ws end kept trace enders (inl ending) held is = record { ended = is.ended; open_end = λ none. absurd (ends_nowhere m.events t trace ending none) }
run_end r b m t ws end kept trace enders (inr stuck) held is = record { ended = is.ended; open_end = λ none. (ws, held_wait r b m t kept trace enders stuck ws held, is.open_end none) }

-- the end of a report is the race that was found; where none was, that of the run
end_of : {C M B : Type 0} (n : ℕ) (r : Rules C M B) (b : Beginning C M B) (t : Trace) (race : Option Race) (end : End) → MatchOption race (HasNoRace (edges n) touches t.entries) (IsRace n t)
    → IfSome race (λ x. end ≡ ends.Raced x) → IfNone race (IsPlain end) → IfNone race (IsRunEnd r b t end) → IsReportEnd n r b t end
end_of n r b t (Some x) end found raced plain run = subst (IsReportEnd n r b t) (sym raced) found
end_of n r b t None (ends.Raced x) found raced plain run = absurd plain
end_of n r b t None ends.Finished found raced plain run = (found, run)
end_of n r b t None (ends.ErrorStop k) found raced plain run = (found, run)
end_of n r b t None (ends.RunFault k) found raced plain run = (found, run)
end_of n r b t None (ends.Clash k) found raced plain run = (found, run)
end_of n r b t None (ends.Limit k) found raced plain run = (found, run)
end_of n r b t None (ends.Stuck ws) found raced plain run = (found, run)

-- no entry before the second one of the race has an earlier partner
clean : {C M B : Type 0} (n : ℕ) (r : Rules C M B) (b : Beginning C M B) (t : Trace) (end : End) → IsReportEnd n r b t end → NoRace (edges n) touches t.entries (before_race t end)
clean n r b t (ends.Raced x) is = is.earliest_second
clean n r b t ends.Finished is = is.0
clean n r b t (ends.ErrorStop k) is = is.0
clean n r b t (ends.RunFault k) is = is.0
clean n r b t (ends.Clash k) is = is.0
clean n r b t (ends.Limit k) is = is.0
clean n r b t (ends.Stuck ws) is = is.0

-- a lawful trace is allowed as far as no two of its entries are a race
allowed : (s : List Declared) (n : ℕ) (t : List Entry) → IsLawfulTrace s n t → (m : ℕ) → NoRace (edges n) touches t m → Allowed (edges n) (accesses (made_memory s)) t m
allowed s n t lawful m none = record { no_race = none; justified = reads_of n (made_memory s) t (lawful_quiet s n t lawful) (lawful_reads_last s n t lawful) m none }

-- a report without a race has the end of the run
pub run_end_of : {C M B : Type 0} (n : ℕ) (r : Rules C M B) (b : Beginning C M B) (t : Trace) (end : End) → ((x : Race) → end ≡ ends.Raced x → ⊥) → IsReportEnd n r b t end → IsRunEnd r b t end
run_end_of n r b t (ends.Raced x) plain is = absurd (plain x refl)
run_end_of n r b t ends.Finished plain is = is.1
run_end_of n r b t (ends.ErrorStop k) plain is = is.1
run_end_of n r b t (ends.RunFault k) plain is = is.1
run_end_of n r b t (ends.Clash k) plain is = is.1
run_end_of n r b t (ends.Limit k) plain is = is.1
run_end_of n r b t (ends.Stuck ws) plain is = is.1

-- the report of a moment from which the run goes no further
pub report_at : {C M B : Type 0} (r : Rules C M B) (b : Beginning C M B) (coarrays : List Declared) (m : Moment C M B) (t : Trace) (ws : List Waiting) (race : Option Race) (report : Report)
    → EndByThemselves r b → GoesNoFurther r m
    → IsKept r b m → IsTraceOf m.events t.entries → IsCoreRun r b t.entries → AreHeld r.step m.configs (length m.configs) ws → IsLawfulTrace coarrays b.images t.entries
    → MatchOption race (HasNoRace (edges b.images) touches t.entries) (IsRace b.images t)
    → report.images ≡ b.images → report.trace ≡ t → IfSome race (λ x. report.end ≡ ends.Raced x) → IfNone race (IsPlain report.end) → IfNone race (IsEndOf t ws report.end) → IsRunReport r b coarrays None report
report_at r b coarrays m t ws race report enders over kept trace core held lawful found images traced raced plain ended =
    let without : IfNone race (IsRunEnd r b t report.end) = none_then race (λ is. run_end r b m t ws report.end kept trace enders over held is) ended in
    let is_end : IsReportEnd b.images r b t report.end = end_of b.images r b t race report.end found raced plain without in
    record {
      images = images;
      core = subst (λ v. IsCoreRun r b v.entries) (sym traced) core;
      ordered = λ seed e. absurd (cc);
      end = subst (λ v. IsReportEnd b.images r b v report.end) (sym traced) is_end;
      allowed = subst (λ v. Allowed (edges b.images) (accesses (made_memory coarrays)) v.entries (before_race v report.end)) (sym traced)
          (allowed coarrays b.images t.entries lawful (before_race t report.end) (clean b.images r b t report.end is_end));
    }
  where
    none_then : {X Y : Type 0} (o : Option Race) → (X → Y) → IfNone o X → IfNone o Y
    none_then None f h = f h
    none_then (Some x) f h = h

-- and it is that of the order in which the run was made
pub with_order : {C M B : Type 0} (r : Rules C M B) (b : Beginning C M B) (coarrays : List Declared) (seed : ℕ) (report : Report) → IsRunReport r b coarrays None report → IsOrderTrace r b choosing (choices_of seed) report.trace.entries → IsRunReport r b coarrays (Some seed) report
with_order r b coarrays seed report h ordered = record {
  images = h.images;
  core = h.core;
  ordered = λ k e. (let same : seed ≡ k = cc in subst (λ n. IsOrderTrace r b choosing (choices_of n) report.trace.entries) same ordered);
  end = h.end;
  allowed = h.allowed;
}
