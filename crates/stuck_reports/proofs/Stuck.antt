-- The report of a stuck run shows a stuck trace with its waits.
use Rattle.std.proofs.Common.{◌≡◌, ℕ, zero, suc, ◌+◌, ◌<◌, ◌≤◌, Bool, true, false, ◌&&◌, not, List, [], ◌∷◌, inl, inr, length, map, refl, ap, sym, ◌∙◌, subst, arith}
use Rattle.std.specs.Prelude.{Option, None, Some, slice_get}
use Rattle.std.specs.List.{list_all}
use Rattle.std.proofs.lemmas.Bool.{both_ways, not-true}
use Rattle.std.proofs.lemmas.List.{length-map}
use Rattle.caf_base.specs.declared.place.Place.{Place}
use Rattle.caf_base.specs.declared.place.Place.TheVariants as places
use Rattle.caf_events.specs.declared.ask.Ask.{Ask}
use Rattle.caf_events.specs.declared.ask.Ask.TheVariants as asking
use Rattle.caf_events.specs.declared.event.Entry.{Entry}
use Rattle.caf_events.specs.declared.event.Trace.{Trace}
use Rattle.caf_events.specs.Asks.{place_of}
use Rattle.caf_report.specs.declared.report.End.TheVariants as ends
use Rattle.caf_report.specs.declared.report.Report.{Report}
use Rattle.caf_report.specs.declared.report.Waiting.{Waiting}
use Rattle.caf_report.specs.Ends.{EndsAt, HasNoEnding, ending_by, ending_of, end_of_waits}
use Rattle.trace_theory.specs.Entries.{Each}
use Rattle.checked_tree.specs.Statements.{Program}
use Rattle.object_rules.specs.Cells.{Declared}
use Rattle.object_rules.specs.Happenings.{control, happened, has_ended}
use Rattle.object_rules.specs.MemoryRules.{has_first_values}
use Rattle.object_rules.specs.BoardRules.{is_image}
use Rattle.core_runs.specs.Beginnings.{Beginning}
use Rattle.core_runs.specs.CoreRuns.{IsCoreRun, at_board}
use Rattle.core_runs.specs.Moments.{Rules}
use Rattle.core_runs.specs.Waits.{IsUnready, IsWaiting}
use Rattle.core_runs.proofs.Lawfuls.{core_run_lawful}
use Rattle.order_report.specs.Reports.{WaitsAs, AreWaiting, IsRunEnd, IsReportEnd}
use Rattle.order_report.proofs.Runs.{no_ending}
use Rattle.program_run.specs.Reports.{IsProgramReport}
use Rattle.program_walks.specs.Runs.{program_rules, program_begins}
use Rattle.program_walks.proofs.Fits.{program_fit}
use Rattle.wait_reason.specs.WaitsFor.{is_fit_after, ready_at}
use Rattle.wait_reason.specs.Chains.{Wait}
use Rattle.wait_chain.specs.Reports.{as_wait, as_waits}
use Rattle.wait_chain.specs.Stuck.{IsHeld, IsStuck, left_after}
use Rattle.wait_chain.proofs.Images.{is_image_one}
use Rattle.object_rules.specs.BoardTeams.{teams_after}
use Rattle.told_walks.specs.Asked.{most_team}
use Rattle.next_fits.specs.Known.{IsSound, is_known}
use Rattle.next_fits.proofs.NextFits.{next_fits}
use Rattle.stuck_reports.specs.Fitting.{AskWhatFits, AskWhatIsKnown}
use Rattle.stuck_reports.proofs.Rising.{IsKey, rising_is}
use Rattle.stuck_reports.proofs.Ended.{has_ended_of, waits_not_ended}

-- ---- how a stuck run ends

-- the end of an event isn't that of a stuck run
ending_not : (k : ℕ) (a : Ask) (waits : List Waiting) → ends.Stuck waits ≡ ending_by k a → ⊥
ending_not k (asking.ErrorStop code) waits h = cc
ending_not k (asking.Fault kind) waits h = cc
ending_not k (asking.LimitStatements number) waits h = cc
ending_not k (asking.LimitWords number) waits h = cc
ending_not k (asking.LimitStamp number) waits h = cc
ending_not k a waits h = cc

ending_none : (k : ℕ) (o : Option Entry) (waits : List Waiting) → ends.Stuck waits ≡ ending_of k o → ⊥
ending_none k None waits h = cc
ending_none k (Some e) waits h = ending_not k e.event.ask waits h

-- the waits of its end are those of the run
waits_same : (ws waits : List Waiting) → ends.Stuck waits ≡ end_of_waits ws → ws ≡ waits
waits_same [] waits h = absurd (cc)
waits_same (w ∷ ws) waits h = cc

waits_some : (ws waits : List Waiting) → ends.Stuck waits ≡ end_of_waits ws → 0 < length waits
waits_some [] waits h = absurd (cc)
waits_some (w ∷ ws) waits h = let same : w ∷ ws ≡ waits = cc in subst (λ (z : List Waiting). 0 < length z) same (omega arith)

-- no event of a run with that end ends it
module _ {C M B : Type 0} (r : Rules C M B) (b : Beginning C M B) (t : Trace) (waits : List Waiting) (e : IsRunEnd r b t (ends.Stuck waits)) where
  none_to : (m j : ℕ) → j < m → EndsAt t j → ⊥
  none_to zero j lt at = absurd (omega arith)
  none_to (suc m) j lt at = ending_none j (slice_get t.entries j) waits (e.ended j (record { ends = at; none_before = λ i l before. none_to m i (omega arith) before }))

  stuck_open : HasNoEnding t
  stuck_open j at = none_to (suc j) j (omega arith) at

  stuck_waits : AreWaiting r b t waits × (0 < length waits)
  stuck_waits = let (ws, waiting, is) = e.open_end stuck_open in (subst (AreWaiting r b t) (waits_same ws waits is) waiting, waits_some ws waits is)

-- ---- what waits

images_of : (ws : List Waiting) → map (λ (w : Wait). w.image) (as_waits ws) ≡ map (λ (w : Waiting). w.image.0) ws
images_of [] = refl
images_of (w ∷ ws) = ap (λ zs. w.image.0 ∷ zs) (images_of ws)

each_map : {W : Type 0} (P Q : W → Type 0) (ws : List W) → ((w : W) → P w → Q w) → Each P ws → Each Q ws
each_map P Q [] next h = tt
each_map P Q (w ∷ ws) next h = (next w h.0, each_map P Q ws next h.1)

and_no : (x y : Bool) → (x ≡ true → y ≡ false) → (x && y) ≡ false
and_no true y h = h refl
and_no false y h = refl

module _ (p : Program) (limit : ℕ) (coarrays : List Declared) (n : ℕ) (fails_at : ℕ → ℕ) (words : ℕ) (t : Trace) where
  abbrev is_test : ℕ → Bool
  is_test i = not (has_ended i (happened control (at_board t.entries)))

  -- an ask at which an image waits isn't ready
  unready : (i : ℕ) (a : Ask) (q : Place) → IsUnready (program_rules p limit) (program_begins p coarrays n fails_at words) t.entries i a q → ready_at coarrays n t.entries i a q ≡ false
  unready i a (places.Memory owner) h = and_no (is_image n owner.0) _ (λ here. h (is_image_one n owner.0 here))
  unready i a places.Board h = h
  unready i a places.Own h = absurd h

  module _ (core : IsCoreRun (program_rules p limit) (program_begins p coarrays n fails_at words) t.entries) (waits : List Waiting) (w : AreWaiting (program_rules p limit) (program_begins p coarrays n fails_at words) t waits) (open_ : HasNoEnding t) where
    abbrev Waits : Waiting → Type 0
    Waits x = IsWaiting (program_rules p limit) (program_begins p coarrays n fails_at words) t.entries x.image.0 x.line x.ask

    waits_left : (x : Waiting) → Waits x → is_test x.image.0 ≡ true
    waits_left x h = ap not (waits_not_ended (program_rules p limit) (program_begins p coarrays n fails_at words) t.entries (program_fit p limit coarrays n fails_at words) core x.image.0 x.line x.ask h)

    waits_within : (x : Waiting) → Waits x → (1 ≤ x.image.0) × (x.image.0 < 1 + n)
    waits_within x h = let low = h.image.0 in let high = h.image.1 in (omega arith, omega arith)

    left_waits : (i : ℕ) → 1 ≤ i → i < 1 + n → is_test i ≡ true → IsKey (λ (x : Waiting). x.image.0) is_test i waits
    left_waits i low high left = elim (w.all i (omega arith, omega arith)) [
      | inl ended ↦ absurd (both_ways (has_ended i (happened control (at_board t.entries))) (not-true (has_ended i (happened control (at_board t.entries))) left) (has_ended_of i t.entries (no_ending t open_) ended))
      | inr there ↦ key_of i waits there
    ]
      where
        key_of : (k : ℕ) (ws : List Waiting) → WaitsAs k ws → IsKey (λ (x : Waiting). x.image.0) is_test k ws
        key_of k [] h = h
        key_of k (x ∷ ws) (inl e) = inl e
        key_of k (x ∷ ws) (inr h) = inr (key_of k ws h)

    pub images_left : map (λ (x : Wait). x.image) (as_waits waits) ≡ left_after n t.entries
    images_left = images_of waits ∙ rising_is (λ (x : Waiting). x.image.0) is_test 1 n waits w.rises (each_map _ _ waits waits_left w.each) (each_map _ _ waits waits_within w.each) left_waits

    held : (ws : List Waiting) → Each Waits ws → AskWhatFits coarrays n t.entries ws → Each (λ (x : Wait). IsHeld coarrays n t.entries x.image x.ask) (as_waits ws)
    held [] each fit = tt
    held (x ∷ ws) each fit = ((fit.0, unready x.image.0 x.ask (place_of x.ask) each.0.unready), held ws each.1 fit.1)

    pub stuck_trace : list_all has_first_values coarrays ≡ true → 0 < length waits → AskWhatFits coarrays n t.entries waits → IsStuck n t.entries (as_waits waits)
    stuck_trace declared some fit = record {
      coarrays = coarrays;
      lawful = core_run_lawful (program_rules p limit).step (program_rules p limit).hears coarrays n (program_begins p coarrays n fails_at words).first t.entries declared (program_fit p limit coarrays n fails_at words) core;
      images = images_left;
      some = subst (λ k. 0 < k) (sym (length-map waits as_wait)) some;
      held = held waits w.each fit;
    }

pub stuck_report : (p : Program) (limit : ℕ) (coarrays : List Declared) (n : ℕ) (fails_at : ℕ → ℕ) (words : ℕ) (order : Option ℕ) (r : Report) (waits : List Waiting) → list_all has_first_values coarrays ≡ true
    → IsProgramReport p limit coarrays n fails_at words order r → r.end ≡ ends.Stuck waits → AskWhatFits coarrays n r.trace.entries waits → IsStuck n r.trace.entries (as_waits waits)
stuck_report p limit coarrays n fails_at words order r waits declared report is fit =
    let rules = program_rules p limit in
    let begins = program_begins p coarrays n fails_at words in
    let e = (subst (IsReportEnd n rules begins r.trace) is report.end).1 in
    let there = stuck_waits rules begins r.trace waits e in
    stuck_trace p limit coarrays n fails_at words r.trace report.core waits there.0 (stuck_open rules begins r.trace waits e) declared there.1 fit

-- where the program is sound, what they ask fits as far as that is known
module _ (p : Program) (limit : ℕ) (coarrays : List Declared) (n : ℕ) (fails_at : ℕ → ℕ) (words : ℕ) (t : Trace) (sound : IsSound coarrays p) (core : IsCoreRun (program_rules p limit) (program_begins p coarrays n fails_at words) t.entries) (few : length (teams_after n (at_board t.entries)) ≤ most_team) where
  one_fits : (i line : ℕ) (a : Ask) → IsWaiting (program_rules p limit) (program_begins p coarrays n fails_at words) t.entries i line a → is_known coarrays a ≡ true → is_fit_after coarrays n t.entries i a ≡ true
  one_fits i line a w known = next_fits p limit coarrays n fails_at words t.entries sound core few i a (record { image = w.image; config = w.config; walks = w.walks; asks = w.asks }) known

  pub all_fit : (ws : List Waiting) → Each (λ x. IsWaiting (program_rules p limit) (program_begins p coarrays n fails_at words) t.entries x.image.0 x.line x.ask) ws → AskWhatIsKnown coarrays ws → AskWhatFits coarrays n t.entries ws
  all_fit [] each known = tt
  all_fit (x ∷ ws) each known = (one_fits x.image.0 x.line x.ask each.0 known.0, all_fit ws each.1 known.1)

pub known_fit : (p : Program) (limit : ℕ) (coarrays : List Declared) (n : ℕ) (fails_at : ℕ → ℕ) (words : ℕ) (order : Option ℕ) (r : Report) (waits : List Waiting) → IsSound coarrays p
    → IsProgramReport p limit coarrays n fails_at words order r → r.end ≡ ends.Stuck waits → length (teams_after n (at_board r.trace.entries)) ≤ most_team → AskWhatIsKnown coarrays waits → AskWhatFits coarrays n r.trace.entries waits
known_fit p limit coarrays n fails_at words order r waits sound report is few known =
    let rules = program_rules p limit in
    let begins = program_begins p coarrays n fails_at words in
    let e = (subst (IsReportEnd n rules begins r.trace) is report.end).1 in
    all_fit p limit coarrays n fails_at words r.trace sound report.core few waits (stuck_waits rules begins r.trace waits e).0.each known
