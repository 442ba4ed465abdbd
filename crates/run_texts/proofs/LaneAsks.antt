-- What the images of a run of an accepted program ask: no section of more than three dimensions is read or written.
use Rattle.std.proofs.Common.{◌≡◌, ◌∙◌, ℕ, List, [], ◌∷◌, ◌++◌, ◌⊎◌, inl, inr, map, refl, ap, sym, subst, append_assoc}
use Rattle.caf_events.specs.declared.ask.Ask.{Ask}
use Rattle.caf_events.specs.declared.ask.Ask.TheVariants as asks
use Rattle.caf_events.specs.declared.reply.Reply.{Reply}
use Rattle.caf_events.specs.declared.event.Entry.{Entry}
use Rattle.trace_theory.specs.Entries.{Each}
use Rattle.trace_theory.specs.Machines.{Move, Said, Walk}
use Rattle.trace_theory.proofs.Snocs.{each_at}
use Rattle.walk_theory.specs.Code.{State, Line, at_place, code_step}
use Rattle.walk_theory.specs.Made.{program_code}
use Rattle.checked_tree.specs.Statements.{Program}
use Rattle.image_acts.specs.Acts as acts
use Rattle.image_acts.specs.Core.{Core}
use Rattle.image_acts.specs.Meaning.{image_language}
use Rattle.tree_meaning.specs.Forms.{bodies}
use Rattle.tree_meaning.specs.Start.{first_core}
use Rattle.object_rules.specs.Cells.{Declared}
use Rattle.core_runs.specs.Beginnings.{IsOneOf}
use Rattle.core_runs.specs.CoreRuns.{IsCoreRun, said_by}
use Rattle.core_runs.specs.Failures.{LockPlace, release_of, failure_steps}
use Rattle.core_runs.specs.Lawful.{IsLawfulTrace}
use Rattle.core_runs.specs.Lists.{image_of, said}
use Rattle.image_lanes.specs.Lanes.{OnLane, lane_step, lane_start}
use Rattle.image_lanes.specs.Courses.{AreAt, lane_past, Fails, IsLimited}
use Rattle.image_lanes.proofs.CourseLaws.{course_of}
use Rattle.program_walks.specs.Runs.{program_rules, program_begins}
use Rattle.program_walks.proofs.CodeRuns.{runs_onward}
use Rattle.checked_run.specs.Doing.{DoesAll}
use Rattle.checked_run.specs.Runnable.{lines_of}
use Rattle.lawful_texts.specs.Ranges.{IsThreefold}
use Rattle.lawful_texts.proofs.Entries.{said_split}
use Rattle.run_texts.proofs.CodeAsks.{walk_few}

abbrev AllFew : List (Said Ask Reply) → Type 0
AllFew es = Each (λ (e : Said Ask Reply). IsThreefold e.ask) es

both_few : (xs ys : List (Said Ask Reply)) → AllFew xs → AllFew ys → AllFew (xs ++ ys)
both_few [] ys h k = k
both_few (x ∷ xs) ys h k = (h.0, both_few xs ys h.1 k)

-- ---- behind what a program says: its failure, or its limit
abbrev AreFew : List Ask → Type 0
AreFew steps = Each IsThreefold steps

releases_few : (held : List LockPlace) → AreFew (map release_of held ++ asks.Gone ∷ [])
releases_few [] = (tt, tt)
releases_few (p ∷ ps) = (tt, releases_few ps)

failing_few : (line : ℕ) (steps : List Ask) (es : List (Said Ask Reply)) → AreFew steps → AreAt line steps es → AllFew es
failing_few line steps [] n h = tt
failing_few line [] (e ∷ es) n h = absurd h
failing_few line (a ∷ rest) (e ∷ es) n h = (subst IsThreefold (sym h.0) n.0, failing_few line rest es n.1 h.2)

module _ (code : List (Line acts.Act)) (limit : ℕ) (all : DoesAll code) where
  abbrev step : State Core → Move (State Core) Ask Reply
  step = code_step image_language code limit

  rest_few : (l : OnLane (State Core)) (es : List (Said Ask Reply)) → ((es ≡ []) ⊎ (Fails step l es ⊎ IsLimited step l es)) → AllFew es
  rest_few l es (inl e) = subst AllFew (sym e) tt
  rest_few l es (inr (inl f)) = subst AllFew (sym f.all) (tt, failing_few f.line (failure_steps l.image l.held) f.rest (tt, releases_few l.held) f.steps)
  rest_few l es (inr (inr f)) = subst AllFew (sym f.all) (tt, tt)

  lane_few : (image fails_at words : ℕ) (first : State Core) (es : List (Said Ask Reply)) (c : OnLane (State Core))
      → Walk (lane_step step) (lane_start image fails_at words first) es c → AllFew es
  lane_few image fails_at words first es c w =
      let start = lane_start image fails_at words first in
      let v = course_of step es start c first w in
      subst AllFew (sym v.all) (both_few v.walked v.rest (walk_few code limit all first v.walked v.walks.0 v.walks.1) (rest_few (lane_past start v.walked v.to) v.rest v.ends))

-- ---- a core run of a program
module _ (p : Program) (does : DoesAll (lines_of p)) (limit : ℕ) (coarrays : List Declared) (n : ℕ) (fails_at : ℕ → ℕ) (words : ℕ) (t : List Entry)
    (core : IsCoreRun (program_rules p limit) (program_begins p coarrays n fails_at words) t) where
  image_few : (i : ℕ) → IsOneOf n i → AllFew (said_by i t)
  image_few i there =
      let w = (runs_onward p limit coarrays n fails_at words t core).walks i there in
      lane_few (program_code (acts.ask acts.end_program) p.end_line (bodies p)) limit does i (fails_at i) words (at_place 0 [] (first_core p i n) 0) (said_by i t) w.0 w.1

  entries_from : (before es : List Entry) → before ++ es ≡ t → IsLawfulTrace coarrays n t → Each (λ (e : Entry). IsThreefold e.event.ask) es
  entries_from before [] e l = tt
  entries_from before (x ∷ es) e l =
      let i = image_of x in
      let there = each_at (λ (y : Entry). IsOneOf n (image_of y)) before es x (subst (Each (λ (y : Entry). IsOneOf n (image_of y))) (sym e) l.images) in
      let all = subst AllFew (ap (said_by i) (sym e) ∙ said_split before es x) (image_few i there) in (
        each_at (λ (y : Said Ask Reply). IsThreefold y.ask) (said_by i before) (said_by i es) (said x.event) all,
        entries_from (before ++ x ∷ []) es (append_assoc before (x ∷ []) es ∙ e) l,
      )

  pub entries_few : IsLawfulTrace coarrays n t → Each (λ (e : Entry). IsThreefold e.event.ask) t
  entries_few l = entries_from [] t refl l
