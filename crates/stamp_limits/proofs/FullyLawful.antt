-- A run of fit programs that ends at limits of stamps is lawful: its images make the steps of their failures, and
-- nothing follows a limit.
use Rattle.std.proofs.Common.{◌≡◌, ℕ, zero, suc, true, List, [], ◌∷◌, inl, inr, refl, ap, sym, subst, arith}
use Rattle.std.specs.Prelude.{map, not}
use Rattle.std.specs.List.{filter, list_all}
use Rattle.std.proofs.lemmas.Bool.{cases_Bool, cases_lt}
use Rattle.caf_events.specs.declared.ask.Ask.{Ask}
use Rattle.caf_events.specs.declared.ask.Ask.TheVariants as forms
use Rattle.caf_events.specs.declared.reply.Reply.{Reply}
use Rattle.caf_events.specs.declared.event.Entry.{Entry}
use Rattle.caf_events.specs.Answers.{Answers}
use Rattle.caf_events.specs.Events.{EndsImage}
use Rattle.object_rules.specs.Cells.{Declared}
use Rattle.object_rules.specs.MemoryRules.{has_first_values}
use Rattle.trace_theory.specs.Entries.{Each}
use Rattle.trace_theory.specs.Machines.{Move, Said}
use Rattle.trace_theory.specs.Simulations.{AllAnswer}
use Rattle.core_runs.specs.Lists.{image_of, said}
use Rattle.core_runs.specs.Moments.{Rules}
use Rattle.core_runs.specs.Beginnings.{Beginning, IsImage}
use Rattle.core_runs.specs.CoreRuns.{of_image, said_by, IsFit}
use Rattle.core_runs.specs.Failures.{LockPlace, held_after, failure_steps, is_limit, RunsOut, FailsBy, FailsFrom}
use Rattle.core_runs.specs.Lawful.{IsLawfulTrace, full_rules, full_beginning}
use Rattle.core_runs.specs.Sequences.{NothingAfterEnd}
use Rattle.stamp_limits.specs.StampLimits.{is_stamp_limit, said_by_program, IsStampLimitedRun}
use Rattle.stamp_limits.proofs.Bounds.{each_keyed}
use Rattle.stamp_limits.proofs.Recited.{all_answered}

-- a limit ends its image
limit_ends : (a : Ask) (r : Reply) → is_limit a ≡ true → EndsImage a r
limit_ends (forms.LimitStatements number) r h = tt
limit_ends (forms.LimitWords number) r h = tt
limit_ends (forms.LimitStamp number) r h = tt
limit_ends a r h = absurd (cc)

stamp_limit_is : (a : Ask) → is_stamp_limit a ≡ true → is_limit a ≡ true
stamp_limit_is (forms.LimitStamp number) h = refl
stamp_limit_is a h = absurd (cc)

-- and is no step of its failure
limit_fails : (i : ℕ) (held : List LockPlace) (a : Ask) (r : Reply) (rest : List LockPlace → Type 0) → ((more : List LockPlace) → rest more) → is_stamp_limit a ≡ true → FailsBy i held a r [] rest
limit_fails i held (forms.LimitStamp number) r rest all h = (refl, all held)
limit_fails i held a r rest all h = absurd (cc)

nothing_behind : (e : Said Ask Reply) (es : List (Said Ask Reply)) → NothingAfterEnd (e ∷ es) → NothingAfterEnd es
nothing_behind e es h before after x p ends = h (e ∷ before) after x (ap (λ l. e ∷ l) p) ends

last_limit : (e : Said Ask Reply) (es : List (Said Ask Reply)) → NothingAfterEnd (e ∷ es) → is_limit e.ask ≡ true → es ≡ []
last_limit e es h l = h [] es e refl (limit_ends e.ask e.reply l)

abbrev program : List (Said Ask Reply) → List (Said Ask Reply)
program es = filter (λ e. not (is_stamp_limit e.ask)) es

-- the steps of a failure run out with the limit too
runs_out : (ss : List Ask) (es : List (Said Ask Reply)) → NothingAfterEnd es → RunsOut ss (program es) → RunsOut ss es
runs_out [] [] h f = tt
runs_out (s ∷ ss) [] h f = tt
runs_out [] (e ∷ es) h f = elim (cases_Bool (is_stamp_limit e.ask)) [
  | inl t ↦ (let l = stamp_limit_is e.ask t in (l, last_limit e es h l))
  | inr n ↦ (let g : RunsOut [] (e ∷ program es) = rw n at f in (g.0, last_limit e es h g.0))
]
runs_out (s ∷ ss) (e ∷ es) h f = elim (cases_Bool (is_stamp_limit e.ask)) [
  | inl t ↦ (let l = stamp_limit_is e.ask t in inr (l, last_limit e es h l))
  | inr n ↦ (
      let g : RunsOut (s ∷ ss) (e ∷ program es) = rw n at f in
      elim g [
        | inl x ↦ inl (x.0, runs_out ss es (nothing_behind e es h) x.1)
        | inr x ↦ inr (x.0, last_limit e es h x.0)
      ])
]

fails_by : (i : ℕ) (held : List LockPlace) (a : Ask) (r : Reply) (es : List (Said Ask Reply)) → NothingAfterEnd es → ((more : List LockPlace) → FailsFrom i (program es) more → FailsFrom i es more)
    → FailsBy i held a r (program es) (FailsFrom i (program es)) → FailsBy i held a r es (FailsFrom i es)
fails_by i held forms.Fail r es h next f = runs_out (failure_steps i held) es h f
fails_by i held a r es h next f = (f.0, next (held_after held a r) f.1)

fails_with : (i : ℕ) (es : List (Said Ask Reply)) (held : List LockPlace) → NothingAfterEnd es → FailsFrom i (program es) held → FailsFrom i es held
fails_with i [] held h f = tt
fails_with i (e ∷ es) held h f = elim (cases_Bool (is_stamp_limit e.ask)) [
  | inl t ↦ (
      let none = last_limit e es h (stamp_limit_is e.ask t) in
      subst (λ l. FailsFrom i (e ∷ l) held) (sym none) (limit_fails i held e.ask e.reply (FailsFrom i []) (λ more. tt) t))
  | inr n ↦ (
      let g : FailsFrom i (e ∷ program es) held = rw n at f in
      fails_by i held e.ask e.reply es (nothing_behind e es h) (λ more. fails_with i es more (nothing_behind e es h)) g)
]

all_filter : (es : List (Said Ask Reply)) → AllAnswer Answers es → AllAnswer Answers (program es)
all_filter [] h = tt
all_filter (e ∷ es) h = elim (cases_Bool (is_stamp_limit e.ask)) [
  | inl t ↦ rw t (all_filter es h.1)
  | inr n ↦ rw n (h.0, all_filter es h.1)
]

none_of : {E : Type 0} (xs : List E) → Each (λ x. ⊥) xs → xs ≡ []
none_of [] h = refl
none_of (x ∷ xs) h = absurd h.0

module _ {C M B : Type 0} (r : Rules C M B) (b : Beginning C M B) (t : List Entry) (fit : IsFit r b) (run : IsStampLimitedRun r b t) where
  -- an image that isn't of the run has no entry
  not_of_run : (i : ℕ) → (IsImage b i → ⊥) → said_by i t ≡ []
  not_of_run i other = ap (map (λ (x : Entry). said x.event)) (none_of (of_image i t) (each_keyed (λ x. IsImage b (image_of x)) (λ x. ⊥) image_of i (λ x e h. other (subst (IsImage b) e h)) t run.lawful.images))

  fails_here : (i : ℕ) → IsImage b i → FailsFrom i (said_by i t) []
  fails_here i here =
      let w = run.walks i here in
      fails_with i (said_by i t) [] (run.nothing_after i)
      (fit.fails i here (said_by_program i t) w.0 (all_filter (said_by i t) (all_answered r b t run.lawful run.nothing_after fit.memory_answers fit.board_answers i)) w.1)

  -- an image that fails makes the steps of its failure
  pub fails_by_fit : (i : ℕ) → FailsFrom i (said_by i t) []
  fails_by_fit zero = subst (λ es. FailsFrom zero es []) (sym (not_of_run zero (λ h. (let low = h.0 in omega arith)))) tt
  fails_by_fit (suc k) = elim (cases_lt k b.images) [
    | inl l ↦ fails_here (suc k) (omega arith, omega arith)
    | inr g ↦ subst (λ es. FailsFrom (suc k) es []) (sym (not_of_run (suc k) (λ h. (let high = h.1 in omega arith)))) tt
  ]

pub limited_lawful : {C : Type 0} (step : C → Move C Ask Reply) (hears : C → Reply → Type 0) (s : List Declared) (n : ℕ) (first : ℕ → C) (t : List Entry)
    → list_all has_first_values s ≡ true → IsFit (full_rules step hears) (full_beginning s n first) → IsStampLimitedRun (full_rules step hears) (full_beginning s n first) t → IsLawfulTrace s n t
limited_lawful step hears s n first t declared fit run = record {
  declared = declared;
  ordered = run.lawful.ordered;
  stamped = run.lawful.stamped;
  images = run.lawful.images;
  places = run.lawful.places;
  memories = run.lawful.memories;
  board = run.lawful.board;
  alone = run.lawful.alone;
  joins = run.lawful.joins;
  fails = fails_by_fit (full_rules step hears) (full_beginning s n first) t fit run;
  limits = λ i before after e p l. run.nothing_after i before after e p (limit_ends e.ask e.reply l);
}
