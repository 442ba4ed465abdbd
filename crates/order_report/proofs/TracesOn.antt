-- The trace of an ordered run from any moment: the events before it, and then its steps.
-- `step_events` and `ordered_events` stand in core_runs (proofs/OrderTraces) too, where no other crate can name them;
-- who needs them above takes them from here.
use Rattle.std.proofs.Common.{◌≡◌, ℕ, zero, suc, List, [], ◌∷◌, ◌++◌, inl, inr, length, refl, ap, sym, ◌∙◌, subst, arith, append_assoc}
use Rattle.std.specs.Prelude.{map, nat_eq}
use Rattle.std.proofs.lemmas.Bool.Decides.{eqb_tells}
use Rattle.std.proofs.lemmas.List.{append-nil}
use Rattle.std.proofs.lemmas.List.Elements.{filter-append}
use Rattle.caf_events.specs.declared.event.Entry.{Entry}
use Rattle.trace_theory.specs.Entries.{of}
use Rattle.core_runs.specs.Lists.{entry, image_of, list_at, entries_of}
use Rattle.core_runs.specs.Moments.{Rules, Moment, Steps}
use Rattle.core_runs.specs.CoreRuns.{of_image}
use Rattle.core_runs.specs.Orders.{Chooser, candidates, Ordered}
use Rattle.core_runs.specs.Traces.{IsTraceOf}
use Rattle.core_runs.proofs.Numbered.{item_within, index_same, list_other}
use Rattle.core_runs.proofs.Weaves.{map_append, with_length}
use Rattle.image_core.specs.declared.choices.Choices.{Choices}
use Rattle.image_core.specs.Choosing.{choosing}
use Rattle.order_report.specs.Reports.{IsTraceOn, RunsOn}

-- the events of an image after a step: one more, at its end, where it is the step's
step_events : {C M B : Type 0} (r : Rules C M B) (m m' : Moment C M B) (x : Entry) → length m.events ≡ length m.configs → Steps r m x.image.0 x.event m' → (i : ℕ) → entries_of m'.events i ≡ entries_of m.events i ++ of image_of i (x ∷ [])
step_events r m m' x as_many step i = by_number x.image.0 refl
  where
    same_image : (k : ℕ) → x.image.0 ≡ suc k → entries_of m'.events (suc k) ≡ entries_of m.events (suc k) ++ x ∷ []
    same_image k e =
        let stands = subst (λ n. Steps r m n x.event m') e step in
        let within = item_within m.configs k stands.from stands.stands in
        let now : list_at m'.events (suc k) ≡ list_at m.events (suc k) ++ x.event ∷ [] = ap (λ ls. list_at ls (suc k)) stands.events ∙ index_same m.events k (list_at m.events (suc k) ++ x.event ∷ []) [] (omega arith) in
        let named : entry (suc k) x.event ≡ x = ap (λ n. entry n x.event) (sym e) in
        ap (λ es. map (entry (suc k)) es) now ∙ map_append (entry (suc k)) (list_at m.events (suc k)) (x.event ∷ []) ∙ ap (λ y. entries_of m.events (suc k) ++ y ∷ []) named

    by_number : (n : ℕ) → x.image.0 ≡ n → entries_of m'.events i ≡ entries_of m.events i ++ of image_of i (x ∷ [])
    by_number zero e = absurd (let y = subst (λ n. Steps r m n x.event m') e step in let z = y.stands in cc)
    by_number (suc k) e = elim (eqb_tells x.image.0 i) [
      | inl t ↦ rw t.0 (subst (λ j. entries_of m'.events j ≡ entries_of m.events j ++ x ∷ []) (sym e ∙ t.1) (same_image k e))
      | inr f ↦ rw (f.0, append-nil) (ap (λ es. map (entry i) es) (ap (λ ls. list_at ls i) step.events ∙ list_other m.events x.image.0 i (list_at m.events x.image.0 ++ x.event ∷ []) f.1))
    ]

-- the events of an image after an ordered run: those before it, and then its steps
pub ordered_events : {C M B S : Type 0} (r : Rules C M B) (ch : Chooser S) (s : S) (m : Moment C M B) (xs : List Entry) (s' : S) (m' : Moment C M B) → Ordered r ch s m xs s' m' → length m.events ≡ length m.configs
    → (i : ℕ) → entries_of m'.events i ≡ entries_of m.events i ++ of_image i xs
ordered_events r ch s m [] s' m' (p, q) as_many i = ap (λ v. entries_of v.events i) q ∙ sym (append-nil (entries_of m.events i))
ordered_events r ch s m (x ∷ xs) s' m' (p, next, step, rest) as_many i =
    let a = ap length step.events ∙ with_length m.events x.image.0 (list_at m.events x.image.0 ++ x.event ∷ []) in
    let b = ap length step.configs ∙ with_length m.configs x.image.0 step.to in
    ordered_events r ch (ch.after s (candidates r m)) next xs s' m' rest (a ∙ as_many ∙ sym b) i
    ∙ (ap (λ es. es ++ of_image i xs) (step_events r m next x as_many step i) ∙ (append_assoc (entries_of m.events i) (of_image i (x ∷ [])) (of_image i xs) ∙ ap (λ es. entries_of m.events i ++ es) (sym (filter-append (λ y. nat_eq (image_of y) i) (x ∷ []) xs))))

-- the trace of the moment at which an ordered run has come to its end goes on by the steps of the run
pub trace_on : {C M B : Type 0} (r : Rules C M B) (s : Choices) (m m' : Moment C M B) (t : List Entry) → length m.events ≡ length m.configs → RunsOn r s m m' → IsTraceOf m'.events t → IsTraceOn r s m m' t
trace_on r s m m' t as_many on trace = record {
  on = on;
  images = λ i. trace.images i ∙ ordered_events r choosing s m on.run.steps on.last m' on.run.ordered as_many i;
}
