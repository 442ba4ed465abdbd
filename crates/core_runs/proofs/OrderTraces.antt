-- What an ordered run keeps, and its trace.
use Rattle.std.proofs.Common.{◌≡◌, ℕ, zero, suc, List, [], ◌∷◌, ◌++◌, inl, inr, length, refl, ap, sym, ◌∙◌, subst, arith, append_assoc}
use Rattle.std.specs.Prelude.{map, nat_eq}
use Rattle.std.proofs.lemmas.Bool.Decides.{eqb_tells}
use Rattle.std.proofs.lemmas.List.{append-nil, length-replicate}
use Rattle.std.proofs.lemmas.List.Elements.{filter-append}
use Rattle.caf_events.specs.declared.event.Entry.{Entry}
use Rattle.trace_theory.specs.Entries.{of}
use Rattle.core_runs.specs.Lists.{entry, image_of, list_at, entries_of}
use Rattle.core_runs.specs.Moments.{Rules, Moment, Steps}
use Rattle.core_runs.specs.Beginnings.{Beginning, IsFirst}
use Rattle.core_runs.specs.CoreRuns.{of_image, IsCoreRun, IsFit}
use Rattle.core_runs.specs.Kept.{IsKept}
use Rattle.core_runs.specs.Orders.{Chooser, candidates, Ordered, IsWhole, IsOrderTrace}
use Rattle.core_runs.specs.Traces.{IsTraceOf}
use Rattle.core_runs.proofs.Numbered.{item_within, index_same, list_other}
use Rattle.core_runs.proofs.Weaves.{map_append, with_length}
use Rattle.core_runs.proofs.Beginnings.{empty_at, first_kept}
use Rattle.core_runs.proofs.CoreRuns.{core_run}
use Rattle.core_runs.proofs.KeptMore.{kept_more}

-- an ordered run keeps all that is kept
pub ordered_kept : {C M B S : Type 0} (r : Rules C M B) (b : Beginning C M B) (ch : Chooser S) (s : S) (m : Moment C M B) (xs : List Entry) (s' : S) (m' : Moment C M B) → Ordered r ch s m xs s' m' → IsKept r b m → IsKept r b m'
ordered_kept r b ch s m [] s' m' (p, q) h = subst (IsKept r b) (sym q) h
ordered_kept r b ch s m (x ∷ xs) s' m' (p, next, step, rest) h = ordered_kept r b ch (ch.after s (candidates r m)) next xs s' m' rest (kept_more r b m next x.image.0 x.event h step)

-- an ordered run goes on by one step
pub ordered_more : {C M B S : Type 0} (r : Rules C M B) (ch : Chooser S) (s : S) (m : Moment C M B) (xs : List Entry) (s' s'' : S) (m' m'' : Moment C M B) (x : Entry) → Ordered r ch s m xs s' m' → Ordered r ch s' m' (x ∷ []) s'' m''
    → Ordered r ch s m (xs ++ x ∷ []) s'' m''
ordered_more r ch s m [] s' s'' m' m'' x (p, q) one = subst (λ v. Ordered r ch s v (x ∷ []) s'' m'') q (subst (λ v. Ordered r ch v m' (x ∷ []) s'' m'') p one)
ordered_more r ch s m (y ∷ ys) s' s'' m' m'' x (p, next, step, rest) one = (p, next, step, ordered_more r ch (ch.after s (candidates r m)) next ys s' s'' m' m'' x rest one)

-- the events of an image after a step: one more, at its end, where it is the step's
step_events : {C M B : Type 0} (r : Rules C M B) (m m' : Moment C M B) (x : Entry) → length m.events ≡ length m.configs → Steps r m x.image.0 x.event m' → (i : ℕ) → entries_of m'.events i ≡ entries_of m.events i ++ of image_of i (x ∷ [])
step_events r m m' x as_many step i = by_number x.image.0 refl
  where
    same_image : (k : ℕ) → x.image.0 ≡ suc k → entries_of m'.events (suc k) ≡ entries_of m.events (suc k) ++ x ∷ []
    same_image k e =
        let stands = subst (λ n. Steps r m n x.event m') e step in
        let within = item_within m.configs k stands.from stands.stands in
        let now : list_at m'.events (suc k) ≡ list_at m.events (suc k) ++ x.event ∷ [] = ap (λ ls. list_at ls (suc k)) stands.events ∙ index_same m.events k (list_at m.events (suc k) ++ x.event ∷ []) [] (omega arith) in
        let named : entry (suc k) x.event ≡ x = ap (λ n. entry n x.event) (sym e) in
        ap (λ es. map (entry (suc k)) es) now ∙ map_append (entry (suc k)) (list_at m.events (suc k)) (x.event ∷ []) ∙ ap (λ y. entries_of m.events (suc k) ++ y ∷ []) named

    by_number : (n : ℕ) → x.image.0 ≡ n → entries_of m'.events i ≡ entries_of m.events i ++ of image_of i (x ∷ [])
    by_number zero e = absurd (let y = subst (λ n. Steps r m n x.event m') e step in let z = y.stands in cc)
    by_number (suc k) e = elim (eqb_tells x.image.0 i) [
      | inl t ↦ rw t.0 (subst (λ j. entries_of m'.events j ≡ entries_of m.events j ++ x ∷ []) (sym e ∙ t.1) (same_image k e))
      | inr f ↦ rw (f.0, append-nil) (ap (λ es. map (entry i) es) (ap (λ ls. list_at ls i) step.events ∙ list_other m.events x.image.0 i (list_at m.events x.image.0 ++ x.event ∷ []) f.1))
    ]

-- the events of an image after an ordered run: those before it, and then its steps
ordered_events : {C M B S : Type 0} (r : Rules C M B) (ch : Chooser S) (s : S) (m : Moment C M B) (xs : List Entry) (s' : S) (m' : Moment C M B) → Ordered r ch s m xs s' m' → length m.events ≡ length m.configs
    → (i : ℕ) → entries_of m'.events i ≡ entries_of m.events i ++ of_image i xs
ordered_events r ch s m [] s' m' (p, q) as_many i = ap (λ v. entries_of v.events i) q ∙ sym (append-nil (entries_of m.events i))
ordered_events r ch s m (x ∷ xs) s' m' (p, next, step, rest) as_many i =
    let a = ap length step.events ∙ with_length m.events x.image.0 (list_at m.events x.image.0 ++ x.event ∷ []) in
    let b = ap length step.configs ∙ with_length m.configs x.image.0 step.to in
    ordered_events r ch (ch.after s (candidates r m)) next xs s' m' rest (a ∙ as_many ∙ sym b) i
    ∙ (ap (λ es. es ++ of_image i xs) (step_events r m next x as_many step i) ∙ (append_assoc (entries_of m.events i) (of_image i (x ∷ [])) (of_image i xs) ∙ ap (λ es. entries_of m.events i ++ es) (sym (filter-append (λ y. nat_eq (image_of y) i) (x ∷ []) xs))))

-- each image's entries in the trace of the moment to which an ordered run leads are its steps
pub order_same : {C M B S : Type 0} (r : Rules C M B) (b : Beginning C M B) (ch : Chooser S) (s : S) (m : Moment C M B) (xs : List Entry) (s' : S) (m' : Moment C M B) (t : List Entry) → IsFirst r b m → Ordered r ch s m xs s' m' → IsTraceOf m'.events t
    → (i : ℕ) → of_image i t ≡ of_image i xs
order_same r b ch s m xs s' m' t first ordered trace i =
    trace.images i
    ∙ (ordered_events r ch s m xs s' m' ordered (ap length first.events ∙ length-replicate b.images [] ∙ sym first.count) i
    ∙ ap (λ es. es ++ of_image i xs) (ap (map (entry i)) (empty_at m.events b.images i first.events)))

-- the trace of the moment to which a whole ordered run leads is that of the run
pub order_trace : {C M B S : Type 0} (r : Rules C M B) (b : Beginning C M B) (ch : Chooser S) (s : S) (m : Moment C M B) (xs : List Entry) (s' : S) (m' : Moment C M B) (t : List Entry) → IsFirst r b m → Ordered r ch s m xs s' m' → IsWhole r xs m'
    → IsTraceOf m'.events t → IsOrderTrace r b ch s t
order_trace r b ch s m xs s' m' t first ordered whole trace = record {
  steps = xs;
  run = record { from = m; begins = first; last = s'; to = m'; ordered = ordered; whole = whole };
  ordered = trace.ordered;
  same = order_same r b ch s m xs s' m' t first ordered trace;
}

-- the trace of an ordered run is a core run
pub order_core : {C M B S : Type 0} (r : Rules C M B) (b : Beginning C M B) (ch : Chooser S) (s : S) (t : List Entry) → IsFit r b → IsOrderTrace r b ch s t → IsCoreRun r b t
order_core r b ch s t fit o =
    let m = o.run.from in
    let first = o.run.begins in
    let kept = ordered_kept r b ch s m o.steps o.run.last o.run.to o.run.ordered (first_kept r b m fit first) in
    core_run r b o.run.to t kept (record {
      images = λ i.
          o.same i
          ∙ sym (ordered_events r ch s m o.steps o.run.last o.run.to o.run.ordered (ap length first.events ∙ length-replicate b.images [] ∙ sym first.count) i
          ∙ ap (λ es. es ++ of_image i o.steps) (ap (map (entry i)) (empty_at m.events b.images i first.events)));
      ordered = o.ordered;
    })
