-- The front of the entries that were made, and the next one.
use Rattle.std.proofs.Common.{◌≡◌, ℕ, zero, suc, ◌+◌, ◌<◌, ◌≤◌, List, [], ◌∷◌, ◌++◌, length, take, drop, refl, ap}
use Rattle.std.proofs.Common.{sym, ◌∙◌, subst, arith, take_all}
use Rattle.std.specs.Prelude.{slice_index_or, Option, None, Some}
use Rattle.std.specs.Borrow.{Bor}
use Rattle.caf_events.specs.declared.event.Entry.{Entry}
use Rattle.trace_theory.specs.Entries.{Earlier, IsTraceOrder}
use Rattle.trace_theory.proofs.Snocs.{each_at}
use Rattle.core_runs.specs.Lists.{image_of, stamp_of}
use Rattle.core_runs.specs.Moments.{Rules, Moment, Steps}
use Rattle.core_runs.specs.Beginnings.{Beginning}
use Rattle.core_runs.specs.CoreRuns.{IsCoreRun}
use Rattle.core_runs.specs.Kept.{IsKept}
use Rattle.core_runs.specs.Traces.{IsTraceOf}
use Rattle.core_runs.proofs.CoreRuns.{core_run}
use Rattle.core_runs.proofs.KeptMore.{kept_more}
use Rattle.trace_judge.specs.Verdicts.{IsFirstNot, IsBehind, IsDueNow}
use Rattle.trace_judge.proofs.Next.{due_now, all_behind}
use Rattle.trace_judge.proofs.Made.{behind_last}
use Rattle.trace_judge.proofs.Verdict.{trace_more, first_not}
use Rattle.judged_run.specs.Judging.{IsLaterThan, IsLastOf, IsRunTo, Leads}

-- a list around one of its items
around : {A : Type 0} (xs : List A) (k : ℕ) (x : A) → k < length xs → x ≡ slice_index_or xs k x → take k xs
    ++ x ∷ drop (suc k) xs ≡ xs
around [] k x h p = absurd (omega arith)
around (y ∷ ys) zero x h p = ap (λ z. z ∷ ys) p
around (y ∷ ys) (suc k) x h p = ap (λ zs. y ∷ zs) (around ys k x (omega arith) p)

pub one_more : {A : Type 0} (xs : List A) (k : ℕ) (x : A) → k < length xs → x ≡ slice_index_or xs k x → take k xs
    ++ x ∷ [] ≡ take (k + 1) xs
one_more {A} xs k x h p = more xs k h p ∙ (let e : suc k ≡ k + 1 = omega arith in ap (λ j. take j xs) e)
  where
    more : (ys : List A) (j : ℕ) → j < length ys → x ≡ slice_index_or ys j x → take j ys ++ x ∷ [] ≡ take (suc j) ys
    more [] j l q = absurd (omega arith)
    more (y ∷ ys) zero l q = ap (λ z. z ∷ []) q
    more (y ∷ ys) (suc j) l q = ap (λ zs. y ∷ zs) (more ys j (omega arith) q)

taken : {A : Type 0} (xs : List A) (k : ℕ) → k ≤ length xs → length (take k xs) ≡ k
taken xs zero h = refl
taken [] (suc k) h = absurd (omega arith)
taken (x ∷ xs) (suc k) h = ap suc (taken xs k (omega arith))

-- behind all is behind the last
is_later : (last : Option (Bor Entry)) (t : List Entry) (e : Entry) → IsLastOf last t → IsBehind t e
    → IsLaterThan last e
is_later None t e l h = tt
is_later (Some x) t e (front, p) h = each_at (λ z. Earlier image_of stamp_of z e) front [] x.now
    (subst (λ z. IsBehind z e) p h)

-- and behind the last is behind all
is_behind : (last : Option (Bor Entry)) (t : List Entry) (e : Entry) → IsTraceOrder image_of stamp_of t
    → IsLastOf last t → IsLaterThan last e → IsBehind t e
is_behind None t e o l h = subst (λ z. IsBehind z e) (sym l) tt
is_behind (Some x) t e o (front, p) h =
    subst (λ z. IsBehind z e) (sym p) (behind_last front x.now e (subst (IsTraceOrder image_of stamp_of) p o) h)

module _ {C M B : Type 0} (r : Rules C M B) (b : Beginning C M B) (m : Moment C M B) (entries : List Entry) (k : ℕ)
    (e : Entry) (within : k < length entries) (is : e ≡ slice_index_or entries k e)
    (kept : IsKept r b m) (trace : IsTraceOf m.events (take k entries)) where
  -- the first front that is no core run is the one with this entry
  stop : (IsCoreRun r b (take k entries ++ e ∷ []) → ⊥) → IsFirstNot r b entries (k + 1)
  stop none =
      let f = first_not r b (take k entries) e (drop (suc k) entries) (core_run r b m (take k entries) kept trace)
      none in
      let n : length (take k entries) + 1 ≡ k + 1 = ap (λ j. j + 1) (taken entries k (omega arith)) in
      subst (λ xs. IsFirstNot r b xs (k + 1)) (around entries k e within is)
      (subst (IsFirstNot r b (take k entries ++ e ∷ drop (suc k) entries)) n f)

  pub stop_late : (last : Option (Bor Entry)) → IsLastOf last (take k entries) → (IsLaterThan last e → ⊥)
      → IsFirstNot r b entries (k + 1)
  stop_late last l late =
      stop (λ run. late (is_later last (take k entries) e l (all_behind (take k entries) e run.lawful.ordered)))

  pub stop_other : (IsDueNow r m e → ⊥) → IsFirstNot r b entries (k + 1)
  stop_other other = stop (λ run. other (due_now r b m (take k entries) e kept trace run))

  pub go_on : (m' : Moment C M B) (last : Option (Bor Entry)) → IsLastOf last (take k entries) → IsLaterThan last e
      → Steps r m (image_of e) e.event m' → IsKept r b m' × IsTraceOf m'.events (take (k + 1) entries)
  go_on m' last l later s =
      let behind = is_behind last (take k entries) e trace.ordered l later in (
        kept_more r b m m' (image_of e) e.event kept s,
        subst (IsTraceOf m'.events) (one_more entries k e within is)
            (trace_more r b m m' (take k entries) e kept trace s behind),
      )

pub whole : {C M B : Type 0} (r : Rules C M B) (b : Beginning C M B) (m : Moment C M B) (entries : List Entry) (k : ℕ)
    → length entries ≤ k → IsKept r b m → IsTraceOf m.events (take k entries)
    → IsRunTo r b entries m
whole r b m entries k long kept trace =
    let t = subst (IsTraceOf m.events) (take_all k entries long) trace in
    record { run = core_run r b m entries kept t; kept = kept; trace = t }

-- one step more leads further
leads_more : {C M B : Type 0} (r : Rules C M B) (m m' m'' : Moment C M B) (t : List Entry) (e : Entry) → Leads r m t m'
    → Steps r m' (image_of e) e.event m'' → Leads r m (t ++ e ∷ []) m''
leads_more r m m' m'' [] e p s = (m'', subst (λ v. Steps r v (image_of e) e.event m'') p s, refl)
leads_more r m m' m'' (x ∷ xs) e (next, one, rest) s = (next, one, leads_more r next m' m'' xs e rest s)

module _ {C M B : Type 0} (r : Rules C M B) (m m' : Moment C M B) (entries : List Entry) (k : ℕ) where
  pub leads_on : (e : Entry) (m'' : Moment C M B) → k < length entries → e ≡ slice_index_or entries k e
      → Leads r m (take k entries) m' → Steps r m' (image_of e) e.event m'' → Leads r m (take (k + 1) entries) m''
  leads_on e m'' within is leads s =
      subst (λ xs. Leads r m xs m'') (one_more entries k e within is) (leads_more r m m' m'' (take k entries) e leads s)

  pub leads_all : length entries ≤ k → Leads r m (take k entries) m' → Leads r m entries m'
  leads_all long leads = subst (λ xs. Leads r m xs m') (take_all k entries long) leads
