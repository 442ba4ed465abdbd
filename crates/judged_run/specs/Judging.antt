-- How the entries of a trace are judged: each stands behind the one before it, and in the end the parts are behind
-- all of them.
use Rattle.std.specs.Prelude.{◌≡◌, List, [], ◌∷◌, ◌++◌, Option, None, Some}
use Rattle.std.specs.Borrow.{Bor}
use Rattle.caf_events.specs.declared.event.Entry.{Entry}
use Rattle.trace_theory.specs.Entries.{Earlier}
use Rattle.core_runs.specs.Lists.{image_of, stamp_of}
use Rattle.core_runs.specs.Moments.{Rules, Moment, Steps}
use Rattle.core_runs.specs.Beginnings.{Beginning}
use Rattle.core_runs.specs.CoreRuns.{IsCoreRun}
use Rattle.core_runs.specs.Kept.{IsKept}
use Rattle.core_runs.specs.Traces.{IsTraceOf}

-- the entry stands behind the last one, where there is one
abbrev pub IsLaterThan : Option (Bor Entry) → Entry → Type 0
IsLaterThan None e = Unit {0}
IsLaterThan (Some x) e = Earlier image_of stamp_of x.now e

-- the last of these entries, where there is one
abbrev pub IsLastOf : Option (Bor Entry) → List Entry → Type 0
IsLastOf None t = t ≡ []
IsLastOf (Some x) t = (front : List Entry) × (t ≡ front ++ x.now ∷ [])

-- the entries are a core run, and the moment is the one behind it
pub record IsRunTo {C M B : Type 0} (r : Rules C M B) (b : Beginning C M B) (t : List Entry)
    (m : Moment C M B) : Type 0 where
  pub run : IsCoreRun r b t
  pub kept : IsKept r b m
  pub trace : IsTraceOf m.events t

-- these entries, one after the other, are the steps that lead from one moment to another
abbrev pub Leads : {C M B : Type 0} → Rules C M B → Moment C M B → List Entry → Moment C M B → Type 0
Leads r m [] m' = m' ≡ m
Leads {C} {M} {B} r m (x ∷ xs) m' =
    (next : Moment C M B) × Steps r m (image_of x) x.event next × Leads r next xs m'
