-- What is kept at every moment of a run.
use Rattle.core_runs.specs.Moments.{Rules, Moment}
use Rattle.core_runs.specs.Beginnings.{Beginning}
use Rattle.core_runs.specs.Lanes.{IsMomentOf}
use Rattle.core_runs.specs.CoreRuns.{IsFit}

-- what is kept at every moment: it is one of a run whose rules and programs are fit
abbrev pub IsKept : {C M B : Type 0} → Rules C M B → Beginning C M B → Moment C M B → Type 0
IsKept r b m = IsMomentOf (IsFit r b) r b m
