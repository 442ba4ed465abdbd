use Rattle.std.proofs.Common.{[], take}
use Rattle.core_runs.specs.Moments.{rules}
use Rattle.core_runs.specs.Beginnings.{Beginning}
use Rattle.core_runs.specs.Kept.{IsKept}
use Rattle.core_runs.specs.Traces.{IsTraceOf}
use Rattle.image_core.specs.Parts.{moment, AreSound}
use Rattle.judged_run.specs.Judging.{IsLastOf, Leads}
use Rattle.judged_run.proofs.judge.judge_entries.Given as goal

abbrev pub invariant-loop-k : goal.invariant-loop-k
invariant-loop-k g l =
    AreSound g.M.Walker g.O.Object g.B.Object l.parts
    × ((b : Beginning g.M.Walker.Config g.O.Object.Made g.B.Object.Made)
    → IsKept (rules g.M.Walker g.O.Object g.B.Object) b (moment g.M.Walker g.O.Object g.B.Object l.fn.parts)
    → IsTraceOf (moment g.M.Walker g.O.Object g.B.Object l.fn.parts).events []
    → IsKept (rules g.M.Walker g.O.Object g.B.Object) b (moment g.M.Walker g.O.Object g.B.Object l.parts)
    × IsTraceOf (moment g.M.Walker g.O.Object g.B.Object l.parts).events (take l.k l.entries))
    × IsLastOf l.last (take l.k l.entries)
    × Leads (rules g.M.Walker g.O.Object g.B.Object) (moment g.M.Walker g.O.Object g.B.Object l.fn.parts) (take l.k l.entries)
    (moment g.M.Walker g.O.Object g.B.Object l.parts)
