use Rattle.std.specs.Prelude.{map}
use Rattle.order_report.specs.Reports.{AreHeld}
use Rattle.order_report.proofs.waits.held.Given as goal

abbrev pub invariant-loop-run : goal.invariant-loop-run
invariant-loop-run g l = AreHeld g.M.Walker.step (map (λ r. g.M.Walker.config r.machine) l.parts.images.items) l.run-index l.held
