use Rattle.std.proofs.Common.{sym, subst}
use Rattle.core_runs.specs.Moments.{rules}
use Rattle.image_core.specs.Outlooks.{LeavesOthers}
use Rattle.image_core.specs.Parts.{moment}
use Rattle.image_core.proofs.parts.PartsOf.left_others.Goals as goal

pub returns-in-Board : goal.returns-in-Board
returns-in-Board g c inert =
    subst (λ p. LeavesOthers (rules g.M.Walker g.O.Object g.B.Object) c.args.image.0 p (moment g.M.Walker g.O.Object g.B.Object c.args.self.now)) (sym c.in-Board.is) (c.last_is_inert.ensures inert)

pub returns-in-Memory : goal.returns-in-Memory
returns-in-Memory g c inert =
    subst (λ p. LeavesOthers (rules g.M.Walker g.O.Object g.B.Object) c.args.image.0 p (moment g.M.Walker g.O.Object g.B.Object c.args.self.now)) (sym c.in-Memory.is) (c.last_is_inert_at.ensures inert)
