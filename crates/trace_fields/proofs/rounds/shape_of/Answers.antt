use Rattle.std.proofs.lemmas.Result.{IfOk-weaker}
use Rattle.trace_fields.proofs.Shapes.{shape_bounds}
use Rattle.trace_fields.proofs.rounds.shape_of.Goals as goal

pub returns : goal.returns
returns c = IfOk-weaker c.bounds_in.result _ _ (λ r is dims each e.
    is dims each (shape_bounds dims each _ _ _ c.cut_at.ensures e)) c.bounds_in.ensures
