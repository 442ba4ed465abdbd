use Rattle.image_stores.proofs.RowLaws.{has_rows, end_fit}
use Rattle.std.proofs.Common.{◌∙◌, arith}
use Rattle.image_stores.proofs.rows.Rows.end.Goals.{then-depth-gt0, else-depth-gt0}
use Rattle.image_stores.proofs.rows.Rows.end.Goals as goal

pub invariant_of-self : goal.invariant_of-self
invariant_of-self c =
    end_fit c.self.inside.cells.items c.self.inside.bases.items c.self.inside.depth c.self.inside.base c.self.inside.top c.if-depth-gt0.self c.self.invariant
    (has_rows c.self.inside.cells.items c.self.inside.bases.items c.self.inside.top c.self.inside.depth c.args.self.now (search (c.self.view_is)) c.requires)
    (λ h. elim c.if-depth-gt0.branch [ then-depth-gt0 w ↦ w.self-is ∙ w.base_at-self-inside.ensures | else-depth-gt0 w ↦ absurd (omega arith) ])
    (λ h. elim c.if-depth-gt0.branch [ then-depth-gt0 w ↦ absurd (omega arith) | else-depth-gt0 w ↦ w.self-is ])
