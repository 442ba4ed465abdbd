use Rattle.std.proofs.Common.{◌∙◌, sym}
use Rattle.fortran_lines.specs.declared.context.Context.TheVariants.{Outside}
use Rattle.fortran_lines.proofs.Cutting.{loop_grows, loop_ends, cut_first}
use Rattle.fortran_lines.proofs.reading.push_pieces.Goals as goal
use Rattle.fortran_lines.proofs.reading.push_pieces.Goals.{then-separates+in_ok-push_piece, else-separates}

pub loop-i-preserved : goal.loop-i-preserved
loop-i-preserved c =
    elim c.if-separates.branch [
      | then-separates+in_ok-push_piece w ↦ rw (w.from-is, w.stmts-is, c.behind-context.ensures) (loop_ends c.args.text.now c.loop-i.from c.loop-i.i _ c.loop-i.context _ _ _ c.loop-i-test.true (sym c.separates.ensures ∙ w.if-separates.true) w.in_ok-push_piece.ensures c.loop-i.invariant)
      | else-separates w ↦ rw (w.from-is, w.stmts-is, c.behind-context.ensures) (loop_grows c.args.text.now c.loop-i.from c.loop-i.i _ c.loop-i.context _ _ c.loop-i-test.true (sym c.separates.ensures ∙ w.if-separates.false) c.loop-i.invariant)
    ]

pub loop-i-init : goal.loop-i-init
loop-i-init c = cut_first c.args.text.now Outside _
