use Rattle.checked_tree.specs.StatementViews as view
use Rattle.image_acts.specs.Acts.{host}
use Rattle.tree_meaning.specs.Forms.{environment_of, steps}
use Rattle.code_maker.proofs.Programs.{literals_behind_procedure, procedure_added}
use Rattle.code_maker.proofs.maker.push_procedures.Goals as goal

pub loop-procedure-preserved : goal.loop-procedure-preserved
loop-procedure-preserved c = (
  procedure_added (view.program c.args.checked.now) c.args.checked.now.end_line c.as_slice-procedures.result.now c.loop-procedure.procedure-index c.procedure-item.result _ c.push_unit.new.draft _ c.procedure-item.is c.loop-procedure-test.true c.in_ok-push_unit.ensures c.loop-procedure.invariant.0,
  literals_behind_procedure c.args.checked.now.literals.items c.args.checked.now.end_line (steps (environment_of (view.program c.args.checked.now) host (view.unit c.procedure-item.result.unit)) (view.unit c.procedure-item.result.unit).statements) _ c.push_unit.new.draft c.in_ok-push_unit.ensures c.loop-procedure.invariant.1,
)
