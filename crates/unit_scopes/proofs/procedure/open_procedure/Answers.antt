use Rattle.fortran_tree.specs.UnitViews.{procedure}
use Rattle.declaration_rules.specs.Entities.{unit}
use Rattle.unit_scopes.proofs.Chains.{opened_whole}
use Rattle.unit_scopes.proofs.procedure.open_procedure.Goals as goal

pub returns : goal.returns
returns c =
    opened_whole c.args.setting.now c.args.host.now (procedure c.args.procedure.now) (unit c.declaring_unit-of.result) c.dummies_in-2.result.now c.in_ok-of_type.of_type
    c.args.grown.now c.judge_heading_in.new.grown c.declare_inside.new.grown c.add_all_dummies.new.grown c.add_answer.new.grown
    c.requires c.in_ok-of_type.ensures.grown c.declaring_unit-of.ensures.unit c.dummies_in-2.ensures c.in_ok-of_type.ensures.of_type
    c.in_ok-declare_inside.ensures c.in_ok-add_all_dummies.ensures c.in_ok-add_answer.ensures
