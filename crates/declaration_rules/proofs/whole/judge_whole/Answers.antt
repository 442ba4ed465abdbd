use Rattle.std.proofs.Common.{map, length}
use Rattle.fortran_tree.specs.DeclarationViews.{dimension, entity}
use Rattle.declaration_rules.specs.Entities.{attributes, unit, lent_coshape}
use Rattle.declaration_rules.proofs.Wholes.{length_mapped, whole_noted}
use Rattle.declaration_rules.proofs.whole.judge_whole.Goals as goal

pub returns : goal.returns
returns c =
    whole_noted (unit c.args.of.now) (attributes c.args.all) c.args.of_type (entity c.args.entity.now) (map dimension c.args.dimensions.now) (lent_coshape c.args.coshape)
    (length c.args.dimensions.now) c.corank-corank.result (length_mapped dimension c.args.dimensions.now) c.corank-corank.ensures
    c.args.first.now c.judge_rank.new.first c.judge_deferred.new.first c.judge_special_type.new.first c.judge_procedure_variable.new.first c.judge_intent.new.first c.judge_parameter.new.first
    c.judge_rank.ensures c.judge_deferred.ensures c.judge_special_type.ensures c.judge_procedure_variable.ensures c.judge_intent.ensures c.judge_parameter.ensures
