use Rattle.std.proofs.Common.{map}
use Rattle.fortran_tree.specs.UnitViews.{heading, prefix_spec}
use Rattle.rule_definitions.specs.Units.{headed, types_of}
use Rattle.unit_scopes.proofs.Heads.{heading_noted}
use Rattle.unit_scopes.proofs.heading.judge_heading.Goals as goal

pub returns : goal.returns
returns c =
    heading_noted c.args.scope.now (headed (heading c.args.heading.now)) (types_of (map prefix_spec c.prefixes_in.result.now)) c.answer_place.result c.args.first.now c.judge_names.new.first c.judge_types.new.first
    c.in_ok-judge_names.ensures c.in_ok-judge_types.ensures c.prefixes_in.ensures c.answer_place.ensures
