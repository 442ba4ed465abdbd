use Rattle.std.proofs.Common.{◌∙◌, [], ap, length, map, refl, sym}
use Rattle.std.proofs.lemmas.List.{length-map}
use Rattle.fortran_tree.specs.UnitViews.{procedure, program}
use Rattle.rule_definitions.specs.Units.{procedures_of}
use Rattle.scope_table.specs.Symbols.{interface}
use Rattle.unit_scopes.specs.Openings.{closing}
use Rattle.unit_scopes.specs.Scopes.{main_scope, owning}
use Rattle.rule_checker.specs.Units.{all_further, units}
use Rattle.rule_checker.specs.Whole.{begun}
use Rattle.rule_checker.proofs.Whole.{all_is}
use Rattle.rule_checker.proofs.program.judge_all.Goals as goal

pub returns : goal.returns
returns c =
    let is = map interface c.args.common.interfaces.now in
    let cs = c.args.common.constants.now in
    let p = program c.args.program.now in
    let ss = map (owning (closing (main_scope c.args.common.outside.now [] []) c.args.own.now)) c.args.tables.now in
    all_is is cs (procedures_of p) ss (begun is cs (record (main_scope c.args.common.outside.now [] []) { own = c.args.own.now }) p)
    c.in_ok-judged.judged _ c.in_ok-judged.ensures refl (c.in_ok-judge_each.ensures ∙ ap (λ ps. all_further is cs ps ss is (units c.in_ok-judged.judged.units)) c.procedures_in.ensures)
