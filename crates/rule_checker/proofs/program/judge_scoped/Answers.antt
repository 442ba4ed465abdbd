use Rattle.std.proofs.Common.{◌∙◌, ap, map, refl}
use Rattle.fortran_tree.specs.UnitViews.{program}
use Rattle.scope_table.specs.Symbols.{interface}
use Rattle.rule_checker.specs.Whole.{statements_in}
use Rattle.rule_checker.proofs.Whole.{scoped_is}
use Rattle.rule_checker.proofs.program.judge_scoped.Goals as goal

pub returns : goal.returns
returns c =
    let x = c.args.scopes.now in
    let o = c.args.outside.now in
    let p = program c.args.program.now in
    scoped_is o x p c.in_ok-judged.judged _
    (c.in_ok-judged.ensures ∙ ap (λ z. statements_in o x.own z (map interface c.as_slice.result.now) c.as_slice-2.result.now p) c.as_slice-tables.ensures.value
    ∙ ap (λ z. statements_in o x.own x.procedures.tables.items (map interface z) c.as_slice-2.result.now p) c.as_slice.ensures.value
    ∙ ap (λ z. statements_in o x.own x.procedures.tables.items (map interface x.procedures.interfaces.items) z p) c.as_slice-2.ensures.value)
    refl refl refl c.in_ok-judge_rest.ensures
