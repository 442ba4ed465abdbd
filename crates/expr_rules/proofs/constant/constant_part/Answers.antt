use Rattle.std.proofs.Common.{◌≡◌, length, subst, arith}
use Rattle.std.proofs.lemmas.Grind.{common_steps}
use Rattle.std.proofs.lemmas.List.{length-map}
use Rattle.std.specs.Prelude.{IfOk, map}
use Rattle.std.specs.Option.{option_map}
use Rattle.checked_tree.specs.ExpressionViews.{expression}
use Rattle.part_rules.specs.Brackets.{actual_seen, subscripts_in}
use Rattle.rule_definitions.specs.Expressions.{rank_behind}
use Rattle.scope_table.specs.Symbols.{constant_symbol}
use Rattle.expr_rules.specs.Selections.{selection as selection_seen}
use Rattle.expr_rules.proofs.Objects.{constant_found_breaks, constant_found_meaning}
use Rattle.expr_rules.proofs.constant.constant_part.Goals as goal

pub returns-clause-breaks : goal.returns-clause-breaks
returns-clause-breaks c =
    let x = constant_symbol c.args.constant.now in
    let ss = map actual_seen c.args.actuals.items in
    let r : c.len.result ≡ length x.bounds = grind (arith, common_steps) in
    let k : c.len-count.result ≡ length ss = grind (arith, common_steps, length-map) in
    subst (λ bs. IfOk c.constant_with.result (λ j. j.breaks.items ≡ bs))
    (constant_found_breaks x c.args.at ss (selection_seen c.args.selection) c.in_ok-subscripts.subscripts.breaks.items c.len.result c.len-count.result c.in_ok-subscripts.ensures.breaks r k)
    c.constant_with.ensures.breaks

pub returns-clause-meaning : goal.returns-clause-meaning
returns-clause-meaning c =
    let x = constant_symbol c.args.constant.now in
    let ss = map actual_seen c.args.actuals.items in
    let r : c.len.result ≡ length x.bounds = grind (arith, common_steps) in
    let k : c.len-count.result ≡ length ss = grind (arith, common_steps, length-map) in
    let q : c.in_ok-rank.rank ≡ rank_behind (length x.bounds) ss = grind (arith, common_steps) in
    subst (λ o. IfOk c.constant_with.result (λ j. option_map expression j.meaning ≡ o))
    (constant_found_meaning x c.args.at ss (selection_seen c.args.selection) c.in_ok-subscripts.subscripts.breaks.items (option_map subscripts_in c.in_ok-subscripts.subscripts.meaning) c.len.result c.len-count.result c.in_ok-rank.rank
    c.in_ok-subscripts.ensures.breaks c.in_ok-subscripts.ensures.meaning r k q)
    c.constant_with.ensures.meaning
