use Rattle.std.specs.Option.{option_map}
use Rattle.checked_tree.specs.ExpressionViews.{expression as typed}
use Rattle.fortran_tree.specs.ExpressionViews.{expression as source}
use Rattle.declaration_rules.specs.Asked.{worth}
use Rattle.unit_scopes.proofs.Laws.{asked_made}
use Rattle.unit_scopes.proofs.asked.ask.Goals as goal

pub returns : goal.returns
returns c =
    asked_made c.args.scope.now (source c.args.expr.now) c.in_ok-judged.field-0.judged.breaks.items (option_map typed c.in_ok-judged.field-0.judged.meaning) (option_map worth c.in_ok-value.value)
    c.in_ok-lacks_value.lacks_value c.in_ok-judged.field-0.at c.in_ok-judged.field-0.is_procedure c.in_ok-judged.ensures c.in_ok-value.ensures c.in_ok-lacks_value.ensures
