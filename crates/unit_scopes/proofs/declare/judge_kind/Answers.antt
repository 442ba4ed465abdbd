use Rattle.fortran_tree.specs.ExpressionViews.{expression as source}
use Rattle.declaration_rules.specs.Asked.{asked}
use Rattle.unit_scopes.proofs.Asks.{kind_some}
use Rattle.unit_scopes.proofs.declare.judge_kind.Goals as goal

pub returns-in-Some-clause-of_type : goal.returns-in-Some-clause-of_type
returns-in-Some-clause-of_type c = kind_some c.args.scope.now c.args.of (source c.args.kind.now) (asked c.in_ok-asked.asked) c.in-Some.kind c.in_ok-asked.ensures c.in-Some.ensures.kind
