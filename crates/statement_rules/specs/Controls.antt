-- What the checker holds of the control of a loop, as the rules see it.
use Rattle.checked_tree.specs.ExpressionViews.{expression, maybe_expression}
use Rattle.rule_definitions.specs.Statements as s
use Rattle.statement_rules.specs.declared.control.Control.{Control}
use Rattle.statement_rules.specs.declared.control.Control.TheVariants as controls
use Rattle.statement_rules.specs.declared.control.Counter.{Counter}

abbrev pub counter : Counter → s.Counter
counter c = record { variable = c.variable; kind = c.kind }

abbrev pub control : Control → s.Control
control controls.Forever = s.forever
control (controls.While e) = s.while (expression e)
control (controls.Counted c x) = s.counted c.variable c.kind (expression x.first) (expression x.last) (maybe_expression x.step)
