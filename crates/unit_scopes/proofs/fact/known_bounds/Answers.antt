use Rattle.std.proofs.Common.{◌∙◌}
use Rattle.declaration_rules.specs.Shapes.{asked_dimension, known_dimension}
use Rattle.unit_scopes.proofs.Asks.{map_twice}
use Rattle.unit_scopes.proofs.fact.known_bounds.Goals as goal

pub returns-clause-bounds : goal.returns-clause-bounds
returns-clause-bounds c = c.in_ok-bounds.ensures.bounds ∙ map_twice (known_dimension c.args.allocates) asked_dimension c.args.asked.now
