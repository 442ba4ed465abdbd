use Rattle.std.proofs.Common.{ap, ◌∙◌}
use Rattle.rule_definitions.specs.Names.{variables_of}
use Rattle.rule_definitions.specs.Declarations.{count_coarrays}
use Rattle.scope_table.proofs.Counts.{coarrays_are}
use Rattle.scope_table.proofs.table.Table.coarrays.Goals as goal

pub returns : goal.returns
returns c = c.self.invariant.coarrays ∙ coarrays_are c.self.inside.entries.items ∙ ap (λ xs. count_coarrays (variables_of xs)) c.self.view_is
