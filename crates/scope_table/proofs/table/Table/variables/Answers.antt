use Rattle.std.proofs.Common.{ap, ◌∙◌, length}
use Rattle.rule_definitions.specs.Names.{variables_of}
use Rattle.scope_table.proofs.Counts.{variables_are}
use Rattle.scope_table.proofs.table.Table.variables.Goals as goal

pub returns : goal.returns
returns c = c.self.invariant.variables ∙ variables_are c.self.inside.entries.items ∙ ap (λ xs. length (variables_of xs)) c.self.view_is
