use Rattle.std.proofs.Common.{ap, ◌∙◌}
use Rattle.rule_definitions.specs.Names.{is_among}
use Rattle.scope_table.proofs.Places.{found_among}
use Rattle.scope_table.proofs.names.Names.contains.Goals as goal

pub returns : goal.returns
returns c = c.contains.ensures ∙ found_among c.args.name.now c.self.inside.set.keys ∙ ap (λ ns. is_among ns c.args.name.now) c.self.view_is
