use Rattle.std.proofs.Common.{ap, ◌∙◌}
use Rattle.unit_names.specs.Found.{found_in, under}
use Rattle.unit_names.proofs.Tables.{looked_up}
use Rattle.unit_names.proofs.block.Block.find.Goals as goal

pub returns : goal.returns
returns c = c.given.ensures ∙ (ap found_in c.get.ensures.value ∙ (looked_up c.args.name.now c.self.inside.table.entries ∙ ap (λ rs. under rs c.args.name.now) c.self.view_is))
