use Rattle.std.proofs.Common.{ap, ◌∙◌}
use Rattle.std.proofs.lemmas.Result.{on_ok_weaker}
use Rattle.unit_names.specs.Found.{joined, under}
use Rattle.unit_names.proofs.Reached.{all_listed}
use Rattle.unit_names.proofs.levels.add_block.Goals as goal

pub returns : goal.returns
returns c = on_ok_weaker c.add_names.result (λ h n. h n ∙ ap (joined (under c.args.into.now n)) (all_listed c.names-names.result.now c.args.from.now n (c.names-names.ensures n))) c.add_names.ensures
