use Rattle.unit_scopes.proofs.Caps.{limits_noted}
use Rattle.unit_scopes.proofs.limit.judge_limits.Goals as goal

pub returns : goal.returns
returns c =
    limits_noted c.entries-entries.result.now c.args.own.now c.args.first.now c.judge_cells.new.first c.judge_cells-2.new.first c.entries-entries.ensures c.judge_cells.ensures c.judge_cells-2.ensures
