use Rattle.std.proofs.Common.{◌≡◌, take}
use Rattle.std.specs.List.{list_all}
use Rattle.object_rules.specs.Folds.{is_of_kind}
use Rattle.control_board.proofs.ready.are_of_kind.Given as goal

abbrev pub invariant-loop-value : goal.invariant-loop-value
invariant-loop-value l = l.all ≡ list_all (is_of_kind l.kind) (take l.value-index l.values)
