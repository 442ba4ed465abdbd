use Rattle.std.proofs.Common.{◌≡◌, drop}
use Rattle.rule_definitions.specs.Constants as rules
use Rattle.constant_values.specs.Extremes.{choice_of}
use Rattle.constant_values.specs.Views.{as_scalar}
use Rattle.constant_values.proofs.extreme.chosen_among.Given as goal

abbrev pub invariant-loop-value : goal.invariant-loop-value
invariant-loop-value l = rules.folded (choice_of l.choice) (as_scalar l.best) (drop l.value-index l.rest) ≡ rules.folded (choice_of l.choice) (as_scalar l.initial.best) l.rest
