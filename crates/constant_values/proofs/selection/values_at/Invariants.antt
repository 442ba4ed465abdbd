use Rattle.std.proofs.Common.{◌≡◌, ℕ, take, map}
use Rattle.rule_definitions.specs.Constants as rules
use Rattle.constant_values.specs.Selections.{value_at}
use Rattle.constant_values.specs.Sizes.{capped}
use Rattle.constant_values.proofs.selection.values_at.Given as goal

abbrev pub invariant-loop-place : goal.invariant-loop-place
invariant-loop-place l = (n : ℕ) → l.size ≡ capped n → l.all ≡ map (value_at (rules.initial_values l.values n)) (take l.place-index l.places)
