use Rattle.std.proofs.Common.{◌≡◌, drop, map}
use Rattle.specifier_rules.specs.Clashes.{any_clash}
use Rattle.specifier_rules.specs.Views.{written}
use Rattle.specifier_rules.proofs.naming.clashes.Given as goal

-- what is left decides
abbrev pub invariant-loop-other : goal.invariant-loop-other
invariant-loop-other l = any_clash l.name (map written (drop l.other-index l.earlier)) ≡ any_clash l.name (map written l.earlier)
