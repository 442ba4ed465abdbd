-- Whether nothing is broken in two parts.
use Rattle.std.proofs.Common.{◌≡◌, refl}
use Rattle.std.specs.Prelude.{List, [], ◌∷◌, ◌++◌, ◌&&◌}
use Rattle.rule_definitions.specs.declared.broken.Broken.{Broken}
use Rattle.rule_definitions.specs.Judgements.{is_nothing}

pub nothing_in_both : (xs ys : List Broken) → is_nothing (xs ++ ys) ≡ (is_nothing xs && is_nothing ys)
nothing_in_both [] ys = refl
nothing_in_both (x ∷ xs) ys = refl
