-- The first of the broken rules of two parts.
use Rattle.std.proofs.Common.{◌≡◌, List, [], ◌∷◌, ◌++◌, refl}
use Rattle.std.specs.Prelude.{Option, Some, None, cond}
use Rattle.rule_definitions.specs.Judgements.{first_of, comes_first}
use Rattle.rule_definitions.specs.declared.broken.Broken.{Broken}

pub first_of_both : (o : Option Broken) (xs ys : List Broken) → first_of o (xs ++ ys) ≡ first_of (first_of o xs) ys
first_of_both o [] ys = refl
first_of_both None (x ∷ xs) ys = first_of_both (Some x) xs ys
first_of_both (Some a) (x ∷ xs) ys = first_of_both (Some (cond (comes_first x a) x a)) xs ys
