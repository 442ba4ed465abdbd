-- Names in declared order.
use Rattle.std.specs.Prelude.{ℕ, suc, cond, bytes_eq, List, [], ◌∷◌, Option, Some, None}
use Rattle.rule_definitions.specs.Judgements.{made}

-- the number of a name among these, from 0
abbrev pub place_of : List ℕ → List (List ℕ) → Option ℕ
place_of n [] = None
place_of n (x ∷ xs) = cond (bytes_eq x n) (Some 0) (made suc (place_of n xs))
