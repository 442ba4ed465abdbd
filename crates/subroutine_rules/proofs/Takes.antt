-- The arguments of dummies that are taken one after another.
use Rattle.std.proofs.Common.{◌≡◌, refl, ap, sym, ◌∙◌, ℕ}
use Rattle.std.specs.Prelude.{Bool, true, false, cond, nat_eq, List, [], ◌∷◌, Option, Some, None}
use Rattle.std.proofs.lemmas.Bool.{eqb-true}
use Rattle.rule_definitions.specs.Arguments.{Actual, Binding, bound_to, bound_placed, value_for}
use Rattle.rule_definitions.specs.Parts.{Placed}
use Rattle.call_rules.specs.Bindings.{bound_as, is_the_number, without}

other_at : (b : Bool) (i j k : ℕ) (a : Actual) (rest more : List Binding) → nat_eq i k ≡ b → nat_eq j i ≡ false → bound_to more j ≡ bound_to rest j
    → bound_to (cond b rest (bound_as (Some k) a ∷ more)) j ≡ bound_to (bound_as (Some k) a ∷ rest) j
other_at true i j k a rest more e h g = ap (λ b. cond b (Some a) (bound_to rest j)) (sym h ∙ ap (nat_eq j) (eqb-true i k e))
other_at false i j k a rest more e h g = ap (cond (nat_eq j k) (Some a)) g

other_of : (o : Option ℕ) (i j : ℕ) (a : Actual) (rest more : List Binding) → nat_eq j i ≡ false → bound_to more j ≡ bound_to rest j
    → bound_to (cond (is_the_number i o) rest (bound_as o a ∷ more)) j ≡ bound_to (bound_as o a ∷ rest) j
other_of None i j a rest more h g = g
other_of (Some k) i j a rest more h g = other_at (nat_eq i k) i j k a rest more refl h g

other_bound : (bs : List Binding) (i j : ℕ) → nat_eq j i ≡ false → bound_to (without bs i) j ≡ bound_to bs j
other_bound [] i j h = refl
other_bound (b ∷ rest) i j h = other_of b.index i j b.actual rest (without rest i) h (other_bound rest i j h)

abbrev placed_in : Option Actual → Option Placed
placed_in o = elim o [ None ↦ None | Some a ↦ bound_placed a ]

-- what is left has the values of the other dummies
other_value : (bs : List Binding) (i j : ℕ) → nat_eq j i ≡ false → value_for (without bs i) j ≡ value_for bs j
other_value bs i j h = ap placed_in (other_bound bs i j h)

-- one after another, from the first

pub second_left : (bs : List Binding) → value_for (without bs 0) 1 ≡ value_for bs 1
second_left bs = other_value bs 0 1 refl

pub third_left : (bs : List Binding) → value_for (without (without bs 0) 1) 2 ≡ value_for bs 2
third_left bs = other_value (without bs 0) 1 2 refl ∙ other_value bs 0 2 refl

pub fourth_left : (bs : List Binding) → value_for (without (without (without bs 0) 1) 2) 3 ≡ value_for bs 3
fourth_left bs = other_value (without (without bs 0) 1) 2 3 refl ∙ other_value (without bs 0) 1 3 refl ∙ other_value bs 0 3 refl

pub fifth_left : (bs : List Binding) → value_for (without (without (without (without bs 0) 1) 2) 3) 4 ≡ value_for bs 4
fifth_left bs = other_value (without (without (without bs 0) 1) 2) 3 4 refl ∙ other_value (without (without bs 0) 1) 2 4 refl ∙ other_value (without bs 0) 1 4 refl ∙ other_value bs 0 4 refl

pub ruleset all_left = (second_left, third_left, fourth_left, fifth_left)
