-- The pieces of the line of a race, one behind the other.
use Rattle.std.proofs.Common.{◌≡◌, ℕ, List, ◌++◌, ap, ◌∙◌, append_assoc}

pub pieces : (o a cell b s c u z o1 o2 o3 o4 : List ℕ) → o1 ≡ o ++ a → o2 ≡ o1 ++ cell → o3 ≡ o2 ++ b → o4 ≡ o3 ++ (s ++ c ++ u) → (o4 ++ z) ≡ (o ++ (a ++ cell ++ b ++ s ++ c ++ u ++ z))
pieces o a cell b s c u z o1 o2 o3 o4 e1 e2 e3 e4 =
    ap (λ v. v ++ z) (e4 ∙ ap (λ v. v ++ (s ++ c ++ u)) (e3 ∙ ap (λ v. v ++ b) (e2 ∙ ap (λ v. v ++ cell) e1))) ∙ simp append_assoc
