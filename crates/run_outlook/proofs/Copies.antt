-- Lists of one item over and over.
use Rattle.std.proofs.Common.{◌≡◌, ℕ, zero, suc, ◌+◌, [], ◌∷◌, ◌++◌, refl, ap, ◌∙◌, arith}
use Rattle.std.specs.Prelude.{replicate}

one_behind : {A : Type 0} (n : ℕ) (x : A) → replicate n x ++ x ∷ [] ≡ replicate (suc n) x
one_behind zero x = refl
one_behind (suc n) x = ap (λ xs. x ∷ xs) (one_behind n x)

pub replicate_more : {A : Type 0} (n : ℕ) (x : A) → replicate n x ++ x ∷ [] ≡ replicate (n + 1) x
replicate_more n x = let e : suc n ≡ n + 1 = omega arith in one_behind n x ∙ ap (λ k. replicate k x) e
