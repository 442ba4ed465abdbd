-- The pieces of the line of a run, one behind the other.
use Rattle.std.proofs.Common.{◌≡◌, ℕ, List, ◌++◌, ap, ◌∙◌, append_assoc}

pub pieces : (o a d b c e x y : List ℕ) → x ≡ o ++ (a ++ d) → y ≡ x ++ (b ++ c) → (y ++ e) ≡ (o ++ (a ++ d ++ b ++ c ++ e))
pieces o a d b c e x y p q = ap (λ v. v ++ e) (q ∙ ap (λ v. v ++ (b ++ c)) p) ∙ simp append_assoc
