-- Printed texts: two with the same text in a line are one.
use Rattle.std.proofs.Common.{◌≡◌, ℕ, Bool, true, false, cond, List, [], ◌∷◌, ◌++◌, flat_map, refl, ap, sym, ◌∙◌}
use Rattle.std.proofs.Common.{codes, eqb-true}
use Rattle.std.specs.Prelude.{◌==◌}
use Rattle.trace_text.specs.TraceText.{escaped}

-- the text that was printed: behind a backslash `n` is a line feed and any other byte a backslash
unescaped : Bool → List ℕ → List ℕ
unescaped pending [] = []
unescaped true (b ∷ bs) = cond (b == 110) 10 92 ∷ unescaped false bs
unescaped false (b ∷ bs) = cond (b == 92) (unescaped true bs) (b ∷ unescaped false bs)

back : (b : ℕ) (rest : List ℕ) → unescaped false (escaped b ++ rest) ≡ b ∷ unescaped false rest
unfolding unescaped
back b rest = by (b == 10) (b == 92) refl refl
  where
    by : (t u : Bool) → (b == 10) ≡ t → (b == 92) ≡ u
        → unescaped false (cond t (codes "\\n") (cond u (codes "\\\\") (b ∷ [])) ++ rest) ≡ b ∷ unescaped false rest
    by true u p q = let k : b ≡ 10 = eqb-true b 10 p in ap (λ x. x ∷ unescaped false rest) (sym k)
    by false true p q = let k : b ≡ 92 = eqb-true b 92 q in ap (λ x. x ∷ unescaped false rest) (sym k)
    by false false p q = ap (λ x. cond x (unescaped true rest) (b ∷ unescaped false rest)) q

all_back : (xs : List ℕ) → unescaped false (flat_map escaped xs) ≡ xs
unfolding unescaped
all_back [] = refl
all_back (x ∷ xs) = back x (flat_map escaped xs) ∙ ap (λ l. x ∷ l) (all_back xs)

pub printed_same : (xs ys : List ℕ) → flat_map escaped xs ≡ flat_map escaped ys → xs ≡ ys
printed_same xs ys e = sym (all_back xs) ∙ ap (unescaped false) e ∙ all_back ys
