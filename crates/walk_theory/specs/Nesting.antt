-- What stands between a statement and the loops around it.
use Rattle.std.specs.Prelude.{ℕ, suc, List, [], ◌∷◌}
use Rattle.walk_theory.specs.Walks.{Task, run, eval, tally, decide, pick, again, iterate, back}

-- how many loops are under way
abbrev pub loops : {A : Type 0} → List (Task A) → ℕ
loops [] = 0
loops (again l ∷ ts) = suc (loops ts)
loops (back ∷ ts) = loops ts
loops (run ss ∷ ts) = loops ts
loops (eval l p ∷ ts) = loops ts
loops (tally l ∷ ts) = loops ts
loops (decide b ∷ ts) = loops ts
loops (pick l a b ∷ ts) = loops ts
loops (iterate l ∷ ts) = loops ts
