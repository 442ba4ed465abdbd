-- The front of a list and the rest of it.
use Rattle.std.proofs.Common.{◌≡◌, ℕ, suc, ◌+◌, ◌-◌, ◌<◌, ◌≤◌, List, [], ◌∷◌, length, get_or, take, drop, slice_index_or, sym, ap, ◌∙◌, arith}
use Rattle.std.proofs.Math.Seq.{drop-cons}
use Rattle.std.proofs.lemmas.Grind.{common_steps}

pub rest_of : {T : Type 0} (x : T) (xs : List T) → take (length (x ∷ xs) - 1) (drop 1 (x ∷ xs)) ≡ xs
rest_of x xs = grind (arith, common_steps)

pub front_of : {T : Type 0} (xs : List T) (y : T) → 1 ≤ length xs → get_or xs 0 y ∷ take (length xs - 1) (drop 1 xs) ≡ xs
front_of [] y h = absurd (omega (arith, h))
front_of (x ∷ xs) y h = ap (λ l. x ∷ l) (rest_of x xs)

pub item_drop : {A : Type 0} (xs : List A) (i : ℕ) (x : A) → x ≡ slice_index_or xs i x → i < length xs → drop i xs ≡ x ∷ drop (i + 1) xs
item_drop xs i x e h =
    let n : suc i ≡ i + 1 = omega arith in
    drop-cons xs i x h ∙ ap (λ y. y ∷ drop (suc i) xs) (sym e) ∙ ap (λ k. x ∷ drop k xs) n
