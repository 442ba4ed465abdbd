-- A list by its first items.
use Rattle.std.proofs.Common.{◌≡◌, ◌-◌, ◌<◌, ◌≤◌, List, [], ◌∷◌, length, get_or, take, drop, refl, arith}
use Rattle.std.proofs.lemmas.List.{take_all}

pub none_of : {A : Type 0} (xs : List A) → length xs < 1 → xs ≡ []
none_of [] few = refl
none_of (x ∷ xs) few = absurd (omega arith)

pub first_of : {A : Type 0} (xs : List A) (x : A) → 1 ≤ length xs → x ≡ get_or xs 0 x → xs ≡ x ∷ take (length xs - 1) (drop 1 xs)
first_of [] x some is = absurd (omega arith)
first_of (y ∷ xs) x some is =
    let few : length (y ∷ xs) - 1 ≡ length xs = omega arith in
    let same : take (length xs) xs ≡ xs = take_all (length xs) xs (omega arith) in
    let x_is_y : x ≡ y = is in
    rw (x_is_y, few, same) refl
