-- Laws of the arrays that are there from the start.
use Rattle.std.proofs.Common.{◌≡◌, ℕ, ◌+◌, ◌<◌, List, [], ◌∷◌, ◌++◌, length, refl, ap, ◌∙◌, arith, map, take, ◌≤◌, slice_set}
use Rattle.std.proofs.lemmas.List.{length-append, length-take, length-map}
use Rattle.std.proofs.lemmas.List.Sums.{sum_by-cons}
use Rattle.std.specs.Prelude.{Option, Some, None, sum_by}
use Rattle.image_acts.specs.Core.{Local}
use Rattle.image_acts.specs.Frames.{local_size, cells_in_arrays, room_for_arrays}
use Rattle.image_code.specs.declared.tables.FirstArray.{FirstArray}
use Rattle.local_arrays.specs.Rows.{Rowed}
use Rattle.local_arrays.specs.Frames.{first_array, first_size}

same_size : (x : Option FirstArray) → local_size (first_array x) ≡ first_size x
same_size None = refl
same_size (Some x) = refl

pub cells_first : (xs : List (Option FirstArray)) → cells_in_arrays (map first_array xs) ≡ sum_by first_size xs
cells_first [] = refl
cells_first (x ∷ xs) =
    let a = sum_by-cons local_size (first_array x) (map first_array xs) in
    let b = sum_by-cons first_size x xs in
    let s = same_size x in
    let h = cells_first xs in
    omega arith

pub room_is : (xs : List (Option FirstArray)) → room_for_arrays (map first_array xs) ≡ sum_by first_size xs + 65536
room_is xs = (let h = cells_first xs in omega arith)

pub last_set : (xs : List (Option Local)) (v : Option Local) → slice_set (xs ++ None ∷ []) (length xs) v ≡ xs ++ v ∷ []
last_set [] v = refl
last_set (x ∷ xs) v = ap (λ ys. x ∷ ys) (last_set xs v)

pub add_row : (r p n : Rowed) (k : ℕ) (v w : Option Local) → p ≡ record { arrays = r.arrays ++ None ∷ []; most = r.most; size = r.size } → k ≡ length r.arrays
    → n ≡ record { arrays = slice_set p.arrays k v; most = p.most; size = p.size } → v ≡ w → n ≡ record { arrays = r.arrays ++ w ∷ []; most = r.most; size = r.size }
add_row r p n k v w e l f g =
    f ∙ ap (λ (x : Rowed). record { arrays = slice_set x.arrays k v; most = x.most; size = x.size }) e
    ∙ ap (λ i. record { arrays = slice_set (r.arrays ++ None ∷ []) i v; most = r.most; size = r.size }) l
    ∙ ap (λ xs. record { arrays = xs; most = r.most; size = r.size }) (last_set r.arrays v)
    ∙ ap (λ o. record { arrays = r.arrays ++ o ∷ []; most = r.most; size = r.size }) g

pub room_more : (xs ys : List (Option Local)) (fs : List (Option FirstArray)) (i m : ℕ) → xs ≡ ys ++ map first_array (take i fs) → i < length fs → length ys + length fs ≤ m → length xs < m
room_more xs ys fs i m e h r =
    let a = ap length e in
    let b = length-append ys (map first_array (take i fs)) in
    let c = length-map (take i fs) first_array in
    let d = length-take i fs in
    omega arith
