-- The head and the tail of a list, as a slice pattern takes them.
use Rattle.std.proofs.Common.{◌≡◌, ℕ, suc, ◌-◌, ◌≤◌, List, [], ◌∷◌, slice_set, length, take, drop, get_or, sym, ap, ◌∙◌, arith}
use Rattle.std.proofs.Math.Seq.{take-length}
use Rattle.std.proofs.lemmas.List.{take-append-le}
use borrow.Rule.Slice.PartMut.{put_mid, post_of}

-- all but the first
abbrev pub tail_of : {A : Type 0} → List A → List A
tail_of xs = take (length xs - 1) (drop 1 xs)

-- of a list with a first
pub tail_of-cons : {A : Type 0} (x : A) (xs : List A) → tail_of (x ∷ xs) ≡ xs
tail_of-cons x xs =
    let e : length (x ∷ xs) - 1 ≡ length xs = omega arith in
    ap (λ n. take n xs) e ∙ take-length xs

-- a list that isn't empty is its first and the others
pub cons-is : {A : Type 0} (xs : List A) (d : A) → 1 ≤ length xs → xs ≡ get_or xs 0 d ∷ tail_of xs
cons-is [] d h = absurd (omega arith)
cons-is (x ∷ xs) d h = ap (λ t. x ∷ t) (sym (tail_of-cons x xs))

-- the front of a list with another first and other numbers behind it
pub take-put : {A : Type 0} (xs ys : List A) (j k : ℕ) (x : A) → 1 ≤ length xs → k ≤ length ys → take (suc k) (put_mid 1 j (slice_set xs 0 x) ys) ≡ x ∷ take k ys
take-put [] ys j k x h b = absurd (omega arith)
take-put (w ∷ xs) ys j k x h b = ap (λ t. x ∷ t) (take-append-le k ys (post_of 1 j (x ∷ xs)) b)
