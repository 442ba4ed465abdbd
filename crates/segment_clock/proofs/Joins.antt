-- Counts joined one after the other, and what each count is after a call.
use Rattle.std.proofs.Common.{◌≡◌, ℕ, zero, suc, ◌+◌, ◌<◌, ◌≤◌, max, nat_eq, cond, List, [], ◌∷◌, length, get_or, set, take, replicate, inl, inr, refl, ap, sym, ◌∙◌, subst, arith, get_or-set_same, get_or-set_other, length-set}
use Rattle.std.proofs.lemmas.List.{get_or_read}
use Rattle.std.proofs.lemmas.Bool.Decides.{eqb_tells}
use Rattle.segment_clock.specs.Counts.{count_of, joined, with_count, ticked}

pub length_joined : (cs ds : List ℕ) → length (joined cs ds) ≡ length cs
length_joined [] ds = refl
length_joined (c ∷ cs) [] = refl
length_joined (c ∷ cs) (d ∷ ds) = let e = length_joined cs ds in omega arith

-- nothing joined leaves the counts
pub joined_none : (cs : List ℕ) → joined cs [] ≡ cs
joined_none [] = refl
joined_none (c ∷ cs) = refl

-- where the first i counts are joined, the next one joins its place
pub joined_more : (cs ds : List ℕ) (i : ℕ) → length ds ≡ length cs → i < length ds → set (joined cs (take i ds)) i (max (get_or (joined cs (take i ds)) i 0) (get_or ds i 0)) ≡ joined cs (take (suc i) ds)
joined_more cs [] i e h = absurd (omega arith)
joined_more [] (d ∷ ds) i e h = absurd (omega arith)
joined_more (c ∷ cs) (d ∷ ds) zero e h = ap (λ z. max c d ∷ z) (sym (joined_none cs))
joined_more (c ∷ cs) (d ∷ ds) (suc i) e h = ap (λ z. max c d ∷ z) (joined_more cs ds i (omega arith) (omega arith))

get_joined : (cs ds : List ℕ) (i : ℕ) → length ds ≡ length cs → get_or (joined cs ds) i 0 ≡ max (get_or cs i 0) (get_or ds i 0)
get_joined [] [] i e = omega arith
get_joined [] (d ∷ ds) i e = absurd (omega arith)
get_joined (c ∷ cs) [] i e = absurd (omega arith)
get_joined (c ∷ cs) (d ∷ ds) zero e = refl
get_joined (c ∷ cs) (d ∷ ds) (suc i) e = get_joined cs ds i (omega arith)

-- a joined count is the greater of the two
pub count_joined : (cs ds : List ℕ) (i : ℕ) → length ds ≡ length cs → count_of (joined cs ds) i ≡ max (count_of cs i) (count_of ds i)
count_joined cs ds zero e = omega arith
count_joined cs ds (suc i) e = get_joined cs ds i e

pub length_with_count : (cs : List ℕ) (j n : ℕ) → length (with_count cs j n) ≡ length cs
length_with_count cs zero n = refl
length_with_count cs (suc j) n = length-set cs j n

-- the image's count is the new one
pub count_set : (cs : List ℕ) (j n : ℕ) → 0 < j → j ≤ length cs → count_of (with_count cs j n) j ≡ n
count_set cs zero n h l = absurd (omega arith)
count_set cs (suc j) n h l = get_or-set_same cs j n 0 (omega arith)

-- the count of each other image stays
pub count_kept : (cs : List ℕ) (j i n : ℕ) → (i ≡ j → ⊥) → count_of (with_count cs j n) i ≡ count_of cs i
count_kept cs j zero n ne = elim j as (λ j. count_of (with_count cs j n) 0 ≡ 0) [ zero ↦ refl | suc _ ↦ refl ]
count_kept cs zero (suc i) n ne = refl
count_kept cs (suc j) (suc i) n ne = get_or-set_other cs j i n 0 (λ e. ne (ap suc e))

-- one more for the image, and the same for each other
pub count_ticked : (cs : List ℕ) (j i : ℕ) → 0 < j → j ≤ length cs → count_of (ticked cs j) i ≡ cond (nat_eq i j) 1 0 + count_of cs i
count_ticked cs j i h l =
    elim (eqb_tells i j) [
      | inl t ↦ rw t.0 (subst (λ k. count_of (ticked cs j) k ≡ 1 + count_of cs k) (sym t.1) (count_set cs j (count_of cs j + 1) h l ∙ omega arith))
      | inr f ↦ rw f.0 (count_kept cs j i (count_of cs j + 1) f.1 ∙ omega arith)
    ]

-- a new clock counts nothing
pub count_none : (n i : ℕ) → count_of (replicate n 0) i ≡ 0
count_none n zero = refl
count_none zero (suc i) = refl
count_none (suc n) (suc zero) = refl
count_none (suc n) (suc (suc i)) = count_none n (suc i)

-- one turn of the loop that joins: r is the greater of the count a at i so far and the count that joins it
pub joined_step : (cs ds xs : List ℕ) (i a r : ℕ) → xs ≡ joined cs (take i ds) → a ≡ get_or xs i a → r ≡ max a (get_or ds i 0) → length ds ≡ length cs → i < length ds → set xs i r ≡ joined cs (take (i + 1) ds)
joined_step cs ds xs i a r e ga m same l =
    let lx : length xs ≡ length cs = ap length e ∙ length_joined cs (take i ds) in
    let a0 : a ≡ get_or (joined cs (take i ds)) i 0 = get_or_read xs i a (omega arith) ga 0 ∙ ap (λ z. get_or z i 0) e in
    let n : suc i ≡ i + 1 = omega arith in
    ap (λ z. set z i r) e ∙ ap (set (joined cs (take i ds)) i) (m ∙ ap (λ z. max z (get_or ds i 0)) a0) ∙ joined_more cs ds i same l ∙ ap (λ k. joined cs (take k ds)) n
