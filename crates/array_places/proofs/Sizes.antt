-- Sizes of arrays, dimension by dimension.
use Rattle.std.proofs.Common.{◌≡◌, ◌∙◌, ℕ, zero, suc, ◌-◌, ◌*◌, min, ℤ, List, ◌∷◌, refl, sym, ap, arith}
use Rattle.std.specs.Prelude.{slice_get}
use Rattle.coarray_types.specs.Places.{extent_of, size_of}
use Rattle.image_acts.specs.Frames.{pairs_in}
use Rattle.array_places.specs.Bounds.{numbered}
use Rattle.array_places.proofs.Counting.{capped_times}

pub size_turn : (cells more e most t : ℕ) (l u : ℤ) (left rest : List ℤ) → left ≡ l ∷ u ∷ rest → e ≡ extent_of (l, u) → more ≡ min (cells * e) most
    → min (cells * size_of (pairs_in left)) most ≡ t → min (more * size_of (pairs_in rest)) most ≡ t
size_turn cells more e most t l u left rest s f m i =
    ap (λ (k : ℕ). min (k * size_of (pairs_in rest)) most) m
    ∙ capped_times cells e (size_of (pairs_in rest)) most
    ∙ ap (λ (k : ℕ). min (cells * (k * size_of (pairs_in rest))) most) f
    ∙ ap (λ (v : List ℤ). min (cells * size_of (pairs_in v)) most) (sym s)
    ∙ i

pub number_behind : (bs : List (ℤ × ℤ)) (n : ℕ) → (n ≡ 0 → ⊥) → slice_get bs (n - 1) ≡ numbered bs n
number_behind bs zero h = absurd (h refl)
number_behind bs (suc n) h = let e : suc n - 1 ≡ n = omega arith in ap (slice_get bs) e
