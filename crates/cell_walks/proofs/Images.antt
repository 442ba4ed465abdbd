-- Members of teams are images of the run, and coarrays that are allocated are small.
use Rattle.std.proofs.Common.{◌≡◌, ℕ, zero, suc, ◌+◌, ◌≤◌, ◌<◌, Bool, true, false, cond, List, [], ◌∷◌, length, refl, subst, arith}
use Rattle.std.specs.Prelude.{ℤ, pos, ◌==◌, min, nat_eq, nat_le, slice_get, slice_index_or, Option, None, Some}
use Rattle.std.proofs.lemmas.Bool.{leb-true}
use Rattle.trace_theory.specs.Entries.{Each}
use Rattle.coarray_types.specs.Places.{size_of}
use Rattle.coarray_types.specs.Coplaces.{image_order}
use Rattle.core_runs.specs.Beginnings.{IsOneOf}
use Rattle.image_acts.specs.Statuses.{most_cells}
use Rattle.image_acts.specs.Words.{word}
use Rattle.image_acts.specs.Core.{Own, Team}
use Rattle.image_acts.specs.Frames.{joined}
use Rattle.image_acts.specs.Teams.{team_in, members_of, index_of, member_at, are_within_cobounds}
use Rattle.cell_walks.specs.Fitting.{IsSmall}

-- ---- numbers of 32 bits
capped : (k : ℕ) → min k 4294967295 ≤ k
capped k = omega arith

pub word_below : (s m : ℕ) → s < m → word (pos s) < m
word_below s m h = (let l = capped s in omega arith)

pub word_image : (n j : ℕ) → IsOneOf n j → IsOneOf n (word (pos j))
word_image n j h = (let a' = h.0 in let b = h.1 in (omega arith, omega arith))

-- ---- coarrays that are allocated
pub small_in : (os : List (Option Own)) (k : ℕ) (o : Own) → Each IsSmall os → joined (slice_get os k) ≡ Some o → size_of o.bounds ≤ most_cells
small_in [] k o h e = absurd (cc)
small_in (None ∷ os) zero o h e = absurd (cc)
small_in (Some p ∷ os) zero o h e = (let q : p ≡ o = cc in subst (λ (z : Own). size_of z.bounds ≤ most_cells) q h.0)
small_in (p ∷ os) (suc k) o h e = small_in os k o h.1 e

-- ---- members
pub team_images : (n t : ℕ) (ks : List Team) → Each (λ (x : Team). Each (IsOneOf n) x.members) ks → Each (IsOneOf n) (members_of (team_in t ks))
team_images n t [] h = tt
team_images n t (k ∷ ks) h = by_number (nat_eq k.team t) (team_images n t ks h.1)
  where
    by_number : (b : Bool) → Each (IsOneOf n) (members_of (team_in t ks)) → Each (IsOneOf n) (members_of (cond b (Some k) (team_in t ks)))
    by_number true g = h.0
    by_number false g = g

nth_image : (n : ℕ) (ms : List ℕ) (i : ℕ) → Each (IsOneOf n) ms → i < length ms → IsOneOf n (slice_index_or ms i 0)
nth_image n [] i h l = absurd (let z : i < 0 = l in omega arith)
nth_image n (m ∷ ms) zero h l = h.0
nth_image n (m ∷ ms) (suc i) h l = nth_image n ms i h.1 (let z : suc i < suc (length ms) = l in omega arith)

pub member_image : (n : ℕ) (ms : List ℕ) (i : ℕ) → Each (IsOneOf n) ms → (i == 0) ≡ false → i ≤ length ms → IsOneOf n (member_at ms i)
member_image n ms zero h z l = absurd (cc)
member_image n ms (suc i) h z l = nth_image n ms i h (omega arith)

index_within : (b : Bool) (i m : ℕ) → cond b (cond (nat_le i m) i 0) 0 ≤ m
index_within true i m = by_size (nat_le i m) refl
  where
    by_size : (t : Bool) → nat_le i m ≡ t → cond t i 0 ≤ m
    by_size true e = leb-true i m e
    by_size false e = omega arith
index_within false i m = omega arith

pub index_in_team : (o : Own) (ss : List ℤ) (m : ℕ) → index_of o ss m ≤ m
index_in_team o ss m = index_within (are_within_cobounds o.lowers o.extents ss) (image_order o.lowers o.extents ss + 1) m
