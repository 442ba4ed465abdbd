-- What asks of coarrays hold.
use Rattle.std.specs.Prelude.{ℕ, ℤ, pos, ◌+ℤ◌, ◌-ℤ◌, nat_lt, List, [], ◌∷◌, map, filter, Option, Some, None}
use Rattle.caf_events.specs.declared.round.Allotted.{Allotted}
use Rattle.image_acts.specs.Core.{Own}
use Rattle.image_acts.specs.Places.{dims_in}
use Rattle.image_acts.specs.Words.{word, short}
use Rattle.coarray_tables.specs.Owns.{own_at}

-- the dimensions of the span of a place: those of one cell are left out
abbrev pub span_dims : List ℤ → List (ℕ × ℤ)
span_dims vs = map (λ d. (word (pos d.0), short d.1)) (filter (λ d. nat_lt 1 d.0) (dims_in vs))

-- cobounds but the last, as pairs of a lower and an upper one
abbrev pub codims_of : List ℤ → List ℤ → List (ℤ × ℤ)
codims_of [] es = []
codims_of (l ∷ ls) [] = []
codims_of (l ∷ ls) (e ∷ es) = (l, (l +ℤ e) -ℤ pos 1) ∷ codims_of ls es

abbrev pub last_of : List ℤ → ℤ
last_of [] = pos 1
last_of (l ∷ []) = l
last_of (l ∷ m ∷ ms) = last_of (m ∷ ms)

-- a coarray of an ALLOCATE, as it was allocated here
abbrev pub allotted_as : ℕ → Own → Allotted
allotted_as k o = record { coarray = k; dims = o.bounds; codims = codims_of o.lowers o.extents; last = last_of o.lowers }

abbrev pub allotted : ℕ → Option Own → List Allotted
allotted k None = []
allotted k (Some o) = record { coarray = k; dims = o.bounds; codims = codims_of o.lowers o.extents; last = last_of o.lowers } ∷ []

-- those of these numbers that are allocated here
abbrev pub allotment : List (Option Own) → List ℤ → List Allotted
allotment os [] = []
allotment os (k ∷ ks) = elim (allotted (word k) (own_at os (word k))) [ [] ↦ allotment os ks | x ∷ xs ↦ x ∷ allotment os ks ]
