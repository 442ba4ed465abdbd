-- The cells of an access to a coarray of so many cells (ISO/IEC 1539-1:2018, 9.5.3), where each of them is there.
use Rattle.std.specs.Prelude.{ℕ, zero, suc, ◌^◌, ◌≤◌, ◌≡◌, ℤ, pos, negsuc, ◌+ℤ◌, Bool, false, ◌&&◌, nat_le, nat_lt, cond, List, [], ◌∷◌, ◌++◌, Option, Some, None}

-- the offset as a place among so many cells
abbrev pub cell_in : ℕ → ℤ → Option ℕ
cell_in n (pos k) = cond (nat_lt k n) (Some k) None
cell_in n (negsuc k) = None

-- a place before others, where all are there
abbrev pub put_first : Option ℕ → Option (List ℕ) → Option (List ℕ)
put_first None ks = None
put_first (Some k) None = None
put_first (Some k) (Some ks) = Some (k ∷ ks)

-- the offsets as places among so many cells; None where one isn't among them
abbrev pub cells_in : ℕ → List ℤ → Option (List ℕ)
cells_in n [] = Some []
cells_in n (o ∷ os) = put_first (cell_in n o) (cells_in n os)

-- places behind others, where all are there
abbrev pub put_front : Option (List ℕ) → Option (List ℕ) → Option (List ℕ)
put_front None js = None
put_front (Some ks) None = None
put_front (Some ks) (Some js) = Some (ks ++ js)

-- a row of places, the first one where it is there, each so far behind the one before it
abbrev pub row_from : ℕ → ℕ → ℤ → Option ℕ → Option (List ℕ)
row_from n zero step at = Some []
row_from n (suc k) step None = None
row_from n (suc k) step (Some p) = put_first (Some p) (row_from n k step (cell_in n (pos p +ℤ step)))

-- the places, where the flag says that all are there
abbrev pub found_if : Bool → List ℕ → Option (List ℕ)
found_if b ks = cond b (Some ks) None

-- how many there are; None where no unsigned number of 64 bits is so large
abbrev pub IsCount : Option ℕ → ℕ → Type 0
IsCount None n = 2 ^ 64 ≤ n
IsCount (Some k) n = k ≡ n

-- the offset lies from one place on and before another
abbrev pub is_between : ℕ → ℕ → ℤ → Bool
is_between low high (pos k) = nat_le low k && nat_lt k high
is_between low high (negsuc k) = false
