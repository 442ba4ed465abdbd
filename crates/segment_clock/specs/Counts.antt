-- A clock as a list of counts: the first is that of image 1 (image indices: ISO/IEC 1539-1:2018, 5.3.4).
use Rattle.std.specs.Prelude.{ℕ, zero, suc, ◌+◌, max, List, [], ◌∷◌, get_or, set}

-- the count of an image, 0 where there is none
abbrev pub count_of : List ℕ → ℕ → ℕ
count_of c zero = 0
count_of c (suc i) = get_or c i 0

-- the greater count of each image; a count without a partner stays
abbrev pub joined : List ℕ → List ℕ → List ℕ
joined [] ds = []
joined (c ∷ cs) [] = c ∷ cs
joined (c ∷ cs) (d ∷ ds) = max c d ∷ joined cs ds

-- the same counts but for this one of an image
abbrev pub with_count : List ℕ → ℕ → ℕ → List ℕ
with_count c zero n = c
with_count c (suc i) n = set c i n

-- one more for an image
abbrev pub ticked : List ℕ → ℕ → List ℕ
ticked c i = with_count c i (count_of c i + 1)
