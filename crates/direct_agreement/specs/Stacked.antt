-- What stands on the stack for subscripts, and the form by which they are read back.
use Rattle.std.specs.Prelude.{ℕ, ◌+◌, ◌*◌, ◌≤◌, ◌≡◌, ℤ, List, [], ◌∷◌, ◌++◌, length, Option, None, Some}
use Rattle.image_acts.specs.Places.{Place, Subscript, single, triplet, digits, subscripts_in, place_numbers, place_in}

-- what a section subscript puts down, and its digit in a form
abbrev pub part_numbers : Option ℤ → List ℤ
part_numbers None = []
part_numbers (Some v) = v ∷ []

abbrev pub numbers_of_one : Subscript → List ℤ
numbers_of_one (single v) = v ∷ []
numbers_of_one (triplet f l s) = part_numbers f ++ (part_numbers l ++ part_numbers s)

abbrev pub numbers_of : List Subscript → List ℤ
numbers_of [] = []
numbers_of (x ∷ xs) = numbers_of_one x ++ numbers_of xs

abbrev pub present : ℕ → Option ℤ → ℕ
present n None = 0
present n (Some v) = n

abbrev pub digit_in : Subscript → ℕ
digit_in (single v) = 1
digit_in (triplet f l s) = 2 + present 1 f + present 2 l + present 4 s

abbrev pub form_in : List Subscript → ℕ
form_in [] = 0
form_in (x ∷ xs) = digit_in x + (10 * form_in xs)

-- At most three subscripts are read back from their form and their numbers, and each place from its numbers.
abbrev pub ReadsSubscripts : Type 0
ReadsSubscripts = (xs : List Subscript) → length xs ≤ 3 → subscripts_in (digits (form_in xs)) (numbers_of xs) ≡ xs

abbrev pub ReadsPlaces : Type 0
ReadsPlaces = (p : Place) → place_in (place_numbers p) ≡ p
