-- Formats (13.3, 13.4, 13.7): a list in brackets, its items between commas.
use Rattle.std.specs.Prelude.{ℕ, Bool, true, false, not, cond, nat_eq, nat_le, ◌+◌, ◌-◌, ◌*◌, List, [], ◌∷◌, ◌++◌, ◌||◌, ◌&&◌, Option, Some, None}
use Rattle.caf_base.specs.declared.place.Pos.{Pos}
use Rattle.checked_tree.specs.declared.format.Descriptor.{Descriptor}
use Rattle.checked_tree.specs.declared.format.Descriptor.TheVariants.{Integer, Logical, Character, Skip, Literal}
use Rattle.rule_definitions.specs.declared.broken.Broken.{Broken}
use Rattle.rule_definitions.specs.Judgements.{breaks, unless, made, both}

-- a piece of a format: a character outside of literals, a letter in lower case; or a literal
pub data Piece : Type 0 where
  sign : ℕ → Piece
  quoted : List ℕ → Piece

-- how far a format is read: outside of literals; in one with this delimiter and these characters; behind a delimiter
-- that may be doubled
pub data Reading : Type 0 where
  outside : Reading
  inside : ℕ → List ℕ → Reading
  closing : ℕ → List ℕ → Reading

abbrev pub is_blank : ℕ → Bool
is_blank b = nat_eq b 32 || nat_eq b 9

abbrev pub is_quote : ℕ → Bool
is_quote b = nat_eq b 39 || nat_eq b 34

abbrev pub lower : ℕ → ℕ
lower b = cond (nat_le 65 b && nat_le b 90) (b + 32) b

abbrev pub with_piece : Piece → Option (List Piece) → Option (List Piece)
with_piece x None = None
with_piece x (Some xs) = Some (x ∷ xs)

-- Blanks outside of literals are passed over (13.3); a doubled delimiter in a literal is one (7.4.4)
abbrev pub pieces : Reading → List ℕ → Option (List Piece)
pieces outside [] = Some []
pieces (inside q w) [] = None
pieces (closing q w) [] = Some (quoted w ∷ [])
pieces outside (b ∷ bs) = cond (is_blank b) (pieces outside bs) (cond (is_quote b) (pieces (inside b []) bs) (with_piece (sign (lower b)) (pieces outside bs)))
pieces (inside q w) (b ∷ bs) = cond (nat_eq b q) (pieces (closing q w) bs) (pieces (inside q (w ++ b ∷ [])) bs)
pieces (closing q w) (b ∷ bs) = cond (nat_eq b q) (pieces (inside q (w ++ b ∷ [])) bs)
    (with_piece (quoted w) (cond (is_blank b) (pieces outside bs) (cond (is_quote b) (pieces (inside b []) bs) (with_piece (sign (lower b)) (pieces outside bs)))))

abbrev pub is_sign : ℕ → Piece → Bool
is_sign b (sign c) = nat_eq b c
is_sign b (quoted w) = false

-- what stands before the closing bracket
abbrev pub up_to_bracket : List Piece → Option (List Piece)
up_to_bracket [] = None
up_to_bracket (x ∷ []) = cond (is_sign 41 x) (Some []) None
up_to_bracket (x ∷ y ∷ rest) = with_piece x (up_to_bracket (y ∷ rest))

abbrev pub in_brackets : List Piece → Option (List Piece)
in_brackets [] = None
in_brackets (x ∷ rest) = cond (is_sign 40 x) (up_to_bracket rest) None

abbrev pub onto_first : Piece → List (List Piece) → List (List Piece)
onto_first x [] = (x ∷ []) ∷ []
onto_first x (g ∷ gs) = (x ∷ g) ∷ gs

-- what stands between commas
abbrev pub between_commas : List Piece → List (List Piece)
between_commas [] = [] ∷ []
between_commas (x ∷ rest) = cond (is_sign 44 x) ([] ∷ between_commas rest) (onto_first x (between_commas rest))

abbrev pub is_digit : ℕ → Bool
is_digit b = nat_le 48 b && nat_le b 57

-- the digits in front, and what follows them
pub record Counted : Type 0 where
  pub digits : List ℕ
  pub rest : List Piece

abbrev pub with_digit : ℕ → Counted → Counted
with_digit b c = record { digits = b ∷ c.digits; rest = c.rest }

abbrev pub counted : List Piece → Counted
counted [] = record { digits = []; rest = [] }
counted (quoted w ∷ rest) = record { digits = []; rest = quoted w ∷ rest }
counted (sign b ∷ rest) = cond (is_digit b) (with_digit b (counted rest)) (record { digits = []; rest = sign b ∷ rest })

-- a number of 1 to 99, without a leading zero
abbrev pub count_of : List ℕ → Option ℕ
count_of (a ∷ []) = cond (nat_eq a 48) None (Some (a - 48))
count_of (a ∷ b ∷ []) = cond (nat_eq a 48) None (Some ((a - 48) * 10 + (b - 48)))
count_of ds = None

-- a repeat count: 1 where none is written
abbrev pub repeat_of : List ℕ → Option ℕ
repeat_of [] = Some 1
repeat_of (d ∷ ds) = count_of (d ∷ ds)

abbrev pub is_zero : List ℕ → Bool
is_zero (a ∷ []) = nat_eq a 48
is_zero ds = false

-- the width of I: 0 or a count
abbrev pub width_of : List ℕ → Option ℕ
width_of ds = cond (is_zero ds) (Some 0) (count_of ds)

-- nothing but a number
abbrev pub number_alone : (List ℕ → Option ℕ) → Counted → Option ℕ
number_alone f c = elim c.rest [ [] ↦ f c.digits | x ∷ xs ↦ None ]

abbrev pub skip_of : List ℕ → List Piece → Option Descriptor
skip_of ds [] = made Skip (count_of ds)
skip_of ds (x ∷ xs) = None

abbrev pub character_of : List ℕ → List Piece → Option Descriptor
character_of [] [] = Some Character
character_of ds xs = None

-- rIw (13.7.2.2), rLw (13.7.3), nX (13.8.1.3), A (13.7.4)
abbrev pub edited : List ℕ → ℕ → List Piece → Option Descriptor
edited ds b rest =
    cond (nat_eq b 105) (both Integer (repeat_of ds) (number_alone width_of (counted rest)))
    (cond (nat_eq b 108) (both Logical (repeat_of ds) (number_alone count_of (counted rest)))
    (cond (nat_eq b 120) (skip_of ds rest)
    (cond (nat_eq b 97) (character_of ds rest) None)))

abbrev pub edited_behind : Counted → Option Descriptor
edited_behind c = elim c.rest [ [] ↦ None | x ∷ xs ↦ elim x [ sign b ↦ edited c.digits b xs | quoted w ↦ None ] ]

-- one item of a format
abbrev pub descriptor : List Piece → Option Descriptor
descriptor (quoted w ∷ []) = Some (Literal w)
descriptor xs = edited_behind (counted xs)

abbrev pub with_descriptor : Option Descriptor → Option (List Descriptor) → Option (List Descriptor)
with_descriptor (Some d) (Some ds) = Some (d ∷ ds)
with_descriptor d ds = None

abbrev pub all_descriptors : List (List Piece) → Option (List Descriptor)
all_descriptors [] = Some []
all_descriptors (g ∷ gs) = with_descriptor (descriptor g) (all_descriptors gs)

abbrev pub list_of : List Piece → Option (List Descriptor)
list_of [] = Some []
list_of (x ∷ xs) = all_descriptors (between_commas (x ∷ xs))

abbrev pub listed : Option (List Piece) → Option (List Descriptor)
listed None = None
listed (Some xs) = list_of xs

abbrev pub bracketed : Option (List Piece) → Option (List Piece)
bracketed None = None
bracketed (Some xs) = in_brackets xs

-- the items of a format, where the text is one
abbrev pub descriptors : List ℕ → Option (List Descriptor)
descriptors text = listed (bracketed (pieces outside text))

-- a data edit descriptor (13.3)
abbrev pub is_data : Descriptor → Bool
is_data (Integer n w) = true
is_data (Logical n w) = true
is_data Character = true
is_data d = false

abbrev pub has_data : List Descriptor → Bool
has_data [] = false
has_data (d ∷ ds) = is_data d || has_data ds

-- Rule 57 (13.3, 13.4): a text that is no format, or one without a data descriptor though there are values
abbrev pub format_breaks : Option (List Descriptor) → Bool → Pos → List Broken
format_breaks None has_values p = breaks 57 p
format_breaks (Some ds) has_values p = unless (not has_values || has_data ds) 57 p
