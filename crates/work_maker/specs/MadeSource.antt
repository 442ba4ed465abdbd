-- The numbers of a seed, and the source of the program that a seed and a size make.
use Rattle.std.specs.Prelude.{ℕ, zero, suc, ◌+◌, ◌*◌, ◌/◌, ◌%◌, pos, List, [], ◌∷◌, ◌++◌, codes, flat_map, map}
use Rattle.std.specs.List.{range_with_len}
use Rattle.caf_text.specs.Numbers.{decimal_text}

-- the generator's next state
abbrev pub next_state : ℕ → ℕ
next_state state = (state * 1103515245 + 12345) % 2147483648

-- the state of a seed after so many turns of the generator
abbrev pub state_of : ℕ → ℕ → ℕ
state_of seed zero = seed
state_of seed (suc j) = next_state (state_of seed j)

-- the number of a state
abbrev pub number_in : ℕ → ℕ
number_in state = state / 65536

-- the number of a seed at this place, counted from 1
abbrev pub number_of : ℕ → ℕ → ℕ
number_of seed j = number_in (state_of seed j)

-- a number as text
abbrev pub number_text : ℕ → List ℕ
number_text n = decimal_text (pos n)

-- a text as a line
abbrev pub line : List ℕ → List ℕ
line text = text ++ codes "\n"

-- texts as lines
unfoldable pub lines_text : List (List ℕ) → List ℕ
lines_text texts = flat_map line texts

-- the declarations, and the left neighbour of an image: the last image is that of the first
abbrev pub opening : ℕ → List (List ℕ)
opening size =
    codes "program made"
    ∷ (codes "integer :: u(" ++ number_text size ++ codes "), edge[*], me, left, k, i, s, t")
    ∷ codes "me = this_image()"
    ∷ codes "left = me - 1"
    ∷ codes "if (left == 0) left = num_images()"
    ∷ []

-- the first value of an element: its number of the seed, below 1000
abbrev pub setting : ℕ → ℕ → List ℕ
setting seed j = codes "u(" ++ number_text j ++ codes ") = " ++ number_text (number_of seed j % 1000)

-- the first values of so many elements
abbrev pub settings : ℕ → ℕ → List (List ℕ)
settings seed size = map (setting seed) (range_with_len 1 size)

-- ten turns, in each of which the last value of the left neighbour comes in at the front and all others move up
abbrev pub turns : ℕ → List (List ℕ)
turns size =
    codes "do k = 1, 10"
    ∷ (codes "edge = u(" ++ number_text size ++ codes ")")
    ∷ codes "sync all"
    ∷ codes "t = edge[left]"
    ∷ codes "sync all"
    ∷ (codes "do i = " ++ number_text size ++ codes ", 2, -1")
    ∷ codes "u(i) = u(i - 1)"
    ∷ codes "end do"
    ∷ codes "u(1) = t"
    ∷ codes "end do"
    ∷ []

-- the sum of the values of all images, which image 1 prints
abbrev pub closing : ℕ → List (List ℕ)
closing size =
    codes "s = 0"
    ∷ (codes "do i = 1, " ++ number_text size)
    ∷ codes "s = s + u(i)"
    ∷ codes "end do"
    ∷ codes "call co_sum(s)"
    ∷ codes "if (me == 1) print *, s"
    ∷ codes "end program made"
    ∷ []

-- the lines of the program that a seed and a size make
abbrev pub made_lines : ℕ → ℕ → List (List ℕ)
made_lines seed size = opening size ++ settings seed size ++ turns size ++ closing size

-- the source of that program
abbrev pub made_source : ℕ → ℕ → List ℕ
made_source seed size = lines_text (made_lines seed size)
