-- The lines of a made program, token by token.
use Rattle.std.proofs.Common.{ℕ, zero, suc, ◌+◌, Bool, true, false, List, [], ◌∷◌, ◌++◌, codes}
use Rattle.fortran_tokens.specs.declared.token.Sign.{Sign}
use Rattle.fortran_tokens.specs.declared.token.Sign.TheVariants as signs
use Rattle.fortran_tokens.specs.declared.token.TokenKind.TheVariants.{Name, Number, Fixed}
use Rattle.plain_words.specs.Written.{Written}
use Rattle.plain_words.proofs.Shifted.{numeral}

-- a name, a sign and a number
abbrev pub word : Bool → List ℕ → Written
word b x = record { spaced = b; kind = Name; bytes = x }

abbrev pub sign : Bool → Sign → List ℕ → Written
sign b s x = record { spaced = b; kind = Fixed s; bytes = x }

abbrev pub digits : Bool → List ℕ → Written
digits b x = record { spaced = b; kind = Number; bytes = x }

-- program made
abbrev pub program_words : List Written
program_words = word false (codes "program") ∷ word true (codes "made") ∷ []

-- integer :: u(SIZE), edge[*], me, left, k, i, s, t
abbrev pub declaration_front : List Written
declaration_front =
    word false (codes "integer") ∷ sign true signs.Colons (codes "::") ∷ word true (codes "u")
    ∷ sign false signs.OpenRound (codes "(") ∷ []

abbrev pub declaration_rest : List Written
declaration_rest =
    sign false signs.CloseRound (codes ")") ∷ sign false signs.Comma (codes ",") ∷ word true (codes "edge")
    ∷ sign false signs.OpenSquare (codes "[") ∷ sign false signs.Star (codes "*")
    ∷ sign false signs.CloseSquare (codes "]") ∷ sign false signs.Comma (codes ",") ∷ word true (codes "me")
    ∷ sign false signs.Comma (codes ",") ∷ word true (codes "left") ∷ sign false signs.Comma (codes ",")
    ∷ word true (codes "k") ∷ sign false signs.Comma (codes ",") ∷ word true (codes "i")
    ∷ sign false signs.Comma (codes ",") ∷ word true (codes "s") ∷ sign false signs.Comma (codes ",")
    ∷ word true (codes "t") ∷ []

abbrev pub declaration_words : ℕ → List Written
declaration_words size = declaration_front ++ numeral false size ∷ declaration_rest

-- me = this_image()
abbrev pub image_words : List Written
image_words =
    word false (codes "me") ∷ sign true signs.Assign (codes "=") ∷ word true (codes "this_image")
    ∷ sign false signs.OpenRound (codes "(") ∷ sign false signs.CloseRound (codes ")") ∷ []

-- left = me - 1
abbrev pub left_words : List Written
left_words =
    word false (codes "left") ∷ sign true signs.Assign (codes "=") ∷ word true (codes "me")
    ∷ sign true signs.Minus (codes "-") ∷ digits true (codes "1") ∷ []

-- if (left == 0) left = num_images()
abbrev pub wrap_words : List Written
wrap_words =
    word false (codes "if") ∷ sign true signs.OpenRound (codes "(") ∷ word false (codes "left")
    ∷ sign true signs.Equal (codes "==") ∷ digits true (codes "0") ∷ sign false signs.CloseRound (codes ")")
    ∷ word true (codes "left") ∷ sign true signs.Assign (codes "=") ∷ word true (codes "num_images")
    ∷ sign false signs.OpenRound (codes "(") ∷ sign false signs.CloseRound (codes ")") ∷ []

-- do k = 1, 10
abbrev pub turn_words : List Written
turn_words =
    word false (codes "do") ∷ word true (codes "k") ∷ sign true signs.Assign (codes "=")
    ∷ digits true (codes "1") ∷ sign false signs.Comma (codes ",") ∷ digits true (codes "10") ∷ []

-- edge = u(SIZE)
abbrev pub edge_front : List Written
edge_front =
    word false (codes "edge") ∷ sign true signs.Assign (codes "=") ∷ word true (codes "u")
    ∷ sign false signs.OpenRound (codes "(") ∷ []

abbrev pub edge_rest : List Written
edge_rest = sign false signs.CloseRound (codes ")") ∷ []

abbrev pub edge_words : ℕ → List Written
edge_words size = edge_front ++ numeral false size ∷ edge_rest

-- sync all
abbrev pub sync_words : List Written
sync_words = word false (codes "sync") ∷ word true (codes "all") ∷ []

-- t = edge[left]
abbrev pub get_words : List Written
get_words =
    word false (codes "t") ∷ sign true signs.Assign (codes "=") ∷ word true (codes "edge")
    ∷ sign false signs.OpenSquare (codes "[") ∷ word false (codes "left")
    ∷ sign false signs.CloseSquare (codes "]") ∷ []

-- do i = SIZE, 2, -1
abbrev pub down_front : List Written
down_front = word false (codes "do") ∷ word true (codes "i") ∷ sign true signs.Assign (codes "=") ∷ []

abbrev pub down_rest : List Written
down_rest =
    sign false signs.Comma (codes ",") ∷ digits true (codes "2") ∷ sign false signs.Comma (codes ",")
    ∷ sign true signs.Minus (codes "-") ∷ digits false (codes "1") ∷ []

abbrev pub down_words : ℕ → List Written
down_words size = down_front ++ numeral true size ∷ down_rest

-- u(i) = u(i - 1)
abbrev pub move_words : List Written
move_words =
    word false (codes "u") ∷ sign false signs.OpenRound (codes "(") ∷ word false (codes "i")
    ∷ sign false signs.CloseRound (codes ")") ∷ sign true signs.Assign (codes "=") ∷ word true (codes "u")
    ∷ sign false signs.OpenRound (codes "(") ∷ word false (codes "i") ∷ sign true signs.Minus (codes "-")
    ∷ digits true (codes "1") ∷ sign false signs.CloseRound (codes ")") ∷ []

-- end do
abbrev pub over_words : List Written
over_words = word false (codes "end") ∷ word true (codes "do") ∷ []

-- u(1) = t
abbrev pub first_words : List Written
first_words =
    word false (codes "u") ∷ sign false signs.OpenRound (codes "(") ∷ digits false (codes "1")
    ∷ sign false signs.CloseRound (codes ")") ∷ sign true signs.Assign (codes "=") ∷ word true (codes "t")
    ∷ []

-- s = 0
abbrev pub zero_words : List Written
zero_words = word false (codes "s") ∷ sign true signs.Assign (codes "=") ∷ digits true (codes "0") ∷ []

-- do i = 1, SIZE
abbrev pub up_front : List Written
up_front =
    word false (codes "do") ∷ word true (codes "i") ∷ sign true signs.Assign (codes "=")
    ∷ digits true (codes "1") ∷ sign false signs.Comma (codes ",") ∷ []

abbrev pub up_rest : List Written
up_rest = []

abbrev pub up_words : ℕ → List Written
up_words size = up_front ++ numeral true size ∷ up_rest

-- s = s + u(i)
abbrev pub add_words : List Written
add_words =
    word false (codes "s") ∷ sign true signs.Assign (codes "=") ∷ word true (codes "s")
    ∷ sign true signs.Plus (codes "+") ∷ word true (codes "u") ∷ sign false signs.OpenRound (codes "(")
    ∷ word false (codes "i") ∷ sign false signs.CloseRound (codes ")") ∷ []

-- call co_sum(s)
abbrev pub call_words : List Written
call_words =
    word false (codes "call") ∷ word true (codes "co_sum") ∷ sign false signs.OpenRound (codes "(")
    ∷ word false (codes "s") ∷ sign false signs.CloseRound (codes ")") ∷ []

-- if (me == 1) print *, s
abbrev pub print_words : List Written
print_words =
    word false (codes "if") ∷ sign true signs.OpenRound (codes "(") ∷ word false (codes "me")
    ∷ sign true signs.Equal (codes "==") ∷ digits true (codes "1") ∷ sign false signs.CloseRound (codes ")")
    ∷ word true (codes "print") ∷ sign true signs.Star (codes "*") ∷ sign false signs.Comma (codes ",")
    ∷ word true (codes "s") ∷ []

-- end program made
abbrev pub end_words : List Written
end_words = word false (codes "end") ∷ word true (codes "program") ∷ word true (codes "made") ∷ []

-- u(J) = V
abbrev pub setting_front : List Written
setting_front = word false (codes "u") ∷ sign false signs.OpenRound (codes "(") ∷ []

abbrev pub setting_middle : List Written
setting_middle = sign false signs.CloseRound (codes ")") ∷ sign true signs.Assign (codes "=") ∷ []

abbrev pub setting_words : ℕ → ℕ → List Written
setting_words j v = setting_front ++ numeral false j ∷ (setting_middle ++ numeral true v ∷ [])

-- those of so many elements
abbrev pub settings_words : (ℕ → ℕ) → ℕ → ℕ → List (List Written)
settings_words value j zero = []
settings_words value j (suc n) = setting_words j (value j) ∷ settings_words value (j + 1) n

-- the lines behind them, but the last
abbrev pub sum_words : List (List Written)
sum_words = add_words ∷ over_words ∷ call_words ∷ print_words ∷ []

abbrev pub move_lines : ℕ → List (List Written)
move_lines size = move_words ∷ over_words ∷ first_words ∷ over_words ∷ zero_words ∷ up_words size ∷ sum_words

abbrev pub get_lines : ℕ → List (List Written)
get_lines size = sync_words ∷ get_words ∷ sync_words ∷ down_words size ∷ move_lines size

abbrev pub closing_words : ℕ → List (List Written)
closing_words size = turn_words ∷ edge_words size ∷ get_lines size

-- all lines
abbrev pub rest_words : (ℕ → ℕ) → ℕ → List (List Written)
rest_words value size = settings_words value 1 size ++ (closing_words size ++ end_words ∷ [])

abbrev pub made_words : (ℕ → ℕ) → ℕ → List (List Written)
made_words value size =
    program_words ∷ declaration_words size ∷ image_words ∷ left_words ∷ wrap_words ∷ rest_words value size
