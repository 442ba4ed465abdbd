-- The lines of a text of laid tokens.
use Rattle.std.specs.Prelude.{ℕ, ◌≡◌, ◌+◌, Bool, true, cond, not, ◌&&◌, nat_eq, nat_le, List, [], ◌∷◌, length}
use Rattle.std.specs.List.{list_all}
use Rattle.fortran_grammar.specs.Tokens.{Tok, word, integer, literal}
use Rattle.fortran_layout.specs.Spelling.{number_text}
use Rattle.fortran_layout.specs.Layout.{laid_text}

-- each line of the text has 1,000 bytes at most, where so many bytes of its first line stand before it
abbrev pub has_short_lines : ℕ → List ℕ → Bool
has_short_lines c [] = nat_le c 1000
has_short_lines c (b ∷ t) = cond (nat_eq b 10) (nat_le c 1000 && has_short_lines 0 t) (has_short_lines (c + 1) t)

-- no line feed
abbrev pub no_feed : List ℕ → Bool
no_feed x = list_all (λ b. not (nat_eq b 10)) x

-- a token that has no line feed, and of which a line can hold the spelling and ` &`; as names of 63 characters and
-- numbers have
abbrev pub has_room : Tok → Bool
has_room (word x) = no_feed x && nat_le (length x) 998
has_room (integer n k) = no_feed (number_text n k) && nat_le (length (number_text n k)) 998
has_room (literal x) = no_feed x
has_room t = true

-- where each token has room, no line of their text has more than 1,000 bytes
abbrev pub LaidLinesFit : Type 0
LaidLinesFit = (ts : List Tok) → list_all has_room ts ≡ true → has_short_lines 0 (laid_text ts) ≡ true
