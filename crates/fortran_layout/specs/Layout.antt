-- How tokens are laid in lines of 1,000 bytes at most.
use Rattle.std.specs.Prelude.{ℕ, ◌+◌, cond, nat_eq, nat_le, List, [], ◌++◌, length, codes, fold}
use Rattle.fortran_grammar.specs.Tokens.{Tok, word, integer, literal, sign, over}
use Rattle.fortran_layout.specs.Spelling.{sign_text, number_text, uncut_parts, literal_text}

-- the text so far, and how many bytes its last line has
pub record Sheet : Type 0 where
  pub text : List ℕ
  pub column : ℕ

-- no text yet
abbrev pub blank : Sheet
blank = record { text = []; column = 0 }

-- a token: first in its line, or behind one blank where it and ` &` behind it still fit, else in the next line
unfoldable pub put : Sheet → List ℕ → Sheet
put s x = cond (nat_eq s.column 0) (record { text = s.text ++ x; column = length x })
    (cond (nat_le (s.column + 1 + length x + 2) 1000) (record { text = s.text ++ (codes " " ++ x); column = s.column + 1 + length x })
    (record { text = s.text ++ (codes " &\n" ++ x); column = length x }))

-- the text so far, its last line continued where it isn't empty
abbrev pub fresh : Sheet → List ℕ
fresh s = cond (nat_eq s.column 0) s.text (s.text ++ codes " &\n")

-- the text so far, and how many bytes of a long literal its last line has
pub record Pour : Type 0 where
  pub text : List ℕ
  pub used : ℕ

-- a part of a long literal that isn't cut: in the line while it has no more than 990 bytes of the literal, else in the
-- next line
abbrev pub poured : Pour → List ℕ → Pour
poured s c = cond (nat_le (s.used + length c) 990) (record { text = s.text ++ c; used = s.used + length c }) (record { text = s.text ++ (codes "&\n&" ++ c); used = length c })

-- a long literal, part by part, behind the text so far
abbrev pub pour : Sheet → List ℕ → Pour
pour s x = fold poured (record { text = fresh s; used = 0 }) (uncut_parts x)

-- a literal of more than 990 bytes begins a line of its own, and its last line has an `&` before it
unfoldable pub put_literal : Sheet → List ℕ → Sheet
put_literal s x = cond (nat_le (length (literal_text x)) 990) (put s (literal_text x)) (record { text = (pour s x).text; column = 1 + (pour s x).used })

-- a statement ends with its line
unfoldable pub end_line : Sheet → Sheet
end_line s = record { text = s.text ++ codes "\n"; column = 0 }

-- one token more
abbrev pub laid : Sheet → Tok → Sheet
laid s (word x) = put s x
laid s (integer n k) = put s (number_text n k)
laid s (literal x) = put_literal s x
laid s (sign x) = put s (sign_text x)
laid s over = end_line s

-- the text of these tokens
abbrev pub laid_text : List Tok → List ℕ
laid_text ts = (fold laid blank ts).text
