-- Lines that are written token by token, and the grammar's tokens that they stand for.
use Rattle.std.specs.Prelude.{ℕ, ◌≡◌, ◌+◌, Bool, true, false, ◌&&◌, nat_lt, List, [], ◌∷◌, ◌++◌, length, ⊤}
use Rattle.fortran_tokens.specs.declared.token.TokenKind.{TokenKind}
use Rattle.fortran_tokens.specs.Cuts.{IsToken}
use Rattle.fortran_tokens.specs.Tokens.{depth_behind, is_colons}
use Rattle.fortran_grammar.specs.Tokens as t
use Rattle.fortran_grammar.specs.Tokens.{Token}
use Rattle.expr_reader.specs.Plain.{tok_of}
use Rattle.plain_lines.specs.PlainLines.{IsPlainLine}

-- a token as it is written: whether a blank stands before it, what it is, and its bytes
pub record Written : Type 0 where
  pub spaced : Bool
  pub kind : TokenKind
  pub bytes : List ℕ

-- one blank, or none
abbrev pub space : Bool → List ℕ
space true = 32 ∷ []
space false = []

abbrev pub gap : Bool → ℕ
gap true = 1
gap false = 0

-- the bytes of a line
abbrev pub line_of : List Written → List ℕ
line_of [] = []
line_of (w ∷ ws) = space w.spaced ++ (w.bytes ++ line_of ws)

-- each is the longest token where it begins, within the limits, and no `::` stands within brackets, of which so many
-- are open
abbrev pub AreFound : ℕ → List Written → Type 0
AreFound d [] = ⊤
AreFound d (w ∷ ws) =
    IsToken (w.bytes ++ line_of ws) w.kind (length w.bytes) × ((is_colons w.kind && nat_lt 0 d) ≡ false) × AreFound (depth_behind d w.kind) ws

-- a plain line of such tokens
pub record IsWrittenLine (ws : List Written) : Type 0 where
  pub plain : IsPlainLine (line_of ws)
  pub found : AreFound 0 ws

-- the grammar's tokens of a line from a column on: each at its first byte, and the end just past the last one
abbrev pub tokens_from : ℕ → ℕ → List Written → List Token
tokens_from line col [] = record { tok = t.over; at = record { line = line; col = col } } ∷ []
tokens_from line col (w ∷ ws) =
    record { tok = tok_of w.kind w.bytes; at = record { line = line; col = col + gap w.spaced } }
    ∷ tokens_from line ((col + gap w.spaced) + length w.bytes) ws

-- those of lines that are numbered from this number on
abbrev pub tokens_of_lines : ℕ → List (List Written) → List Token
tokens_of_lines n [] = []
tokens_of_lines n (ws ∷ more) = tokens_from n 1 ws ++ tokens_of_lines (n + 1) more
