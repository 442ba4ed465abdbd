-- The texts of tokens, written out with blanks.
use Rattle.std.specs.Prelude.{ℕ, ◌-◌, List, [], ◌∷◌, ◌++◌, take, drop, map}
use Rattle.fortran_tokens.specs.declared.token.TokenKind.{TokenKind}
use Rattle.fortran_tokens.specs.declared.cut.Piece.{Piece}

-- a token's kind and text
abbrev pub word_of : List ℕ → Piece → TokenKind × List ℕ
word_of text p = (p.kind, take (p.to - p.from) (drop p.from text))

-- the kinds and texts of tokens
abbrev pub words_of : List ℕ → List Piece → List (TokenKind × List ℕ)
words_of text ps = map (word_of text) ps

-- the texts of tokens, with a blank behind each
abbrev pub spaced : List (TokenKind × List ℕ) → List ℕ
spaced [] = []
spaced (w ∷ ws) = w.1 ++ 32 ∷ spaced ws
