-- What may stand in the round brackets behind a name: subscripts, or arguments, as soon as it shows which.
use Rattle.std.specs.Prelude.{Bool, true, false, cond, List, [], ◌∷◌, Option, Some, None}
use Rattle.caf_base.specs.declared.place.Pos.{Pos}
use Rattle.reader_theory.specs.Words.{found}
use Rattle.reader_theory.specs.Readers.{token, both, both_by, many_by, mapped, pick, optional, ahead, behind, pair}
use Rattle.fortran_tokens.specs.declared.token.Sign.TheVariants as sign
use Rattle.fortran_tree.specs.declared.name.Name.{Name}
use Rattle.fortran_tree.specs.Expressions as s
use Rattle.fortran_tree.specs.Expressions.{Expression, OptionalExpression, SectionSubscript, SectionSubscripts, Arguments}
use Rattle.fortran_grammar.specs.Phrases as p
use Rattle.fortran_grammar.specs.Phrases.{Phrase, ◌▸◌}
use Rattle.fortran_grammar.specs.ExpressionGrammar as g
use Rattle.fortran_grammar.specs.Tokens.{Token}
use Rattle.expr_reader.specs.Openings.{opens}
use Rattle.expr_reader.specs.Reading.{Reader, place_of}
use Rattle.expr_reader.specs.Tests.{is_sign, is_word, a_name}

-- an expression, a triplet, or an argument with its keyword
pub data Piece : Type 0 where
  value : Expression → Piece
  range : OptionalExpression → OptionalExpression → OptionalExpression → Pos → Piece
  named : Name → Expression → Piece

abbrev pub piece : Piece → Phrase
piece (value e) = g.expr e
piece (range a b c at) = g.section_subscript (s.triplet a b c at)
piece (named n e) = g.specifier n e

-- what the pieces so far allow: no triplet behind a keyword, no keyword behind a triplet
pub data Mode : Type 0 where
  either ranged keyed : Mode

abbrev pub next_mode : Mode → Piece → Mode
next_mode m (value e) = m
next_mode m (range a b c at) = ranged
next_mode m (named n e) = keyed

abbrev pub fits : Mode → Piece → Bool
fits keyed (range a b c at) = false
fits ranged (named n e) = false
fits m x = true

-- the piece is no argument with a keyword
abbrev pub unnamed : Piece → Bool
unnamed (named n e) = false
unnamed x = true

abbrev pub made_optional : Option Expression → OptionalExpression
made_optional None = s.missing
made_optional (Some e) = s.given e

-- a colon and what follows it
abbrev pub Colon_part : Type 0
Colon_part = Token × (Option Expression × Option Expression)

abbrev pub colon_part : Reader Expression → Reader Colon_part
colon_part r = both pair (token (is_sign sign.Colon)) (both pair (optional (opens 1) r) (optional (is_sign sign.Colon) (behind (is_sign sign.Colon) r)))

abbrev pub open_range : Colon_part → Piece
open_range c = range s.missing (made_optional c.1.0) (made_optional c.1.1) c.0.at

abbrev pub with_range : Expression → Option Colon_part → Piece
with_range e None = value e
with_range e (Some c) = range (s.given e) (made_optional c.1.0) (made_optional c.1.1) (place_of e)

abbrev pub subscript_piece : Reader Expression → Reader Piece
subscript_piece r = pick (is_sign sign.Colon) (mapped open_range (colon_part r)) (both with_range r (optional (is_sign sign.Colon) (colon_part r)))

abbrev pub named_piece : Reader Expression → Reader Piece
named_piece r = both named a_name (behind (is_sign sign.Assign) r)

abbrev pub piece_in : Mode → Reader Expression → Reader Piece
piece_in ranged r = subscript_piece r
piece_in keyed r = ahead is_word (is_sign sign.Assign) (named_piece r) (mapped value r)
piece_in either r = ahead is_word (is_sign sign.Assign) (named_piece r) (subscript_piece r)

-- The list of them: as phrases, and as readers.
abbrev pub allowed : Mode → Piece → Phrase
allowed m a = p.only (fits m a) (piece a)

abbrev pub more_pieces : Mode → List Piece → Phrase
more_pieces m [] = p.nothing
more_pieces m (a ∷ es) = p.sign sign.Comma ▸ allowed m a ▸ more_pieces (next_mode m a) es

abbrev pub pieces : List Piece → Phrase
pieces [] = p.nothing
pieces (a ∷ es) = allowed either a ▸ more_pieces (next_mode either a) es

abbrev pub pieces_after : Reader Expression → Mode → Reader (List Piece)
pieces_after r m = many_by (is_sign sign.Comma) (λ m. behind (is_sign sign.Comma) (piece_in m r)) next_mode m

abbrev pub begins_piece : Token → Bool
begins_piece y = cond (is_sign sign.Colon y) true (opens 1 y)

abbrev pub pieces_or_none : Reader Expression → Reader (List Piece)
pieces_or_none r = pick begins_piece (both_by (λ a es. a ∷ es) (piece_in either r) (λ a. pieces_after r (next_mode either a))) (found [])

-- what the pieces are: a function's arguments where there are none, or where one has a keyword
abbrev pub has_name : List Piece → Bool
has_name [] = false
has_name (named n e ∷ es) = true
has_name (a ∷ es) = has_name es

abbrev pub is_call : List Piece → Bool
is_call [] = true
is_call (a ∷ es) = has_name (a ∷ es)

abbrev pub subscript_of : Piece → SectionSubscript
subscript_of (value e) = s.subscript e
subscript_of (range a b c at) = s.triplet a b c at
subscript_of (named n e) = s.subscript e

abbrev pub subscripts_of : List Piece → SectionSubscripts
subscripts_of [] = s.no_section_subscripts
subscripts_of (a ∷ es) = s.more_section_subscripts (subscript_of a) (subscripts_of es)

abbrev pub arguments_of : List Piece → Arguments
arguments_of [] = s.no_arguments
arguments_of (value e ∷ es) = s.more_arguments None e (arguments_of es)
arguments_of (range a b c at ∷ es) = arguments_of es
arguments_of (named n e ∷ es) = s.more_arguments (Some n) e (arguments_of es)
