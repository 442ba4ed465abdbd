-- Pieces in memory, and which of them a list may go on with.
use Rattle.std.specs.Prelude.{Bool, true, false, List, [], ◌∷◌, ◌++◌, Option, Some, None}
use Rattle.std.specs.declared.alloc.Global.{Global}
use Rattle.std.specs.declared.vec.Vec.{Vec}
use Rattle.std.specs.declared.boxed.Box.{Box}
use Rattle.reader_theory.specs.Readers.{two_pass, many_by, behind, both, optional, pair}
use Rattle.fortran_tokens.specs.declared.token.Sign.TheVariants as sign
use Rattle.fortran_tree.specs.declared.expr.Expr.{Expr}
use Rattle.fortran_tree.specs.declared.expr.Specifier.{Specifier}
use Rattle.fortran_tree.specs.Expressions.{Expression}
use Rattle.fortran_tree.specs.ExpressionViews.{expression, expressions, specifiers, optional_expression}
use Rattle.fortran_grammar.specs.Tokens.{Token}
use Rattle.expr_reader.specs.declared.piece.Piece.{Piece as Held}
use Rattle.expr_reader.specs.declared.piece.Piece.TheVariants as held
use Rattle.expr_reader.specs.declared.piece.Mode.{Mode}
use Rattle.expr_reader.specs.declared.piece.Mode.TheVariants as modes
use Rattle.expr_reader.specs.Openings.{opens}
use Rattle.expr_reader.specs.Reading.{Reader}
use Rattle.expr_reader.specs.Tests.{is_sign, is_word}
use Rattle.expr_reader.specs.Pieces.{Piece, begins_piece, value, range, named, either, ranged, keyed, piece_in, named_piece}
use Rattle.expr_reader.specs.Selectors.{Chosen}

-- what a piece in memory stands for
abbrev pub piece_of : Held → Piece
piece_of (held.Value e) = value (expression e)
piece_of (held.Range a b c at) = range (optional_expression a) (optional_expression b) (optional_expression c) at
piece_of (held.Named n e) = named n (expression e)

abbrev pub pieces_of : List Held → List Piece
pieces_of [] = []
pieces_of (a ∷ es) = piece_of a ∷ pieces_of es

-- parts that may be missing
abbrev pub held_pieces : Option (Vec Held Global) → Option (List Piece)
held_pieces None = None
held_pieces (Some v) = Some (pieces_of v.items)

abbrev pub held_chosen : Option (Vec Expr Global × Vec Specifier Global) → Option Chosen
held_chosen None = None
held_chosen (Some c) = Some (expressions c.0.items, specifiers c.1.items)

abbrev pub held_optional : Option (Box Expr Global) → Option Expression
held_optional None = None
held_optional (Some e) = Some (expression e.value)

-- what may be there, as a list
abbrev pub option_items : {A : Type 0} → Option A → List A
option_items None = []
option_items (Some a) = a ∷ []

-- what may follow a piece
abbrev pub mode_after : Mode → Piece → Mode
mode_after modes.Choice (named n e) = modes.Specifiers
mode_after modes.Choice a = modes.Choice
mode_after modes.Specifiers a = modes.Specifiers
mode_after m (value e) = m
mode_after m (range a b c at) = modes.Ranged
mode_after m (named n e) = modes.Keyed

-- a name and `=` stand here
abbrev pub named_here : List Token → Bool
named_here ts = two_pass is_word (is_sign sign.Assign) ts

-- a piece with a keyword stands here, or must
abbrev pub takes_keyword : Mode → List Token → Bool
takes_keyword modes.Ranged ts = false
takes_keyword modes.Specifiers ts = true
takes_keyword m ts = named_here ts

-- a triplet may stand here
abbrev pub takes_range : Mode → Bool
takes_range modes.Either = true
takes_range modes.Ranged = true
takes_range m = false

-- a piece, and further ones
abbrev pub piece_by : Mode → Reader Expression → Reader Piece
piece_by modes.Either r = piece_in either r
piece_by modes.Ranged r = piece_in ranged r
piece_by modes.Keyed r = piece_in keyed r
piece_by modes.Choice r = piece_in keyed r
piece_by modes.Specifiers r = named_piece r

abbrev pub further : Mode → Reader Expression → Reader (List Piece)
further m r = many_by (is_sign sign.Comma) (λ m. behind (is_sign sign.Comma) (piece_by m r)) mode_after m

-- the pieces so far and further ones
abbrev pub grown : List Piece → List Piece → List Piece
grown a es = a ++ es

-- the expressions of a list
abbrev pub expression_list : List Expr → List Expression
expression_list [] = []
expression_list (e ∷ es) = expression e ∷ expression_list es

abbrev pub grown_list : List Expression → List Expression → List Expression
grown_list a es = a ++ es

-- the upper bound and the stride of a triplet
abbrev pub bounds : Reader Expression → Reader (Option Expression × Option Expression)
bounds r = both pair (optional (opens 1) r) (optional (is_sign sign.Colon) (behind (is_sign sign.Colon) r))

-- a piece begins here
abbrev pub piece_here : List Token → Bool
piece_here [] = false
piece_here (x ∷ ts) = begins_piece x
