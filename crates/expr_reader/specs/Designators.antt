-- Designators alone, as an assignment or LOCK has them: subscripts without keywords, and an image selector.
use Rattle.std.specs.Prelude.{List, [], ◌∷◌, Option, Some, None}
use Rattle.reader_theory.specs.Readers.{both, both_by, optional, behind, pair}
use Rattle.fortran_tokens.specs.declared.token.Sign.TheVariants as sign
use Rattle.fortran_tree.specs.declared.name.Name.{Name}
use Rattle.fortran_tree.specs.Expressions as s
use Rattle.fortran_tree.specs.Expressions.{Expression, Designator, SectionSubscripts}
use Rattle.fortran_tree.specs.Statements as a
use Rattle.fortran_tree.specs.Statements.{ActionStatement}
use Rattle.fortran_grammar.specs.Phrases as p
use Rattle.fortran_grammar.specs.Phrases.{Phrase, ◌▸◌}
use Rattle.expr_reader.specs.Reading.{Reader}
use Rattle.expr_reader.specs.Tests.{is_sign, a_name}
use Rattle.expr_reader.specs.Pieces.{Piece, ranged, allowed, more_pieces, piece_in, pieces_after, subscripts_of, next_mode}
use Rattle.expr_reader.specs.Selectors.{Chosen}
use Rattle.expr_reader.specs.Full.{is_square, selector_of}

-- subscripts, one at least
abbrev pub subscript_pieces : List Piece → Phrase
subscript_pieces [] = p.never
subscript_pieces (x ∷ es) = allowed ranged x ▸ more_pieces (next_mode ranged x) es

abbrev pub subscript_list : Reader Expression → Reader (List Piece)
subscript_list r = both_by (λ x es. x ∷ es) (piece_in ranged r) (λ x. pieces_after r (next_mode ranged x))

abbrev pub subscripts_in_brackets : Option (List Piece) → SectionSubscripts
subscripts_in_brackets None = s.no_section_subscripts
subscripts_in_brackets (Some ps) = subscripts_of ps

abbrev pub designator_of : Name × Option (List Piece) → Option Chosen → Designator
designator_of nb c = s.part_ref nb.0 (subscripts_in_brackets nb.1) (selector_of c)

abbrev pub designator_reader : Reader (List Piece) → Reader Chosen → Reader Designator
designator_reader brackets selector = both designator_of (both pair a_name (optional (is_sign sign.OpenRound) brackets)) (optional is_square selector)

-- designator "=" expr
abbrev pub assignment_reader : Reader Designator → Reader Expression → Reader ActionStatement
assignment_reader d r = both a.assignment d (behind (is_sign sign.Assign) r)
