-- Image selectors: expressions, and behind them specifiers.
use Rattle.std.specs.Prelude.{Bool, true, false, List, [], ◌∷◌}
use Rattle.reader_theory.specs.Readers.{both, many_by, behind}
use Rattle.fortran_tokens.specs.declared.token.Sign.TheVariants as sign
use Rattle.fortran_tree.specs.Expressions as s
use Rattle.fortran_tree.specs.Expressions.{Expression, Expressions, Specifiers}
use Rattle.fortran_grammar.specs.Phrases as p
use Rattle.fortran_grammar.specs.Phrases.{Phrase, ◌▸◌}
use Rattle.fortran_grammar.specs.ExpressionGrammar as g
use Rattle.expr_reader.specs.Reading.{Reader}
use Rattle.expr_reader.specs.Tests.{is_sign}
use Rattle.expr_reader.specs.Pieces.{Piece, value, named, piece, keyed, allowed, piece_in, named_piece}

abbrev pub Chosen : Type 0
Chosen = Expressions × Specifiers

abbrev pub chosen_phrase : Chosen → Phrase
chosen_phrase c = g.exprs c.0 ▸ g.more_specifiers c.1

abbrev pub is_named : Piece → Bool
is_named (named n e) = true
is_named a = false

-- behind a specifier stand specifiers alone
abbrev pub seen : Bool → Piece → Bool
seen b (named n e) = true
seen b a = b

abbrev pub choice : Bool → Piece → Phrase
choice false a = allowed keyed a
choice true a = p.only (is_named a) (piece a)

abbrev pub more_choices : Bool → List Piece → Phrase
more_choices b [] = p.nothing
more_choices b (a ∷ es) = p.sign sign.Comma ▸ choice b a ▸ more_choices (seen b a) es

abbrev pub choice_in : Bool → Reader Expression → Reader Piece
choice_in false r = piece_in keyed r
choice_in true r = named_piece r

abbrev pub values_of : List Piece → Expressions
values_of [] = s.no_expressions
values_of (value e ∷ es) = s.more_expressions e (values_of es)
values_of (a ∷ es) = values_of es

abbrev pub specifiers_of : List Piece → Specifiers
specifiers_of [] = s.no_specifiers
specifiers_of (named n e ∷ es) = s.more_specifiers n e (specifiers_of es)
specifiers_of (a ∷ es) = specifiers_of es

abbrev pub chosen : Expression → List Piece → Chosen
chosen e es = (s.more_expressions e (values_of es), specifiers_of es)

abbrev pub choices : Reader Expression → Reader Chosen
choices r = both chosen r (many_by (is_sign sign.Comma) (λ b. behind (is_sign sign.Comma) (choice_in b r)) seen false)
