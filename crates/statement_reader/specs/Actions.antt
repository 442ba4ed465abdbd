-- Readers of the actions that begin with a keyword, without lists of objects (ISO/IEC 1539-1:2018, clauses 11 and 12).
use Rattle.std.specs.Prelude.{ℕ, Bool, true, cond, List, [], ◌∷◌, Option}
use Rattle.reader_theory.specs.Words.{found}
use Rattle.reader_theory.specs.Readers.{token, both, both_by, mapped, pick, optional, behind, pair}
use Rattle.fortran_tokens.specs.declared.token.Sign.TheVariants as sign
use Rattle.fortran_tree.specs.declared.name.Name.{Name}
use Rattle.fortran_tree.specs.Expressions as e
use Rattle.fortran_tree.specs.Expressions.{Expression, Designator, Specifiers, Arguments}
use Rattle.fortran_tree.specs.Statements as s
use Rattle.fortran_tree.specs.Statements.{ActionStatement, Format, Item, ImageSet}
use Rattle.fortran_grammar.specs.Phrases as p
use Rattle.fortran_grammar.specs.Phrases.{Phrase, ◌▸◌}
use Rattle.fortran_grammar.specs.ExpressionGrammar as g
use Rattle.fortran_grammar.specs.Tokens.{Token}
use Rattle.expr_reader.specs.Openings.{opens}
use Rattle.expr_reader.specs.Reading.{Reader}
use Rattle.expr_reader.specs.Tests.{is_sign, is_key, is_word, a_name, followed_by}
use Rattle.expr_reader.specs.Pieces.{Piece, keyed, allowed, more_pieces, next_mode, piece_in, pieces_after, arguments_of}
use Rattle.expr_reader.specs.Selectors.{choices}
use Rattle.expr_reader.specs.Designators.{subscript_list, designator_reader}
use Rattle.statement_reader.specs.Statements.{is_literal, format_reader, item_reader, print_list}
use Rattle.statement_reader.specs.Families.{Family, rounded, squared, an_expression, maybe_list}

-- NAME "=" expr
abbrev pub Assigned : Type 0
Assigned = Name × Expression

abbrev pub assigned : Assigned → Phrase
assigned q = g.specifier q.0 q.1

abbrev pub a_specifier : Family Assigned
a_specifier left = both pair a_name (behind (is_sign sign.Assign) (an_expression left))

abbrev pub specifiers_from : List Assigned → Specifiers
specifiers_from [] = e.no_specifiers
specifiers_from (q ∷ qs) = e.more_specifiers q.0 q.1 (specifiers_from qs)

-- { "," specifier }
abbrev pub further_specifiers : Family Specifiers
further_specifiers left = mapped specifiers_from (followed_by (a_specifier left))

-- [ specifier { "," specifier } ]
abbrev pub any_specifiers : Family Specifiers
any_specifiers left = mapped specifiers_from (maybe_list is_word (a_specifier left))

-- [ "(" [ specifier { "," specifier } ] ")" ]
abbrev pub maybe_specifiers : Family (Option Specifiers)
maybe_specifiers left = optional (is_sign sign.OpenRound) (rounded any_specifiers left)

-- a designator, and what stands behind it in the brackets of LOCK or EVENT POST
abbrev pub a_designator : Family Designator
a_designator left = designator_reader (rounded (λ l. subscript_list (an_expression l)) left) (squared (λ l. choices (an_expression l)) left)

abbrev pub an_object : Family (Designator × Specifiers)
an_object left = both pair (a_designator left) (further_specifiers left)

-- in the brackets of SYNC TEAM, of FORM TEAM and of SYNC IMAGES
abbrev pub a_team : Family (Expression × Specifiers)
a_team left = both pair (an_expression left) (further_specifiers left)

abbrev pub a_new_team : Family (Expression × (Name × Specifiers))
a_new_team left = both pair (an_expression left) (behind (is_sign sign.Comma) (both pair a_name (further_specifiers left)))

abbrev pub every_image : Token → ImageSet
every_image x = s.all_images

abbrev pub an_image_set : Family ImageSet
an_image_set left = pick (is_sign sign.Star) (mapped every_image (token (is_sign sign.Star))) (mapped s.images (an_expression left))

abbrev pub some_images : Family (ImageSet × Specifiers)
some_images left = both pair (an_image_set left) (further_specifiers left)

-- arguments: a keyword may stand before each, and no triplet stands among them
abbrev pub argument_pieces : List Piece → Phrase
argument_pieces [] = p.nothing
argument_pieces (a ∷ es) = allowed keyed a ▸ more_pieces (next_mode keyed a) es

abbrev pub arguments_list : Reader Expression → Reader (List Piece)
arguments_list r = pick (opens 1) (both_by (λ a es. a ∷ es) (piece_in keyed r) (λ a. pieces_after r (next_mode keyed a))) (found [])

abbrev pub some_arguments : Family Arguments
some_arguments left = mapped arguments_of (arguments_list (an_expression left))

abbrev pub a_call : Family (Name × Option Arguments)
a_call left = both pair a_name (optional (is_sign sign.OpenRound) (rounded some_arguments left))

-- PRINT without its keyword, and WRITE: the format stands in brackets behind an asterisk
abbrev pub begins_item : Token → Bool
begins_item y = cond (is_literal y) true (opens 1 y)

abbrev pub written_format : Family Format
written_format left = behind (is_sign sign.Star) (behind (is_sign sign.Comma) format_reader)

abbrev pub a_write : Family (Format × List Item)
a_write left = both pair (rounded written_format left) (maybe_list begins_item (item_reader (an_expression left)))

abbrev pub a_print : Family (Format × List Item)
a_print left = print_list (an_expression left)

-- [ NAME ] of EXIT and CYCLE, [ expr ] of STOP
abbrev pub maybe_name : Family (Option Name)
maybe_name left = optional is_word a_name

abbrev pub maybe_expression : Family (Option Expression)
maybe_expression left = optional (opens 1) (an_expression left)

-- two parts as an action
abbrev pub of_two : {A B : Type 0} → (A → B → ActionStatement) → A × B → ActionStatement
of_two f q = f q.0 q.1

abbrev pub of_three : {A B C : Type 0} → (A → B → C → ActionStatement) → A × (B × C) → ActionStatement
of_three f q = f q.0 q.1.0 q.1.1

abbrev pub of_none : ActionStatement → Unit {0} → ActionStatement
of_none a z = a

abbrev pub a_key : List ℕ → Family (Unit {0})
a_key k left = mapped (λ z. tt) (token (is_key k))
