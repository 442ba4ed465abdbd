-- Readers of what stands in brackets behind a name in a statement.
use Rattle.std.specs.Prelude.{List, Option}
use Rattle.fortran_tokens.specs.declared.token.Sign.TheVariants as sign
use Rattle.fortran_tree.specs.declared.name.Name.{Name}
use Rattle.fortran_tree.specs.Expressions.{Arguments}
use Rattle.expr_reader.specs.Designators.{subscript_list}
use Rattle.expr_reader.specs.Pieces.{Piece}
use Rattle.expr_reader.specs.Tests.{a_name, is_sign}
use Rattle.reader_theory.specs.Readers.{both, optional, pair}
use Rattle.statement_reader.specs.Actions.{arguments_list, some_arguments}
use Rattle.statement_reader.specs.Families.{Family, an_expression, rounded}

abbrev pub subscripts : Family (List Piece)
subscripts left = subscript_list (an_expression left)

abbrev pub argument_pieces : Family (List Piece)
argument_pieces left = arguments_list (an_expression left)

abbrev pub brackets : Family (Option (List Piece))
brackets left = optional (is_sign sign.OpenRound) (rounded subscripts left)

abbrev pub part : Family (Name × Option (List Piece))
part left = both pair a_name (brackets left)

abbrev pub maybe_arguments : Family (Option Arguments)
maybe_arguments left = optional (is_sign sign.OpenRound) (rounded some_arguments left)
