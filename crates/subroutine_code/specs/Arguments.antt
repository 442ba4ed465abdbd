-- The arguments of intrinsic subroutines in memory, as what puts them down.
use Rattle.std.specs.Prelude.{List, map}
use Rattle.checked_tree.specs.ExpressionViews as view
use Rattle.tree_meaning.specs.Environment.{Environment}
use Rattle.tree_meaning.specs.Pieces.{Piece}
use Rattle.tree_meaning.specs.Subroutines.{value_piece, optional_piece, result_piece, stat_piece, cell_piece, collected_piece}
use Rattle.subroutine_code.specs.declared.argument.ArgumentOf.{ArgumentOf}
use Rattle.subroutine_code.specs.declared.argument.ArgumentOf.TheVariants as arguments

abbrev pub piece : Environment → ArgumentOf → Piece
piece e (arguments.Value x) = value_piece e (view.expression x.now)
piece e (arguments.OptionalValue x) = optional_piece e (view.maybe_expression x.now)
piece e (arguments.Result x) = result_piece e (view.result_variable x.now)
piece e (arguments.Stat x) = stat_piece e (view.maybe_result x.now)
piece e (arguments.Cell x) = cell_piece e (view.designator x.now)
piece e (arguments.Whole x) = collected_piece e (view.designator x.now.variable) x.now.rank

abbrev pub pieces : Environment → List ArgumentOf → List Piece
pieces e xs = map (piece e) xs
