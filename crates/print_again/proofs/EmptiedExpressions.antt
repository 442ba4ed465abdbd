-- An expression without its places.
use Rattle.std.proofs.Common.{suc, true, false, ◌&&◌, nat_le, Option, Some, None, ap}
use Rattle.std.specs.Option.{option_map}
use Rattle.fortran_tree.specs.declared.expr.Operator.{Operator}
use Rattle.fortran_tree.specs.declared.expr.Operator.TheVariants as operators
use Rattle.fortran_tree.specs.declared.name.Name.{Name}
use Rattle.fortran_tree.specs.Expressions as s
use Rattle.fortran_tree.specs.Expressions.{Expression, Designator, Expressions, SectionSubscript, SectionSubscripts, OptionalExpression, ImageSelector, Specifiers, Arguments}
use Rattle.fortran_grammar.specs.Phrases.{Phrase}
use Rattle.fortran_grammar.specs.ExpressionGrammar as g
use Rattle.print_again.specs.Unplaced as v
use Rattle.print_again.proofs.PlacedExpressions.{rank_unplaced, none_unplaced}
use Rattle.print_again.proofs.Emptied.{Emptied, emptied_nothing, emptied_never, emptied_token, emptied_at, emptied_both, emptied_only, emptied_deeper, emptied_from, emptied_name, emptied_round, emptied_square}

emptied_right : (o : Operator) (P Q : Phrase) → Emptied P Q → Emptied (g.right_of o P) (g.right_of o Q)
emptied_right operators.Power P Q f = emptied_deeper f
emptied_right o P Q f = f

emptied_keyword : (k : Option Name) → Emptied (g.keyword k) (g.keyword (option_map v.name k))
emptied_keyword None = emptied_nothing
emptied_keyword (Some n) = emptied_both (emptied_name n) emptied_token

mutual
  pub emptied_expr : (e : Expression) → Emptied (g.expr e) (g.expr (v.expression e))
  emptied_expr (s.number n k at) = emptied_at
  emptied_expr (s.logical true at) = emptied_at
  emptied_expr (s.logical false at) = emptied_at
  emptied_expr (s.designator x) = emptied_designator x
  emptied_expr (s.function_reference f args) = emptied_only (none_unplaced args) (emptied_both (emptied_name f) (emptied_round (emptied_arguments args)))
  emptied_expr (s.parenthesized e at) = emptied_from (emptied_round (emptied_expr e))
  emptied_expr (s.array_constructor es at) = emptied_from (emptied_square (emptied_exprs es))
  emptied_expr (s.prefix o e at) = emptied_only (ap (λ n. nat_le (suc (g.prefix_strength o)) n) (rank_unplaced e)) (emptied_both emptied_at (emptied_deeper (emptied_expr e)))
  emptied_expr (s.binary o a b at) = emptied_only (λ i. nat_le (g.left_rank o) (rank_unplaced a i) && nat_le (g.right_rank o) (rank_unplaced b i)) (emptied_from (emptied_both (emptied_expr a) (emptied_both emptied_token (emptied_right o (g.expr b) (g.expr (v.expression b)) (emptied_expr b)))))

  emptied_exprs : (es : Expressions) → Emptied (g.exprs es) (g.exprs (v.expressions es))
  emptied_exprs s.no_expressions = emptied_never
  emptied_exprs (s.more_expressions e es) = emptied_both (emptied_expr e) (emptied_more_exprs es)

  emptied_more_exprs : (es : Expressions) → Emptied (g.more_exprs es) (g.more_exprs (v.expressions es))
  emptied_more_exprs s.no_expressions = emptied_nothing
  emptied_more_exprs (s.more_expressions e es) = emptied_both emptied_token (emptied_both (emptied_expr e) (emptied_more_exprs es))

  pub emptied_designator : (x : Designator) → Emptied (g.designator x) (g.designator (v.designator x))
  emptied_designator (s.part_ref n subs c) = emptied_both (emptied_name n) (emptied_both (emptied_section_subscripts subs) (emptied_image_selector c))

  emptied_section_subscripts : (xs : SectionSubscripts) → Emptied (g.section_subscripts xs) (g.section_subscripts (v.section_subscripts xs))
  emptied_section_subscripts s.no_section_subscripts = emptied_nothing
  emptied_section_subscripts (s.more_section_subscripts a more) = emptied_round (emptied_both (emptied_section_subscript a) (emptied_more_section_subscripts more))

  emptied_more_section_subscripts : (xs : SectionSubscripts) → Emptied (g.more_section_subscripts xs) (g.more_section_subscripts (v.section_subscripts xs))
  emptied_more_section_subscripts s.no_section_subscripts = emptied_nothing
  emptied_more_section_subscripts (s.more_section_subscripts a more) = emptied_both emptied_token (emptied_both (emptied_section_subscript a) (emptied_more_section_subscripts more))

  emptied_section_subscript : (x : SectionSubscript) → Emptied (g.section_subscript x) (g.section_subscript (v.section_subscript x))
  emptied_section_subscript (s.subscript e) = emptied_expr e
  emptied_section_subscript (s.triplet a b c at) = emptied_from (emptied_both (emptied_optional_expression a) (emptied_both emptied_token (emptied_both (emptied_optional_expression b) (emptied_stride c))))

  emptied_optional_expression : (x : OptionalExpression) → Emptied (g.optional_expression x) (g.optional_expression (v.optional_expression x))
  emptied_optional_expression s.missing = emptied_nothing
  emptied_optional_expression (s.given e) = emptied_expr e

  emptied_stride : (x : OptionalExpression) → Emptied (g.stride x) (g.stride (v.optional_expression x))
  emptied_stride s.missing = emptied_nothing
  emptied_stride (s.given e) = emptied_both emptied_token (emptied_expr e)

  emptied_image_selector : (x : ImageSelector) → Emptied (g.image_selector x) (g.image_selector (v.image_selector x))
  emptied_image_selector s.no_image_selector = emptied_nothing
  emptied_image_selector (s.image_selector es ps) = emptied_square (emptied_both (emptied_exprs es) (emptied_more_specifiers ps))

  pub emptied_more_specifiers : (x : Specifiers) → Emptied (g.more_specifiers x) (g.more_specifiers (v.specifiers x))
  emptied_more_specifiers s.no_specifiers = emptied_nothing
  emptied_more_specifiers (s.more_specifiers n e ps) = emptied_both emptied_token (emptied_both (emptied_name n) (emptied_both emptied_token (emptied_both (emptied_expr e) (emptied_more_specifiers ps))))

  pub emptied_arguments : (x : Arguments) → Emptied (g.arguments x) (g.arguments (v.arguments x))
  emptied_arguments s.no_arguments = emptied_nothing
  emptied_arguments (s.more_arguments k e more) = emptied_both (emptied_keyword k) (emptied_both (emptied_expr e) (emptied_more_arguments more))

  emptied_more_arguments : (x : Arguments) → Emptied (g.more_arguments x) (g.more_arguments (v.arguments x))
  emptied_more_arguments s.no_arguments = emptied_nothing
  emptied_more_arguments (s.more_arguments k e more) = emptied_both emptied_token (emptied_both (emptied_keyword k) (emptied_both (emptied_expr e) (emptied_more_arguments more)))
