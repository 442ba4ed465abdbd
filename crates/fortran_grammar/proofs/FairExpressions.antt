-- Where an expression is spelled, its canonical tokens spell it.
use Rattle.std.proofs.Common.{ℕ, suc, Option, Some, None}
use Rattle.fortran_tree.specs.declared.expr.Operator.{Operator}
use Rattle.fortran_tree.specs.declared.expr.Operator.TheVariants as operators
use Rattle.fortran_tree.specs.declared.name.Name.{Name}
use Rattle.fortran_tree.specs.Expressions as s
use Rattle.fortran_tree.specs.Expressions.{Expression, Designator, Expressions, SectionSubscript, SectionSubscripts, OptionalExpression, ImageSelector, Specifiers, Arguments}
use Rattle.fortran_grammar.specs.Phrases.{Phrase, ◌▸◌}
use Rattle.fortran_grammar.specs.ExpressionGrammar as g
use Rattle.fortran_grammar.proofs.Canonical.{Fair, fair_square}

fair_right : (o : Operator) (P : Phrase) (l d : ℕ) → Fair P l d → Fair P l (suc d) → Fair (g.right_of o P) l d
fair_right operators.Power P l d a b = b
fair_right o P l d a b = a

fair_keyword : (k : Option Name) (l d : ℕ) → Fair (g.keyword k) l d
fair_keyword None l d = tt
fair_keyword (Some n) l d = (tt, tt)

mutual
  pub fair_expr : (e : Expression) (l d : ℕ) → Fair (g.expr e) l d
  fair_expr (s.number n k at) l d = tt
  fair_expr (s.logical b at) l d = tt
  fair_expr (s.designator x) l d = fair_designator x l d
  fair_expr (s.function_reference f args) l d = (tt, (tt, (fair_arguments args l (suc d), tt)))
  fair_expr (s.parenthesized e at) l d = (tt, (fair_expr e l (suc d), tt))
  fair_expr (s.array_constructor es at) l d = fair_square (g.exprs es) l d (fair_exprs es l (suc d))
  fair_expr (s.prefix o e at) l d = (tt, fair_expr e l (suc d))
  fair_expr (s.binary o a b at) l d = (fair_expr a l d, (tt, fair_right o (g.expr b) l d (fair_expr b l d) (fair_expr b l (suc d))))

  fair_exprs : (es : Expressions) (l d : ℕ) → Fair (g.exprs es) l d
  fair_exprs s.no_expressions l d = tt
  fair_exprs (s.more_expressions e es) l d = (fair_expr e l d, fair_more_exprs es l d)

  fair_more_exprs : (es : Expressions) (l d : ℕ) → Fair (g.more_exprs es) l d
  fair_more_exprs s.no_expressions l d = tt
  fair_more_exprs (s.more_expressions e es) l d = (tt, (fair_expr e l d, fair_more_exprs es l d))

  pub fair_designator : (x : Designator) (l d : ℕ) → Fair (g.designator x) l d
  fair_designator (s.part_ref n subs c) l d = (tt, (fair_section_subscripts subs l d, fair_image_selector c l d))

  fair_section_subscripts : (xs : SectionSubscripts) (l d : ℕ) → Fair (g.section_subscripts xs) l d
  fair_section_subscripts s.no_section_subscripts l d = tt
  fair_section_subscripts (s.more_section_subscripts a more) l d = (tt, ((fair_section_subscript a l (suc d), fair_more_section_subscripts more l (suc d)), tt))

  fair_more_section_subscripts : (xs : SectionSubscripts) (l d : ℕ) → Fair (g.more_section_subscripts xs) l d
  fair_more_section_subscripts s.no_section_subscripts l d = tt
  fair_more_section_subscripts (s.more_section_subscripts a more) l d = (tt, (fair_section_subscript a l d, fair_more_section_subscripts more l d))

  fair_section_subscript : (x : SectionSubscript) (l d : ℕ) → Fair (g.section_subscript x) l d
  fair_section_subscript (s.subscript e) l d = fair_expr e l d
  fair_section_subscript (s.triplet a b c at) l d = (fair_optional_expression a l d, (tt, (fair_optional_expression b l d, fair_stride c l d)))

  fair_optional_expression : (x : OptionalExpression) (l d : ℕ) → Fair (g.optional_expression x) l d
  fair_optional_expression s.missing l d = tt
  fair_optional_expression (s.given e) l d = fair_expr e l d

  fair_stride : (x : OptionalExpression) (l d : ℕ) → Fair (g.stride x) l d
  fair_stride s.missing l d = tt
  fair_stride (s.given e) l d = (tt, fair_expr e l d)

  fair_image_selector : (x : ImageSelector) (l d : ℕ) → Fair (g.image_selector x) l d
  fair_image_selector s.no_image_selector l d = tt
  fair_image_selector (s.image_selector es ps) l d = fair_square (g.exprs es ▸ g.more_specifiers ps) l d (fair_exprs es l (suc d), fair_more_specifiers ps l (suc d))

  pub fair_more_specifiers : (x : Specifiers) (l d : ℕ) → Fair (g.more_specifiers x) l d
  fair_more_specifiers s.no_specifiers l d = tt
  fair_more_specifiers (s.more_specifiers n e ps) l d = (tt, (tt, (tt, (fair_expr e l d, fair_more_specifiers ps l d))))

  pub fair_arguments : (x : Arguments) (l d : ℕ) → Fair (g.arguments x) l d
  fair_arguments s.no_arguments l d = tt
  fair_arguments (s.more_arguments k e more) l d = (fair_keyword k l d, (fair_expr e l d, fair_more_arguments more l d))

  fair_more_arguments : (x : Arguments) (l d : ℕ) → Fair (g.more_arguments x) l d
  fair_more_arguments s.no_arguments l d = tt
  fair_more_arguments (s.more_arguments k e more) l d = (tt, (fair_keyword k l d, (fair_expr e l d, fair_more_arguments more l d)))
