-- The canonical tokens of an expression go on with a statement.
use Rattle.std.proofs.Common.{ℕ, Bool, true, false, Option, Some, None, refl}
use Rattle.caf_base.specs.declared.place.Pos.{Pos}
use Rattle.fortran_tokens.specs.declared.token.Sign.TheVariants as signs
use Rattle.fortran_tree.specs.declared.expr.PrefixOperator.{PrefixOperator}
use Rattle.fortran_tree.specs.declared.expr.PrefixOperator.TheVariants as prefixes
use Rattle.fortran_tree.specs.declared.expr.Operator.{Operator}
use Rattle.fortran_tree.specs.declared.expr.Operator.TheVariants as operators
use Rattle.fortran_tree.specs.declared.name.Name.{Name}
use Rattle.fortran_tree.specs.Expressions as s
use Rattle.fortran_tree.specs.Expressions.{Expression, Designator, Expressions, SectionSubscript, SectionSubscripts, OptionalExpression, ImageSelector, Specifiers, Arguments}
use Rattle.fortran_grammar.specs.Tokens as t
use Rattle.fortran_grammar.specs.Phrases as p
use Rattle.fortran_grammar.specs.Phrases.{Phrase}
use Rattle.fortran_grammar.specs.ExpressionGrammar as g
use Rattle.print_again.proofs.Leads.{Leads, leads_nothing, leads_never, leads_both, leads_only, leads_deeper, leads_from, leads_sign, leads_name, leads_integer, leads_sign_at, leads_round, leads_square}

leads_prefix : {b : Bool} {m : ℕ} (o : PrefixOperator) (at : Pos) → Leads b m (p.token_at at (t.sign (g.prefix_sign o))) true m
leads_prefix prefixes.Plus at = leads_sign_at signs.Plus at refl
leads_prefix prefixes.Minus at = leads_sign_at signs.Minus at refl
leads_prefix prefixes.Not at = leads_sign_at signs.Not at refl

leads_operator : {b : Bool} {m : ℕ} (o : Operator) → Leads b m (p.sign (g.operator_sign o)) true m
leads_operator operators.Power = leads_sign signs.Power refl
leads_operator operators.Multiply = leads_sign signs.Star refl
leads_operator operators.Divide = leads_sign signs.Slash refl
leads_operator operators.Add = leads_sign signs.Plus refl
leads_operator operators.Subtract = leads_sign signs.Minus refl
leads_operator operators.Equal = leads_sign signs.Equal refl
leads_operator operators.NotEqual = leads_sign signs.NotEqual refl
leads_operator operators.Less = leads_sign signs.Less refl
leads_operator operators.LessEqual = leads_sign signs.LessEqual refl
leads_operator operators.Greater = leads_sign signs.Greater refl
leads_operator operators.GreaterEqual = leads_sign signs.GreaterEqual refl
leads_operator operators.And = leads_sign signs.And refl
leads_operator operators.Or = leads_sign signs.Or refl
leads_operator operators.Eqv = leads_sign signs.Eqv refl
leads_operator operators.Neqv = leads_sign signs.Neqv refl

leads_right : {m : ℕ} (o : Operator) (P : Phrase) → Leads true m P true m → Leads true m (g.right_of o P) true m
leads_right operators.Power P f = leads_deeper f
leads_right o P f = f

leads_keyword : {m : ℕ} (k : Option Name) → Leads true m (g.keyword k) true m
leads_keyword None = leads_nothing
leads_keyword (Some n) = leads_both (leads_name n) (leads_sign signs.Assign refl)

mutual
  pub leads_expr : {b : Bool} {m : ℕ} (e : Expression) → Leads b m (g.expr e) true m
  leads_expr (s.number n k at) = leads_integer n k at
  leads_expr (s.logical true at) = leads_sign_at signs.True at refl
  leads_expr (s.logical false at) = leads_sign_at signs.False at refl
  leads_expr (s.designator x) = leads_designator x
  leads_expr (s.function_reference f args) = leads_only (leads_both (leads_name f) (leads_round (leads_arguments args)))
  leads_expr (s.parenthesized e at) = leads_from (leads_round (leads_expr e))
  leads_expr (s.array_constructor es at) = leads_from (leads_square (leads_exprs es))
  leads_expr (s.prefix o e at) = leads_only (leads_both (leads_prefix o at) (leads_deeper (leads_expr e)))
  leads_expr (s.binary o a b at) = leads_only (leads_from (leads_both (leads_expr a) (leads_both (leads_operator o) (leads_right o (g.expr b) (leads_expr b)))))

  leads_exprs : {m : ℕ} (es : Expressions) → Leads true m (g.exprs es) true m
  leads_exprs s.no_expressions = leads_never
  leads_exprs (s.more_expressions e es) = leads_both (leads_expr e) (leads_more_exprs es)

  leads_more_exprs : {m : ℕ} (es : Expressions) → Leads true m (g.more_exprs es) true m
  leads_more_exprs s.no_expressions = leads_nothing
  leads_more_exprs (s.more_expressions e es) = leads_both (leads_sign signs.Comma refl) (leads_both (leads_expr e) (leads_more_exprs es))

  pub leads_designator : {b : Bool} {m : ℕ} (x : Designator) → Leads b m (g.designator x) true m
  leads_designator (s.part_ref n subs c) = leads_both (leads_name n) (leads_both (leads_section_subscripts subs) (leads_image_selector c))

  leads_section_subscripts : {m : ℕ} (xs : SectionSubscripts) → Leads true m (g.section_subscripts xs) true m
  leads_section_subscripts s.no_section_subscripts = leads_nothing
  leads_section_subscripts (s.more_section_subscripts a more) = leads_round (leads_both (leads_section_subscript a) (leads_more_section_subscripts more))

  leads_more_section_subscripts : {m : ℕ} (xs : SectionSubscripts) → Leads true m (g.more_section_subscripts xs) true m
  leads_more_section_subscripts s.no_section_subscripts = leads_nothing
  leads_more_section_subscripts (s.more_section_subscripts a more) = leads_both (leads_sign signs.Comma refl) (leads_both (leads_section_subscript a) (leads_more_section_subscripts more))

  leads_section_subscript : {m : ℕ} (x : SectionSubscript) → Leads true m (g.section_subscript x) true m
  leads_section_subscript (s.subscript e) = leads_expr e
  leads_section_subscript (s.triplet a b c at) = leads_from (leads_both (leads_optional_expression a) (leads_both (leads_sign signs.Colon refl) (leads_both (leads_optional_expression b) (leads_stride c))))

  leads_optional_expression : {m : ℕ} (x : OptionalExpression) → Leads true m (g.optional_expression x) true m
  leads_optional_expression s.missing = leads_nothing
  leads_optional_expression (s.given e) = leads_expr e

  leads_stride : {m : ℕ} (x : OptionalExpression) → Leads true m (g.stride x) true m
  leads_stride s.missing = leads_nothing
  leads_stride (s.given e) = leads_both (leads_sign signs.Colon refl) (leads_expr e)

  leads_image_selector : {m : ℕ} (x : ImageSelector) → Leads true m (g.image_selector x) true m
  leads_image_selector s.no_image_selector = leads_nothing
  leads_image_selector (s.image_selector es ps) = leads_square (leads_both (leads_exprs es) (leads_more_specifiers ps))

  pub leads_more_specifiers : {m : ℕ} (x : Specifiers) → Leads true m (g.more_specifiers x) true m
  leads_more_specifiers s.no_specifiers = leads_nothing
  leads_more_specifiers (s.more_specifiers n e ps) = leads_both (leads_sign signs.Comma refl) (leads_both (leads_name n) (leads_both (leads_sign signs.Assign refl) (leads_both (leads_expr e) (leads_more_specifiers ps))))

  pub leads_arguments : {m : ℕ} (x : Arguments) → Leads true m (g.arguments x) true m
  leads_arguments s.no_arguments = leads_nothing
  leads_arguments (s.more_arguments k e more) = leads_both (leads_keyword k) (leads_both (leads_expr e) (leads_more_arguments more))

  leads_more_arguments : {m : ℕ} (x : Arguments) → Leads true m (g.more_arguments x) true m
  leads_more_arguments s.no_arguments = leads_nothing
  leads_more_arguments (s.more_arguments k e more) = leads_both (leads_sign signs.Comma refl) (leads_both (leads_keyword k) (leads_both (leads_expr e) (leads_more_arguments more)))
