-- Which tokens spell which expression (ISO/IEC 1539-1:2018, 10.1.2); the phrase of an expression is `expr`, as R1022
-- has it.
use Rattle.std.specs.Prelude.{ℕ, suc, nat_le, ◌&&◌, Bool, true, false, Option, Some, None}
use Rattle.fortran_tokens.specs.declared.token.Sign.{Sign}
use Rattle.fortran_tokens.specs.declared.token.Sign.TheVariants as sign
use Rattle.fortran_tree.specs.declared.expr.PrefixOperator.{PrefixOperator}
use Rattle.fortran_tree.specs.declared.expr.PrefixOperator.TheVariants as prefixes
use Rattle.fortran_tree.specs.declared.expr.Operator.{Operator}
use Rattle.fortran_tree.specs.declared.expr.Operator.TheVariants as operators
use Rattle.fortran_tree.specs.declared.name.Name.{Name}
use Rattle.fortran_tree.specs.Expressions as s
use Rattle.fortran_tree.specs.Expressions.{Expression, Designator, Expressions, SectionSubscript, SectionSubscripts, OptionalExpression, ImageSelector, Specifiers, Arguments}
use Rattle.fortran_grammar.specs.Tokens as t
use Rattle.fortran_grammar.specs.Phrases as p
use Rattle.fortran_grammar.specs.Phrases.{Phrase, nothing, never, ◌▸◌, ◌∪◌, only, deeper, from, name, round, square, token_at}

-- the signs of operators of one operand
abbrev pub prefix_sign : PrefixOperator → Sign
prefix_sign prefixes.Plus = sign.Plus
prefix_sign prefixes.Minus = sign.Minus
prefix_sign prefixes.Not = sign.Not

-- and of two operands
abbrev pub operator_sign : Operator → Sign
operator_sign operators.Power = sign.Power
operator_sign operators.Multiply = sign.Star
operator_sign operators.Divide = sign.Slash
operator_sign operators.Add = sign.Plus
operator_sign operators.Subtract = sign.Minus
operator_sign operators.Equal = sign.Equal
operator_sign operators.NotEqual = sign.NotEqual
operator_sign operators.Less = sign.Less
operator_sign operators.LessEqual = sign.LessEqual
operator_sign operators.Greater = sign.Greater
operator_sign operators.GreaterEqual = sign.GreaterEqual
operator_sign operators.And = sign.And
operator_sign operators.Or = sign.Or
operator_sign operators.Eqv = sign.Eqv
operator_sign operators.Neqv = sign.Neqv

-- the signs of logical literals
abbrev pub truth_sign : Bool → Sign
truth_sign true = sign.True
truth_sign false = sign.False

-- How tightly an operator binds (10.1.3, Table 10.1), loosest first: .eqv. .neqv. | .or. | .and. | .not. | one
-- relation | + - | * / | **
abbrev pub strength : Operator → ℕ
strength operators.Eqv = 1
strength operators.Neqv = 1
strength operators.Or = 2
strength operators.And = 3
strength operators.Add = 6
strength operators.Subtract = 6
strength operators.Multiply = 7
strength operators.Divide = 7
strength operators.Power = 8
strength relation = 5

-- and one of one operand
abbrev pub prefix_strength : PrefixOperator → ℕ
prefix_strength prefixes.Not = 4
prefix_strength sum = 6

-- how tightly an expression binds: as its outermost operator, a primary (R1001) most
abbrev pub rank : Expression → ℕ
rank (s.prefix o e at) = prefix_strength o
rank (s.binary o a b at) = strength o
rank primary = 9

-- how tightly the left operand must bind: from the left, but ** from the right, and one relation alone
abbrev pub left_rank : Operator → ℕ
left_rank operators.Eqv = 1
left_rank operators.Neqv = 1
left_rank operators.Or = 2
left_rank operators.And = 3
left_rank operators.Add = 6
left_rank operators.Subtract = 6
left_rank operators.Multiply = 7
left_rank operators.Divide = 7
left_rank operators.Power = 9
left_rank relation = 6

-- and the right one
abbrev pub right_rank : Operator → ℕ
right_rank operators.Power = 8
right_rank o = suc (strength o)

-- the right operand of ** is a level
abbrev pub right_of : Operator → Phrase → Phrase
right_of operators.Power P = deeper P
right_of o P = P

-- a keyword stands among the arguments
abbrev pub has_keyword : Arguments → Bool
has_keyword s.no_arguments = false
has_keyword (s.more_arguments None e more) = has_keyword more
has_keyword (s.more_arguments (Some n) e more) = true

-- there are no arguments, or one with a keyword
abbrev pub none_or_keyword : Arguments → Bool
none_or_keyword s.no_arguments = true
none_or_keyword (s.more_arguments k e more) = has_keyword (s.more_arguments k e more)

-- [ NAME "=" ]
abbrev pub keyword : Option Name → Phrase
keyword None = nothing
keyword (Some n) = name n ▸ p.sign sign.Assign

abbrev mutual
  pub expr : Expression → Phrase
  expr (s.number n k at) = token_at at (t.integer n k)
  expr (s.logical b at) = token_at at (t.sign (truth_sign b))
  expr (s.designator d) = designator d
  expr (s.function_reference f args) = only (none_or_keyword args) (name f ▸ round (arguments args))
  expr (s.parenthesized e at) = from at (round (expr e))
  expr (s.array_constructor es at) = from at (square (exprs es))
  expr (s.prefix o e at) = only (nat_le (suc (prefix_strength o)) (rank e)) (token_at at (t.sign (prefix_sign o)) ▸ deeper (expr e))
  expr (s.binary o a b at) = only (nat_le (left_rank o) (rank a) && nat_le (right_rank o) (rank b)) (from at (expr a ▸ p.sign (operator_sign o) ▸ right_of o (expr b)))

  -- expr { "," expr }
  pub exprs : Expressions → Phrase
  exprs s.no_expressions = never
  exprs (s.more_expressions e es) = expr e ▸ more_exprs es

  -- { "," expr }
  pub more_exprs : Expressions → Phrase
  more_exprs s.no_expressions = nothing
  more_exprs (s.more_expressions e es) = p.sign sign.Comma ▸ expr e ▸ more_exprs es

  -- NAME [ "(" section_subscript { "," section_subscript } ")" ] [ "[" expr { "," expr } { "," specifier } "]" ]
  pub designator : Designator → Phrase
  designator (s.part_ref n subs c) = name n ▸ section_subscripts subs ▸ image_selector c

  -- [ "(" section_subscript { "," section_subscript } ")" ]
  pub section_subscripts : SectionSubscripts → Phrase
  section_subscripts s.no_section_subscripts = nothing
  section_subscripts (s.more_section_subscripts a more) = round (section_subscript a ▸ more_section_subscripts more)

  -- { "," section_subscript }
  pub more_section_subscripts : SectionSubscripts → Phrase
  more_section_subscripts s.no_section_subscripts = nothing
  more_section_subscripts (s.more_section_subscripts a more) = p.sign sign.Comma ▸ section_subscript a ▸ more_section_subscripts more

  -- expr | [ expr ] ":" [ expr ] [ ":" expr ]
  pub section_subscript : SectionSubscript → Phrase
  section_subscript (s.subscript e) = expr e
  section_subscript (s.triplet a b c at) = from at (optional_expression a ▸ p.sign sign.Colon ▸ optional_expression b ▸ stride c)

  -- [ expr ]
  pub optional_expression : OptionalExpression → Phrase
  optional_expression s.missing = nothing
  optional_expression (s.given e) = expr e

  -- [ ":" expr ]
  pub stride : OptionalExpression → Phrase
  stride s.missing = nothing
  stride (s.given e) = p.sign sign.Colon ▸ expr e

  -- [ "[" expr { "," expr } { "," specifier } "]" ]
  pub image_selector : ImageSelector → Phrase
  image_selector s.no_image_selector = nothing
  image_selector (s.image_selector es ps) = square (exprs es ▸ more_specifiers ps)

  -- { "," specifier }
  pub more_specifiers : Specifiers → Phrase
  more_specifiers s.no_specifiers = nothing
  more_specifiers (s.more_specifiers n e ps) = p.sign sign.Comma ▸ name n ▸ p.sign sign.Assign ▸ expr e ▸ more_specifiers ps

  -- [ [ NAME "=" ] expr { "," [ NAME "=" ] expr } ]
  pub arguments : Arguments → Phrase
  arguments s.no_arguments = nothing
  arguments (s.more_arguments k e more) = keyword k ▸ expr e ▸ more_arguments more

  -- { "," [ NAME "=" ] expr }
  pub more_arguments : Arguments → Phrase
  more_arguments s.no_arguments = nothing
  more_arguments (s.more_arguments k e more) = p.sign sign.Comma ▸ keyword k ▸ expr e ▸ more_arguments more

-- NAME "=" expr
abbrev pub specifier : Name → Expression → Phrase
specifier n e = name n ▸ p.sign sign.Assign ▸ expr e
